use Rattle.std.proofs.Common.{◌≡◌, arith, length, reverse, subst, sym}
use Rattle.std.proofs.lemmas.Grind.{common_steps}
use Rattle.std.specs.Range.Bound.{bound_map}
use Rattle.zerotrie_base.specs.Kind.{kind_with}
use Rattle.zerotrie_core.specs.WellFormed.{IsWellFormed}
use Rattle.zerotrie_search.specs.Sorted.{IsOutside}
use Rattle.zerotrie_search.specs.Walks.{Narrows, is_to_come}
use Rattle.zerotrie_search.proofs.SkipLemmas.{few_kept, left_narrowed, left_ended}
use Rattle.zerotrie_search.proofs.WalkLemmas.{narrows_keys, rooms_narrow}
use Rattle.zerotrie_search.proofs.sorted.ZeroTrieSorted.only.Goals as goal

pub invariant_of-self : goal.invariant_of-self
invariant_of-self g c = λ going pairs lists.
    let s = c.self.inside in
    let kind = kind_with s.options in
    let key = s.key.items in
    let forks = reverse s.forks.items in
    let forks' = reverse c.narrow_inner.new.forks.items in
    let len : c.len.result ≡ length key = grind (arith, common_steps) in
    let inv = c.self.invariant going pairs lists in
    let k = narrows_keys kind pairs key s.rest.now forks c.args.wanted.now forks' (subst (λ n. Narrows n c.args.wanted.now forks forks') len c.narrow_inner.ensures) inv.0 in
    (k.walks, few_kept pairs (bound_map (λ b. b.now) s.to) (is_to_come kind key s.rest.now forks) (is_to_come kind key s.rest.now forks') k.keeps k.keys s.most inv.1)

pub returns-clause-left : goal.returns-clause-left
returns-clause-left g c well =
    let s = c.self.inside in
    let kind = kind_with s.options in
    let key = s.key.items in
    let wanted = c.args.wanted.now in
    let forks = reverse s.forks.items in
    let forks' = reverse c.narrow_inner.new.forks.items in
    let len : c.len.result ≡ length key = grind (arith, common_steps) in
    let valid : IsWellFormed kind s.bytes.now = rw (sym c.self.view_is) at well in
    rw (sym c.self.view_is)
    (left_narrowed s.ended kind s.bytes.now (bound_map (λ b. b.now) s.to) (is_to_come kind key s.rest.now forks) (is_to_come kind key s.rest.now forks') (IsOutside key wanted) (λ going. (
    let inv = c.self.invariant going valid.1.pairs valid.1.lists in
    let k = narrows_keys kind valid.1.pairs key s.rest.now forks wanted forks' (subst (λ n. Narrows n wanted forks forks') len c.narrow_inner.ensures) inv.0 in
    (k.keeps, k.keys, k.outside)
    )))

pub returns-clause-ended : goal.returns-clause-ended
returns-clause-ended g c =
    let s = c.self.inside in
    let kind = kind_with s.options in
    rw (sym c.self.view_is) (left_ended s.ended kind s.bytes.now (bound_map (λ b. b.now) s.to) (is_to_come kind s.key.items s.rest.now (reverse s.forks.items)) (is_to_come kind s.key.items s.rest.now (reverse c.narrow_inner.new.forks.items)))

pub returns-clause-less : goal.returns-clause-less
returns-clause-less g c =
    let s = c.self.inside in
    let less = rooms_narrow c.len.result c.args.wanted.now (reverse s.forks.items) (reverse c.narrow_inner.new.forks.items) c.narrow_inner.ensures in
    rw (sym c.self.view_is) (omega (arith, less))
