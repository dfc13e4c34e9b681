use Rattle.std.proofs.Common.{◌≡◌, ◌≤◌, ◌∙◌, ◌&&◌, [], ℕ, ap, arith, length, min, reverse, subst, sym, take}
use Rattle.std.proofs.lemmas.Grind.{common_steps}
use Rattle.std.specs.Range.Bound.{bound_map}
use Rattle.zerotrie_base.specs.Kind.{kind_with}
use Rattle.zerotrie_core.specs.WellFormed.{IsWellFormed}
use Rattle.zerotrie_search.specs.Forks.{outer}
use Rattle.zerotrie_search.specs.Sorted.{begins_else}
use Rattle.zerotrie_search.specs.Walks.{AreFew, Walks, is_to_come, rooms}
use Rattle.zerotrie_search.proofs.SkipLemmas.{few_kept, left_kept, left_ended}
use Rattle.zerotrie_search.proofs.WalkLemmas.{walks_left, left_keys, rooms_outer, least_taken}
use Rattle.zerotrie_search.proofs.sorted.ZeroTrieSorted.leave.Goals as goal

pub invariant_of-self : goal.invariant_of-self
invariant_of-self g c = λ going pairs lists.
    let s = c.self.inside in
    let kind = kind_with s.options in
    let key = s.key.items in
    let to = bound_map (λ b. b.now) s.to in
    let forks = reverse s.forks.items in
    let n : ℕ = min c.args.depth (length key) in
    let within : n ≤ length key = omega arith in
    let inv = c.self.invariant going pairs lists in
    let len : c.len.result ≡ length key = grind (arith, common_steps) in
    let dropped : reverse c.drop_inner.new.forks.items ≡ outer n forks = c.drop_inner.ensures ∙ ap (λ m. outer m forks) (c.min.ensures ∙ ap (λ m. min c.args.depth m) len) in (
      subst (λ fs. Walks kind pairs key [] fs) (sym dropped) (walks_left kind pairs key s.rest.now forks n within inv.0),
      subst (λ fs. AreFew pairs to (is_to_come kind key [] fs) s.most) (sym dropped)
          (few_kept pairs to (is_to_come kind key s.rest.now forks) (is_to_come kind key [] (outer n forks)) (begins_else (take n key)) (left_keys kind pairs key s.rest.now forks n within inv.0) s.most inv.1),
    )

pub returns-clause-left : goal.returns-clause-left
returns-clause-left g c well =
    let s = c.self.inside in
    let kind = kind_with s.options in
    let key = s.key.items in
    let to = bound_map (λ b. b.now) s.to in
    let forks = reverse s.forks.items in
    let n : ℕ = min c.args.depth (length key) in
    let within : n ≤ length key = omega arith in
    let len : c.len.result ≡ length key = grind (arith, common_steps) in
    let dropped : reverse c.drop_inner.new.forks.items ≡ outer n forks = c.drop_inner.ensures ∙ ap (λ m. outer m forks) (c.min.ensures ∙ ap (λ m. min c.args.depth m) len) in
    let valid : IsWellFormed kind s.bytes.now = rw (sym c.self.view_is) at well in
    rw (sym c.self.view_is)
    (left_kept s.ended kind s.bytes.now to (is_to_come kind key s.rest.now forks) (is_to_come kind key [] (reverse c.drop_inner.new.forks.items)) (begins_else (take c.args.depth key)) (λ going q. (
    let inv = c.self.invariant going valid.1.pairs valid.1.lists in
    ap (λ fs. is_to_come kind key [] fs q) dropped ∙ left_keys kind valid.1.pairs key s.rest.now forks n within inv.0 q
    ∙ ap (λ k. is_to_come kind key s.rest.now forks q && begins_else k q) (least_taken c.args.depth key)
    )))

pub returns-clause-ended : goal.returns-clause-ended
returns-clause-ended g c =
    let s = c.self.inside in
    let kind = kind_with s.options in
    rw (sym c.self.view_is) (left_ended s.ended kind s.bytes.now (bound_map (λ b. b.now) s.to) (is_to_come kind s.key.items s.rest.now (reverse s.forks.items)) (is_to_come kind s.key.items [] (reverse c.drop_inner.new.forks.items)))

pub returns-clause-less : goal.returns-clause-less
returns-clause-less g c =
    let s = c.self.inside in
    let less = rooms_outer c.min.result (reverse s.forks.items) in
    let is = ap rooms c.drop_inner.ensures in
    rw (sym c.self.view_is) (omega (arith, less, is))
