use Rattle.std.proofs.Common.{◌≡◌, ◌∙◌, List, ℕ, Bool, ap, false, true, reverse, subst, sym}
use Rattle.std.specs.Range.Bound.{bound_map, is_up_to_end}
use Rattle.zerotrie_base.specs.Kind.{kind_with}
use Rattle.zerotrie_core.specs.Listings.{to_come}
use Rattle.zerotrie_core.specs.WellFormed.{IsWellFormed}
use Rattle.zerotrie_search.specs.Sets.{by_bytes}
use Rattle.zerotrie_search.specs.Walks.{is_to_come}
use Rattle.zerotrie_search.proofs.LeftLemmas.{few_same, few_next, left_same, left_none, left_few, left_next, left_beyond}
use Rattle.zerotrie_search.proofs.sorted.ZeroTrieSorted.advance_node.Goals as goal

pub invariant_of-self-in-Bytes : goal.invariant_of-self-in-Bytes
invariant_of-self-in-Bytes g c = λ _ pairs lists.
    let s = c.self.inside in
    let kind = kind_with s.options in
    let n = c.next_node_of.new in
    let inv = c.self.invariant c.if-self.false pairs lists in
    let walks = rw c.in-Bytes.is at c.in_ok-next_node_of.ensures.walks in
    let m = walks pairs inv.0 in
    (m.0, few_same lists (bound_map (λ b. b.now) s.to) (is_to_come kind s.key.items s.rest.now (reverse s.forks.items)) (is_to_come kind n.key.items n.rest.now (reverse n.forks.items)) s.most m.1 inv.1)

pub invariant_of-self-in-Branch : goal.invariant_of-self-in-Branch
invariant_of-self-in-Branch g c = λ _ pairs lists.
    let s = c.self.inside in
    let kind = kind_with s.options in
    let n = c.next_node_of.new in
    let inv = c.self.invariant c.if-self.false pairs lists in
    let walks = rw c.in-Branch.is at c.in_ok-next_node_of.ensures.walks in
    let m = walks pairs inv.0 in
    (m.0, few_same lists (bound_map (λ b. b.now) s.to) (is_to_come kind s.key.items s.rest.now (reverse s.forks.items)) (is_to_come kind n.key.items n.rest.now (reverse n.forks.items)) s.most m.1 inv.1)

pub returns-in-Bytes-clause-sorts : goal.returns-in-Bytes-clause-sorts
returns-in-Bytes-clause-sorts g c well =
    let s = c.self.inside in
    let kind = kind_with s.options in
    let n = c.next_node_of.new in
    let valid : IsWellFormed kind s.bytes.now = rw (sym c.self.view_is) at well in
    let walks = rw c.in-Bytes.is at c.in_ok-next_node_of.ensures.walks in
    let inv = c.self.invariant c.if-self.false valid.1.pairs valid.1.lists in
    rw (sym c.self.view_is, c.if-self.false)
    (ap to_come (left_same valid.1.lists (bound_map (λ b. b.now) s.to) (is_to_come kind s.key.items s.rest.now (reverse s.forks.items)) (is_to_come kind n.key.items n.rest.now (reverse n.forks.items)) (walks valid.1.pairs inv.0).1))

pub returns-in-Branch-clause-sorts : goal.returns-in-Branch-clause-sorts
returns-in-Branch-clause-sorts g c well =
    let s = c.self.inside in
    let kind = kind_with s.options in
    let n = c.next_node_of.new in
    let valid : IsWellFormed kind s.bytes.now = rw (sym c.self.view_is) at well in
    let walks = rw c.in-Branch.is at c.in_ok-next_node_of.ensures.walks in
    let inv = c.self.invariant c.if-self.false valid.1.pairs valid.1.lists in
    rw (sym c.self.view_is, c.if-self.false)
    (ap to_come (left_same valid.1.lists (bound_map (λ b. b.now) s.to) (is_to_come kind s.key.items s.rest.now (reverse s.forks.items)) (is_to_come kind n.key.items n.rest.now (reverse n.forks.items)) (walks valid.1.pairs inv.0).1))

pub returns-in-End-clause-sorts : goal.returns-in-End-clause-sorts
returns-in-End-clause-sorts g c well =
    let s = c.self.inside in
    let kind = kind_with s.options in
    let n = c.next_node_of.new in
    let valid : IsWellFormed kind s.bytes.now = rw (sym c.self.view_is) at well in
    let walks = rw c.in-End.is at c.in_ok-next_node_of.ensures.walks in
    let inv = c.self.invariant c.if-self.false valid.1.pairs valid.1.lists in
    let old : List ℕ → Bool = is_to_come kind s.key.items s.rest.now (reverse s.forks.items) in
    rw (sym c.self.view_is, c.if-self.false) (left_none valid.1.lists (bound_map (λ b. b.now) s.to) old old (walks valid.1.pairs inv.0))

pub returns-then-self-eq0-clause-sorts : goal.returns-then-self-eq0-clause-sorts
returns-then-self-eq0-clause-sorts g c well =
    let s = c.self.inside in
    let kind = kind_with s.options in
    let valid : IsWellFormed kind s.bytes.now = rw (sym c.self.view_is) at well in
    let inv = c.self.invariant c.if-self.false valid.1.pairs valid.1.lists in
    let old : List ℕ → Bool = is_to_come kind s.key.items s.rest.now (reverse s.forks.items) in
    rw (sym c.self.view_is, c.if-self.false) (left_few valid.1.lists (bound_map (λ b. b.now) s.to) old old s.most inv.1 c.if-self-eq0.true)

pub returns-then-not-is_up_to-clause-sorts : goal.returns-then-not-is_up_to-clause-sorts
returns-then-not-is_up_to-clause-sorts g c well =
    let s = c.self.inside in
    let kind = kind_with s.options in
    let n = c.next_node_of.new in
    let to = bound_map (λ b. b.now) s.to in
    let valid : IsWellFormed kind s.bytes.now = rw (sym c.self.view_is) at well in
    let walks = rw c.in-Pair.is at c.in_ok-next_node_of.ensures.walks in
    let inv = c.self.invariant c.if-self.false valid.1.pairs valid.1.lists in
    let m = walks valid.1.pairs inv.0 in
    let past : is_up_to_end by_bytes to n.key.items ≡ false = subst (λ k. is_up_to_end by_bytes to k ≡ false) c.as_slice.ensures.value (sym c.is_up_to.ensures ∙ c.if-not-is_up_to.true) in
    rw (sym c.self.view_is, c.if-self.false)
    (left_beyond valid.1.lists to (is_to_come kind s.key.items s.rest.now (reverse s.forks.items)) (is_to_come kind n.key.items n.rest.now (reverse n.forks.items)) n.key.items n.value m.1 past)

pub invariant_of-self-in-Pair : goal.invariant_of-self-in-Pair
invariant_of-self-in-Pair g c = λ _ pairs lists.
    let s = c.self.inside in
    let kind = kind_with s.options in
    let n = c.next_node_of.new in
    let to = bound_map (λ b. b.now) s.to in
    let inv = c.self.invariant c.if-self.false pairs lists in
    let walks = rw c.in-Pair.is at c.in_ok-next_node_of.ensures.walks in
    let m = walks pairs inv.0 in
    let ends : is_up_to_end by_bytes to n.key.items ≡ true = subst (λ k. is_up_to_end by_bytes to k ≡ true) c.as_slice.ensures.value (sym c.is_up_to.ensures ∙ c.if-not-is_up_to.false) in
    (m.0, few_next lists to (is_to_come kind s.key.items s.rest.now (reverse s.forks.items)) (is_to_come kind n.key.items n.rest.now (reverse n.forks.items)) n.key.items n.value m.1 s.most ends inv.1)

pub returns-else-not-is_up_to-clause-sorts : goal.returns-else-not-is_up_to-clause-sorts
returns-else-not-is_up_to-clause-sorts g c well =
    let s = c.self.inside in
    let kind = kind_with s.options in
    let n = c.next_node_of.new in
    let to = bound_map (λ b. b.now) s.to in
    let valid : IsWellFormed kind s.bytes.now = rw (sym c.self.view_is) at well in
    let walks = rw c.in-Pair.is at c.in_ok-next_node_of.ensures.walks in
    let inv = c.self.invariant c.if-self.false valid.1.pairs valid.1.lists in
    let m = walks valid.1.pairs inv.0 in
    let ends : is_up_to_end by_bytes to n.key.items ≡ true = subst (λ k. is_up_to_end by_bytes to k ≡ true) c.as_slice.ensures.value (sym c.is_up_to.ensures ∙ c.if-not-is_up_to.false) in
    rw (sym c.self.view_is, c.if-self.false)
    (left_next valid.1.lists to (is_to_come kind s.key.items s.rest.now (reverse s.forks.items)) (is_to_come kind n.key.items n.rest.now (reverse n.forks.items)) n.key.items n.value m.1 ends)
