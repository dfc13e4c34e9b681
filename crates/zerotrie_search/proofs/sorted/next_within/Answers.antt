use Rattle.std.proofs.Common.{◌≡◌, reverse, sym, subst}
use Rattle.std.specs.Range.Bound.{bound_map, is_up_to_end}
use Rattle.zerotrie_base.specs.Kind.{kind_with}
use Rattle.zerotrie_search.specs.Sets.{by_bytes}
use Rattle.zerotrie_search.specs.Walks.{FindsNext, is_to_come}
use Rattle.zerotrie_search.proofs.LeftLemmas.{chosen_none}
use Rattle.zerotrie_search.proofs.NextLemmas.{finds_within}
use Rattle.zerotrie_search.proofs.sorted.next_within.Goals as goal

pub returns-in_default-clause-finds : goal.returns-in_default-clause-finds
returns-in_default-clause-finds g c pairs w =
    let kind = kind_with c.args.options in
    let before = is_to_come kind c.args.key.now.items c.args.rest.now.now (reverse c.args.forks.now.items) in
    let none = subst (FindsNext kind pairs before c.next_pair_of.new.key.items c.next_pair_of.new.rest.now (reverse c.next_pair_of.new.forks.items)) c.in_default.is (c.in_ok-found.ensures.finds pairs w) in
    chosen_none pairs (bound_map (λ b. b.now) c.args.to) before none

pub returns-clause-finds : goal.returns-clause-finds
returns-clause-finds g c pairs w =
    let kind = kind_with c.args.options in
    let to = bound_map (λ b. b.now) c.args.to in
    let before = is_to_come kind c.args.key.now.items c.args.rest.now.now (reverse c.args.forks.now.items) in
    let key = c.next_pair_of.new.key.items in
    let rest = c.next_pair_of.new.rest.now in
    let forks = reverse c.next_pair_of.new.forks.items in
    let m = subst (FindsNext kind pairs before key rest forks) c.in-Some.is (c.in_ok-found.ensures.finds pairs w) in
    let inside = c.is_up_to-within.result in
    finds_within kind pairs to before key c.in-Some.found rest forks m.0 m.1 inside (subst (λ k. inside ≡ is_up_to_end by_bytes to k) c.as_slice.ensures.value c.is_up_to-within.ensures)

pub returns-clause-less : goal.returns-clause-less
returns-clause-less g c within = rw c.in-Some.is at c.in_ok-found.ensures.less
