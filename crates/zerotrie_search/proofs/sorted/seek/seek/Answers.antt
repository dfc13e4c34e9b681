use Rattle.std.proofs.Common.{◌≡◌, ◌+◌, [], length, reverse, subst}
use Rattle.std.proofs.lemmas.List.{nil_from_length}
use Rattle.zerotrie_search.specs.Forks.{GoesOn, IsShorter}
use Rattle.zerotrie_search.specs.Walks.{rooms}
use Rattle.zerotrie_search.proofs.StandLemmas.{found_for, follows_whole}
use Rattle.zerotrie_search.proofs.NextLemmas.{found_within}
use Rattle.zerotrie_search.proofs.sorted.seek.seek.Goals as goal

pub returns-in-Found-clause-stands : goal.returns-in-Found-clause-stands
returns-in-Found-clause-stands g c pairs text =
    let kind = g.K.ZeroTrieWithOptions.kind in
    let key = c.past_node.new.key.items in
    let forks = reverse c.past_node.new.forks.items in
    found_for c.args.with_it kind pairs c.args.bound.now key forks c.in-Found.next
    (subst (GoesOn kind pairs c.args.bound.now key forks) c.in-Found.is (c.in_ok-next.ensures.goes pairs c.args.bound.now (c.loop-byte.invariant.follows pairs text)))

pub returns-then-with_it-clause-stands : goal.returns-then-with_it-clause-stands
returns-then-with_it-clause-stands g c pairs text =
    let over : c.loop-byte.left.now ≡ [] = nil_from_length c.loop-byte.left.now c.in_default.ensures.cases in
    rw c.if-with_it.true (follows_whole (c.loop-byte.invariant.follows pairs text) over)

pub returns-in-Found-clause-room : goal.returns-in-Found-clause-room
returns-in-Found-clause-room g c =
    let l = c.loop-byte in
    found_within c.in-Found.next (rooms (reverse c.past_node.new.forks.items)) (length l.at.now + rooms (reverse l.forks.items)) (length c.args.bytes.now)
    (subst (λ way. IsShorter (length l.at.now + rooms (reverse l.forks.items)) way (rooms (reverse c.past_node.new.forks.items))) c.in-Found.is c.in_ok-next.ensures.shorter) l.invariant.room
