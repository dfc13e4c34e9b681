use Rattle.std.proofs.Common.{◌+◌, ◌≤◌, length, reverse}
use Rattle.zerotrie_base.specs.Maps.{Pairs}
use Rattle.zerotrie_search.specs.Walks.{Walks, SameKeys, is_to_come, rooms}
use Rattle.zerotrie_search.proofs.sorted.walk.next_pair.Given as goal

-- before the same pairs
abbrev pub invariant-loop-rest : goal.invariant-loop-rest
invariant-loop-rest g l =
    let kind = g.K.ZeroTrieWithOptions.kind in
    let first = l.initial in
    record {
      walks : (pairs : Pairs) → Walks kind pairs first.key.items first.rest.now (reverse first.forks.items)
          → Walks kind pairs l.key.items l.at (reverse l.forks.items)
          × SameKeys pairs (is_to_come kind first.key.items first.rest.now (reverse first.forks.items)) (is_to_come kind l.key.items l.at (reverse l.forks.items));
      less : length l.at + rooms (reverse l.forks.items) ≤ length first.rest.now + rooms (reverse first.forks.items);
    }

abbrev pub decreases-loop-rest : goal.decreases-loop-rest
decreases-loop-rest g l = length l.at + rooms (reverse l.forks.items)
