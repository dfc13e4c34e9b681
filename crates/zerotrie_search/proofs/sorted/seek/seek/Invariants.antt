use Rattle.std.proofs.Common.{◌+◌, ◌≤◌, length, reverse}
use Rattle.zerotrie_base.specs.Maps.{Pairs}
use Rattle.zerotrie_base.specs.Texts.{Lists}
use Rattle.zerotrie_search.specs.Forks.{Follows}
use Rattle.zerotrie_search.specs.Walks.{rooms}
use Rattle.zerotrie_search.proofs.sorted.seek.seek.Given as goal

-- on the way along the bound
abbrev pub invariant-loop-byte : goal.invariant-loop-byte
invariant-loop-byte g l = record {
  follows : (pairs : Pairs) → Lists g.K.ZeroTrieWithOptions.kind l.bytes pairs
      → Follows g.K.ZeroTrieWithOptions.kind pairs l.bound l.left l.key.items l.at (reverse l.forks.items);
  room : length l.at + rooms (reverse l.forks.items) ≤ length l.bytes;
}

abbrev pub decreases-loop-byte : goal.decreases-loop-byte
decreases-loop-byte g l = length l.at + rooms (reverse l.forks.items)
