use Rattle.std.proofs.Common.{◌+◌, ◌≤◌, length}
use Rattle.zerotrie_base.specs.Maps.{Pairs}
use Rattle.zerotrie_base.specs.Texts.{Lists}
use Rattle.zerotrie_core.proofs.ListingLemmas.Prefixes.{Stepped}
use Rattle.zerotrie_core.proofs.stream.down_to.Given as goal

abbrev pub invariant-loop-byte : goal.invariant-loop-byte
invariant-loop-byte g l = record {
  stepped : (pairs : Pairs) → Lists g.K.ZeroTrieWithOptions.kind l.bytes pairs → Stepped g.K.ZeroTrieWithOptions.kind pairs l.prefix l.front.items l.byte-index l.cursor;
  shorter : length l.cursor.run + length l.cursor.trie ≤ length l.bytes;
}
