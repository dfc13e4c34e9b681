use Rattle.std.proofs.Common.{◌+◌, ◌≤◌, length}
use Rattle.zerotrie_base.specs.reader.Reading.{AlwaysComes}
use Rattle.zerotrie_core.proofs.reader.get_counted.Given as goal

abbrev pub invariant-loop-node : goal.invariant-loop-node
invariant-loop-node g l = record {
  bound : l.count + length l.trie ≤ length l.bytes;
  came : AlwaysComes g.K.ZeroTrieWithOptions.kind l.bytes l.key-2 l.trie l.key l.count;
}

abbrev pub decreases-loop-node : goal.decreases-loop-node
decreases-loop-node g l = length l.trie
