use Rattle.std.proofs.Common.{◌≡◌, ◌++◌, length}
use Rattle.zerotrie_index.specs.Tries.{folded_pairs}
use Rattle.zerotrie_index.proofs.trie.push_all.Given as goal

abbrev pub invariant-loop-key : goal.invariant-loop-key
invariant-loop-key g l =
    l.builder ++ folded_pairs g.K.ZeroTrieWithOptions.kind l.stream.left.pairs ≡ l.initial.builder ++ folded_pairs g.K.ZeroTrieWithOptions.kind l.initial.stream.left.pairs

abbrev pub decreases-loop-key : goal.decreases-loop-key
decreases-loop-key g l = length l.stream.left.pairs
