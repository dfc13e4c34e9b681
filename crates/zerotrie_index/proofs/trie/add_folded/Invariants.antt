use Rattle.std.proofs.Common.{◌≡◌, ◌++◌, drop}
use Rattle.zerotrie_index.specs.Tries.{folded_key}
use Rattle.zerotrie_index.proofs.trie.add_folded.Given as goal

abbrev pub invariant-loop-byte : goal.invariant-loop-byte
invariant-loop-byte g l =
    l.text.items ++ folded_key g.K.ZeroTrieWithOptions.kind (drop l.byte-index l.key) ≡ l.initial.text.items ++ folded_key g.K.ZeroTrieWithOptions.kind l.key
