use Rattle.std.proofs.Common.{◌≡◌, ◌++◌}
use Rattle.std.specs.List.{AllByRecursion}
use Rattle.std.specs.Str.{IsUtf8}
use Rattle.std.specs.String.{string_bytes}
use Rattle.zerotrie_core.specs.Maps.{Pairs}
use Rattle.zerotrie_core.specs.Items.{keyed}
use Rattle.zerotrie_core.specs.Texts.{Lists}
use Rattle.zerotrie_ascii.proofs.trie.AsciiTrie.to_btreemap.Given as goal

abbrev pub invariant-loop-item : goal.invariant-loop-item
invariant-loop-item g l = (pairs : Pairs) → Lists g.K.ZeroTrieWithOptions.kind (g.S.TrieStore.stored l.self.store) pairs
    → (keyed (λ k. string_bytes k) l.pairs.items ++ l.item-iterator.pairs ≡ pairs) × AllByRecursion (λ e. IsUtf8 e.0) l.item-iterator.pairs
