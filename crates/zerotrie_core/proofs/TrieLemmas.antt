-- From what a call at the kind of one arm returns to what holds of the trie.
use Rattle.std.specs.Prelude.{◌≡◌, ℕ, List}
use Rattle.std.proofs.Common.{subst}
use Rattle.zerotrie_base.specs.Kind.{Kind}
use Rattle.zerotrie_base.specs.Kinds.{kind_of}
use Rattle.zerotrie_base.specs.declared.kind.TrieKind.{TrieKind}

-- what holds of the kind of the arm and of the bytes at hand holds of the kind and the bytes of the trie
pub of_trie : (P : Kind → List ℕ → Type 0) → {asked arm : TrieKind} → {kind : Kind} → {at_hand bytes : List ℕ}
    → asked ≡ arm → kind_of asked ≡ kind → at_hand ≡ bytes → P (kind_of arm) at_hand → P kind bytes
of_trie P {asked} {arm} {kind} {at_hand} {bytes} is kinds same holds =
    subst (P kind) same (subst (λ k. P k at_hand) (subst (λ k. kind_of k ≡ kind) is kinds) holds)
