-- Sets of bytes in both cases.
use Rattle.std.proofs.Common.{◌≡◌, ◌≤◌, ◌<◌, ◌+◌, ◌⊎◌, inl, inr, ℕ, List, Bool, false, sym}
use Rattle.std.specs.Prelude.{map}
use Rattle.std.proofs.lemmas.List.{map-id}
use Rattle.zerotrie_base.specs.Kind.{fold_byte}
use Rattle.zerotrie_base.specs.Kinds.{kind_of}
use Rattle.zerotrie_base.specs.declared.kind.TrieKind.{TrieKind}
use Rattle.zerotrie_base.specs.declared.kind.TrieKind.TheVariants.{Simple, Hash, Ext}

-- what is not in the set so far, of which the letters below one were added
abbrev pub IsOutside : (ℕ → Bool) → (ℕ → Bool) → ℕ → Type 0
IsOutside old both letter = (byte : ℕ) → both byte ≡ false → (old byte ≡ false) × (65 ≤ byte → byte < letter → old (byte + 32) ≡ false)

-- what a kind compares as it is
pub unfolded : (kind : TrieKind) (bytes : List ℕ) → (kind ≡ Simple) ⊎ ((kind ≡ Hash) ⊎ (kind ≡ Ext)) → bytes ≡ map (fold_byte (kind_of kind)) bytes
unfolded kind bytes (inl is) = rw is (sym (map-id bytes))
unfolded kind bytes (inr (inl is)) = rw is (sym (map-id bytes))
unfolded kind bytes (inr (inr is)) = rw is (sym (map-id bytes))
