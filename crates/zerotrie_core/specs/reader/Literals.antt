-- A run of literals that a key matches.
use Rattle.std.specs.Prelude.{◌≡◌, ℕ, ◌<◌, ◌≤◌, List, length, slice_index}
use Rattle.zerotrie_base.specs.Kind.{Kind, fold_byte}

-- the first n bytes are literals, and each equals the byte of the key in the kind
pub record AreCommon (kind : Kind) (bytes key : List ℕ) (n : ℕ) : Type 0 where
  pub within : n ≤ length bytes
  pub short : n ≤ length key
  pub literal : (k : ℕ) → k < n → slice_index bytes k < 128
  pub same : (k : ℕ) → k < n → fold_byte kind (slice_index bytes k) ≡ fold_byte kind (slice_index key k)

-- of this many bytes, those from one place to another are literals and the bytes of the key
abbrev pub AreSame : List ℕ → List ℕ → ℕ → ℕ → ℕ → Type 0
AreSame bytes key end from to = (k : ℕ) → k < end → from ≤ k → k < to → (slice_index bytes k < 128) × (slice_index bytes k ≡ slice_index key k)
