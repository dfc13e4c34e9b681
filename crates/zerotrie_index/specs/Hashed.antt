-- Pairs with the hashes of their keys.
use Rattle.std.specs.Prelude.{◌≡◌, ℕ, ◌^◌, ◌<◌, ◌≤◌, ◌++◌, List, [], ◌∷◌, length, map, All}
use Rattle.zerotrie_base.specs.Maps.{Pairs}
use Rattle.zerotrie_base.specs.Numbers.{Spells}
use Rattle.zerotrie_index.specs.Hash.{hash_of}
use Rattle.zerotrie_index.specs.Layout.{word}
use Rattle.zerotrie_index.specs.declared.builder.Hashed.{Hashed}

-- the pairs alone
abbrev pub hashed_pairs : List Hashed → Pairs
hashed_pairs hashed = map {B = List ℕ × ℕ} (λ h. (h.key.now, h.value)) hashed

-- the hash is that of the key
abbrev pub IsHashed : ℕ → Hashed → Type 0
IsHashed seed h = (h.hash ≡ hash_of seed h.key.now) × (h.hash < 2 ^ 64)

-- no hash is above a later one
abbrev pub Rises : List Hashed → Type 0
Rises [] = Unit {0}
Rises (h ∷ hashed) = All (λ g. h.hash ≤ g.hash) hashed × Rises hashed

-- the bytes are the record of a pair
abbrev pub IsRecord : List ℕ → ℕ → List ℕ → Type 0
IsRecord key value bytes = (len : List ℕ) × Spells 32 0 (length key) len × (value < 2 ^ 64) × (bytes ≡ len ++ (word value ++ key))
