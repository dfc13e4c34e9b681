-- Bytes at the front and at the end of others, and runs of literals.
use Rattle.std.specs.Prelude.{◌≡◌, ℕ, ◌<◌, List, ◌++◌, ◌⊎◌, length, take, drop, slice_index}

-- the bytes end with these
abbrev pub EndsWith : List ℕ → List ℕ → Type 0
EndsWith bytes after = (front : List ℕ) × (bytes ≡ front ++ after)

-- the bytes have a run and a trie after it, and this many bytes after both
abbrev pub HasParts : List ℕ → List ℕ → List ℕ → ℕ → Type 0
HasParts bytes run trie after = (front back : List ℕ) × (bytes ≡ front ++ (run ++ (trie ++ back))) × (length back ≡ after)

-- This many bytes went from the rest to the end of the key.
abbrev pub Moves : ℕ → List ℕ → List ℕ → List ℕ → List ℕ → Type 0
Moves count rest key rest' key' = (rest' ≡ drop count rest) × (key' ≡ key ++ take count rest)

-- Literals went from the rest to the end of the key.
pub record MovesLiterals (rest key rest' key' : List ℕ) : Type 0 where
  pub run : List ℕ
  pub some : 0 < length run
  pub literal : (k : ℕ) → k < length run → slice_index run k < 128
  pub rest_is : rest ≡ run ++ rest'
  pub key_is : key' ≡ key ++ run

-- Nothing went, or literals did.
abbrev pub MovesAny : List ℕ → List ℕ → List ℕ → List ℕ → Type 0
MovesAny rest key rest' key' = ((rest' ≡ rest) × (key' ≡ key)) ⊎ MovesLiterals rest key rest' key'
