-- Laws of sealed files.
use Rattle.std.specs.Prelude.{◌≡◌, ◌<◌, ◌^◌, ℕ, List, [], ◌∷◌, ◌++◌, length, take, drop, slice_index}
use Rattle.zerotrie_base.specs.Kind.{Kind}
use Rattle.zerotrie_sealed.specs.Sealed.{IsSealed, IsSealedAs, IsSealedIndex, HasFront, table_of}

-- no file is the seal of two tries, or of one trie in two kinds
abbrev pub OneTrie : Type 0
OneTrie = (kind other : Kind) (trie second file : List ℕ) → IsSealed kind trie file → IsSealed other second file → (kind ≡ other) × (trie ≡ second)

-- no file is the seal of two lists of bytes, or by two numbers; so none is that of a trie and of an index
abbrev pub OneContent : Type 0
OneContent = (number other : ℕ) (bytes second file : List ℕ) → number < 2 ^ 16 → other < 2 ^ 16
    → IsSealedAs number bytes file → IsSealedAs other second file → (number ≡ other) × (bytes ≡ second)

-- no sealed file is the beginning of a longer one
abbrev pub NoneLonger : Type 0
NoneLonger = (number other : ℕ) (bytes second file more : List ℕ) → length (file ++ more) < 2 ^ 64
    → IsSealedAs number bytes file → IsSealedAs other second (file ++ more) → more ≡ []

-- each number in the list is a byte
abbrev pub AreBytes : List ℕ → Type 0
AreBytes bytes = (i : ℕ) → slice_index bytes i < 256

-- two sealed files that differ in one byte at most are one file
abbrev pub OneByteShows : Type 0
OneByteShows = (number other : ℕ) (bytes second front behind : List ℕ) (b d : ℕ)
    → AreBytes (front ++ (b ∷ behind)) → AreBytes (front ++ (d ∷ behind))
    → IsSealedAs number bytes (front ++ (b ∷ behind)) → IsSealedAs other second (front ++ (d ∷ behind)) → b ≡ d

-- no file is two sealed indexes, or one and a sealed trie
abbrev pub OneIndex : Type 0
OneIndex = (index file : List ℕ) → IsSealedIndex index file
    → ((second : List ℕ) → IsSealedIndex second file → index ≡ second) × ((kind : Kind) (trie : List ℕ) → IsSealed kind trie file → ⊥)

-- no sealed index is the beginning of a longer one
abbrev pub NoIndexLonger : Type 0
NoIndexLonger = (index second file more : List ℕ) → length (file ++ more) < 2 ^ 64
    → IsSealedIndex index file → IsSealedIndex second (file ++ more) → more ≡ []

-- two sealed indexes that differ in one byte at most are one file
abbrev pub OneByteOfIndexShows : Type 0
OneByteOfIndexShows = (index second front behind : List ℕ) (b d : ℕ)
    → AreBytes (front ++ (b ∷ behind)) → AreBytes (front ++ (d ∷ behind))
    → IsSealedIndex index (front ++ (b ∷ behind)) → IsSealedIndex second (front ++ (d ∷ behind)) → b ≡ d

-- if a sealed index begins with the front of one in blocks, the index is what is behind it, and the table in it is that of the index
abbrev pub IndexIsBehind : Type 0
IndexIsBehind = (index file : List ℕ) (start : ℕ) → IsSealedIndex index file → HasFront start file
    → (drop start file ≡ index) × (drop 24 (take start file) ≡ table_of index) × (length index < 2 ^ 64)
