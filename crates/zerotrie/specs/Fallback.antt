-- Fallbacks: the value of the longest key that a text begins with, by single bytes or by whole parts.
use Rattle.std.specs.Prelude.{◌≡◌, ℕ, ◌<◌, List, [], ◌∷◌, ◌++◌, length, true, Option, Some, None}
use Rattle.zerotrie_core.specs.Borders.{is_end}
use Rattle.zerotrie_core.specs.Kind.{Kind}
use Rattle.zerotrie_core.specs.Maps.{Map, look}

-- the answer is the value of the longest of these keys that the map has, and none if it has none of them
abbrev pub IsLongestOf : (List ℕ → Type 0) → Kind → Map → Option ℕ → Type 0
IsLongestOf Counts kind m (Some v) = (key : List ℕ) × Counts key × (look kind m key ≡ Some v)
    × ((longer : List ℕ) → Counts longer → length key < length longer → look kind m longer ≡ None)
IsLongestOf Counts kind m None = (key : List ℕ) → Counts key → look kind m key ≡ None

-- the text begins with all of the key
abbrev pub BeginsWith : List ℕ → List ℕ → Type 0
BeginsWith text key = (rest : List ℕ) × (text ≡ key ++ rest)

-- The name begins with the key by whole parts: the key is the name itself, or what comes before one of its
-- delimiters. So with "-" the name "fil-PH" begins with "fil", and not with "fi". Every name begins with the empty key,
-- which is the root's: what names fall back to at last.
abbrev pub BeginsWithParts : List ℕ → List ℕ → List ℕ → Type 0
BeginsWithParts delimiters name [] = Unit {0}
BeginsWithParts delimiters name (b ∷ key) = (rest : List ℕ) × (name ≡ (b ∷ key) ++ rest) × (is_end delimiters rest ≡ true)

-- the value of the longest key that the name begins with by whole parts
abbrev pub IsFallback : Kind → Map → List ℕ → List ℕ → Option ℕ → Type 0
IsFallback kind m delimiters name answer = IsLongestOf (BeginsWithParts delimiters name) kind m answer

-- the value of the longest key that the text begins with, whatever comes next
abbrev pub IsLongestKey : Kind → Map → List ℕ → Option ℕ → Type 0
IsLongestKey kind m text answer = IsLongestOf (BeginsWith text) kind m answer
