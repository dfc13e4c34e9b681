-- What a look-up of a word returns by the pairs of words and numbers, both ways.
use Rattle.std.specs.Prelude.{◌≡◌, ℕ, List, Option, Some, None, Contains, slice_index}
use Rattle.zerotrie_core.specs.Maps.{Pairs}

-- the answer is the number beside the word, and none exactly if the word is none of the words
abbrev pub IsNumberOf : Pairs → List ℕ → Option ℕ → Type 0
IsNumberOf pairs word (Some n) = Contains pairs (word, n)
IsNumberOf pairs word None = (n : ℕ) → Contains pairs (word, n) → ⊥

-- the answer is the record at the number beside the word, and none exactly if the word is none of the words
abbrev pub IsRecordOf : Pairs → List ℕ → List ℕ → Option ℕ → Type 0
IsRecordOf pairs records word (Some r) = (n : ℕ) × Contains pairs (word, n) × (r ≡ slice_index records n)
IsRecordOf pairs records word None = (n : ℕ) → Contains pairs (word, n) → ⊥
