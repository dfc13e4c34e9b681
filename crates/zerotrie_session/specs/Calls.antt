-- Calls of a cursor, as a `walk` line spells them.
use Rattle.std.specs.Prelude.{◌≡◌, ℕ, ◌+◌, ◌*◌, ◌<◌, ◌≤◌, ◌⊎◌, ◌==◌, List, [], ◌∷◌, codes}
use Rattle.std.specs.List.{slice_split}
use Rattle.zerotrie.specs.Machine.{Op}
use Rattle.zerotrie.specs.Machine.Op.{step, take_value, probe}
use Rattle.zerotrie_session.specs.Numbers.{IsNumber}

-- the digit of a number below 16 in hexadecimal, in either case
abbrev pub IsHexDigit : ℕ → ℕ → Type 0
IsHexDigit digit n = ((n < 10) × (digit ≡ 48 + n)) ⊎ ((10 ≤ n) × (n < 16) × ((digit ≡ 87 + n) ⊎ (digit ≡ 55 + n)))

-- two digits spell the byte
abbrev pub IsHexByte : List ℕ → ℕ → Type 0
IsHexByte digits b = (first : ℕ) × (second : ℕ) × (high : ℕ) × (low : ℕ) × (digits ≡ first ∷ second ∷ []) × IsHexDigit first high × IsHexDigit second low
    × (b ≡ 16 * high + low)

-- the word is the call
abbrev pub IsOp : List ℕ → Op → Type 0
IsOp word (step b) = (digits : List ℕ) × (word ≡ 115 ∷ digits) × IsHexByte digits b
IsOp word take_value = word ≡ codes "t"
IsOp word (probe i) = (digits : List ℕ) × (word ≡ 112 ∷ digits) × IsNumber digits i

-- the words are the calls, one each
abbrev pub AreOps : List (List ℕ) → List Op → Type 0
AreOps [] [] = Unit {0}
AreOps [] (op ∷ ops) = ⊥
AreOps (word ∷ words) [] = ⊥
AreOps (word ∷ words) (op ∷ ops) = IsOp word op × AreOps words ops

-- the parts of a text between its spaces
abbrev pub words_of : List ℕ → List (List ℕ)
words_of text = slice_split (λ b. b == 32) text
