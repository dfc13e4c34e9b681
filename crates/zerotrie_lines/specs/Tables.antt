-- Pairs whose keys lie one after another.
use Rattle.std.specs.Prelude.{ℕ, ◌+◌, List, [], ◌∷◌, take, drop, map, Bool, if◌then◌else◌}
use Rattle.std.specs.Char.{to_ascii_lowercase}
use Rattle.std.specs.Borrow.{Bor}

-- a key and its value
abbrev pub Pair : Type 0
Pair = List ℕ × ℕ

abbrev pub Pairs : Type 0
Pairs = List Pair

-- the pairs of items whose keys lie elsewhere
abbrev pub pairs_of : List (Bor (List ℕ) × ℕ) → Pairs
pairs_of items = map (λ e. (e.0.now, e.1)) items

-- the pairs that marks, each the length of a key and its value, cut bytes into
abbrev pub cut : List ℕ → List (ℕ × ℕ) → Pairs
cut bytes [] = []
cut bytes (mark ∷ marks) = (take mark.0 bytes, mark.1) ∷ cut (drop mark.0 bytes) marks

-- how many bytes the keys have together
abbrev pub total : List (ℕ × ℕ) → ℕ
total [] = 0
total (mark ∷ marks) = mark.0 + total marks

-- a pair whose key has its ASCII letters in lower case
abbrev pub lowered_pair : Pair → Pair
lowered_pair e = (map to_ascii_lowercase e.0, e.1)

-- the pairs, if keys are to be in lower case with theirs so, and else as they are
abbrev pub lowered : Bool → Pairs → Pairs
lowered lower_case pairs = if lower_case then map lowered_pair pairs else pairs
