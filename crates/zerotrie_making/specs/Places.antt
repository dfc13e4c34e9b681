-- The line and the column of a place in a text.
use Rattle.std.specs.Prelude.{◌≡◌, ℕ, ◌+◌, ◌==◌, ◌||◌, nat_le, nat_lt, Bool, not, List, ◌++◌, reverse, count_by}
use Rattle.std.specs.List.{take_while}

-- whether a byte of UTF-8 begins a character
abbrev pub begins_character : ℕ → Bool
begins_character b = nat_lt b 128 || nat_le 192 b

-- the line after these bytes, from 1 on: one for each line feed, and one
abbrev pub line_after : List ℕ → ℕ
line_after front = count_by (λ b. b == 10) front + 1

-- the column, from 1 on: one for each character back to the last line feed, and one
abbrev pub column_after : List ℕ → ℕ
column_after front = count_by begins_character (take_while (λ b. not (b == 10)) (reverse front)) + 1

-- they are the line and the column of a place in the text
abbrev pub IsPlaceIn : List ℕ → (line column : ℕ) → Type 0
IsPlaceIn text line column = (front : List ℕ) × (rest : List ℕ) × (text ≡ front ++ rest) × (line ≡ line_after front) × (column ≡ column_after front)
