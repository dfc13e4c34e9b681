-- The lines of an input, and which of them are pairs.
use Rattle.std.specs.Prelude.{◌≡◌, ℕ, ◌⊎◌, ◌<◌, ◌==◌, Bool, true, false, List, [], ◌∷◌, ◌++◌, length, drop, map, decimal, if◌then◌else◌}
use Rattle.std.specs.List.{before_first, after_first, position_or_len}
use Rattle.csv.specs.Reading.{strip_bom}
use Rattle.zerotrie_lines.specs.Numbers.{IsNumber}
use Rattle.zerotrie_lines.specs.Escapes.{Spells, escaped}
use Rattle.zerotrie_lines.specs.Tables.{Pair, Pairs}
use Rattle.zerotrie_lines.specs.declared.reading.Header.{Header}
use Rattle.zerotrie_lines.specs.declared.reading.Header.TheVariants.{Absent, Present, Named}
use Rattle.zerotrie_lines.specs.declared.reading.LineEnd.{LineEnd}
use Rattle.zerotrie_lines.specs.declared.reading.LineEnd.TheVariants.{CrLf, Lf}

-- a line feed, and a tab
abbrev pub is_feed : ℕ → Bool
is_feed b = b == 10

abbrev pub is_tab : ℕ → Bool
is_tab b = b == 9

-- a byte that is no line feed, in front of lines: it goes to the first, or is one if there are none
abbrev pub onto_line : ℕ → List (List ℕ) → List (List ℕ)
onto_line b [] = (b ∷ []) ∷ []
onto_line b (line ∷ lines) = (b ∷ line) ∷ lines

-- The lines, each without its line feed. The last may lack it.
abbrev pub lines_of : List ℕ → List (List ℕ)
lines_of [] = []
lines_of (b ∷ input) = if is_feed b then [] ∷ lines_of input else onto_line b (lines_of input)

-- a line without a carriage return at its end
abbrev pub without_return : List ℕ → List ℕ
without_return [] = []
without_return (b ∷ []) = if b == 13 then [] else b ∷ []
without_return (b ∷ c ∷ line) = b ∷ without_return (c ∷ line)

-- a line as it is read: a carriage return at its end belongs to what ends it, unless line feeds alone end lines
abbrev pub ended : LineEnd → List ℕ → List ℕ
ended CrLf line = without_return line
ended Lf line = line

-- the lines of a text, each without what ends it
abbrev pub ended_lines : LineEnd → List ℕ → List (List ℕ)
ended_lines end text = map (ended end) (lines_of text)

-- how many lines or records the header is
abbrev pub header_rows : Header → ℕ
header_rows Absent = 0
header_rows Present = 1
header_rows (Named of) = 1

-- the lines or records behind the header
abbrev pub behind : {A : Type 0} → Header → List A → List A
behind Absent rows = rows
behind Present rows = drop 1 rows
behind (Named of) rows = drop 1 rows

-- The lines of an input that are to be pairs: a byte order mark in front of it is left out, and so are the header, and what ends a line.
abbrev pub text_lines : LineEnd → Header → List ℕ → List (List ℕ)
text_lines end header input = map (ended end) (behind header (lines_of (strip_bom input)))

-- the text begins with the end of a line, or is empty, and the rest follows
abbrev pub IsEnd : LineEnd → List ℕ → List ℕ → Type 0
IsEnd end text rest = (text ≡ 10 ∷ rest) ⊎ ((text ≡ []) × (rest ≡ [])) ⊎ ((end ≡ CrLf) × (text ≡ 13 ∷ 10 ∷ rest))

-- a line has a tab
abbrev pub HasTab : List ℕ → Type 0
HasTab line = position_or_len is_tab line < length line

-- a text is the key as it is, if keys are raw, and else spells it
abbrev pub IsKeyText : Bool → List ℕ → List ℕ → Type 0
IsKeyText true text key = key ≡ text
IsKeyText false text key = Spells text key

-- they are the text of the key, and the digits of the value
abbrev pub IsPairOf : Bool → List ℕ → List ℕ → Pair → Type 0
IsPairOf raw text digits e = IsKeyText raw text e.0 × IsNumber digits e.1

-- the line has a tab; what is before the first is the text of the key, and what is after it are the digits of the value
abbrev pub IsPairLine : Bool → List ℕ → Pair → Type 0
IsPairLine raw line e = HasTab line × IsKeyText raw (before_first is_tab line) e.0 × IsNumber (after_first is_tab line) e.1

-- the line of a pair, with its line feed
abbrev pub tsv_line : Pair → List ℕ
tsv_line e = escaped e.0 ++ (9 ∷ (decimal e.1 ++ (10 ∷ [])))

abbrev pub tsv_lines : Pairs → List ℕ
tsv_lines [] = []
tsv_lines (e ∷ pairs) = tsv_line e ++ tsv_lines pairs
