-- The pairs in lines of JSON.
use Rattle.std.specs.Prelude.{◌≡◌, ℕ, List, [], ◌∷◌, Option, Some, None, if◌then◌else◌, option_map, option_and_then}
use Rattle.std.specs.Option.{option_or, option_zip}
use Rattle.std.specs.Str.{is_utf8}
use Rattle.json.specs.Json.{Json, document}
use Rattle.json.specs.Find.{get}
use Rattle.zerotrie_lines.specs.Lines.{text_lines}
use Rattle.zerotrie_lines.specs.Tables.{Pair, Pairs}
use Rattle.zerotrie_lines.specs.declared.reading.Header.TheVariants.{Absent}
use Rattle.zerotrie_lines.specs.declared.reading.LineEnd.TheVariants.{Lf}
use Rattle.zerotrie_lines.specs.declared.reading.Names.{Names}
use Rattle.zerotrie_making.specs.Json.{key_in, number_in, pair_in}
use Rattle.zerotrie_making.specs.Unread.{first_or_later}
use Rattle.zerotrie_making.specs.declared.error.NoPair.{NoPair}
use Rattle.zerotrie_making.specs.declared.error.NoPair.TheVariants.{Member, Item, Line}

-- the pair in an object: of the members with these names, whatever others there are
abbrev pub named_pair_in : Names → Json → Option Pair
named_pair_in names j = option_zip (option_and_then key_in (get names.key.now j)) (option_and_then number_in (get names.value.now j))

-- the pair in the value of a line: a list of two, or such an object
abbrev pub row_in : Names → Json → Option Pair
row_in names j = option_or (pair_in j) (named_pair_in names j)

-- the pair in a line, which is the text of a JSON value
abbrev pub pair_in_line : Names → List ℕ → Option Pair
pair_in_line names line = if is_utf8 line then option_and_then (row_in names) (document line) else None

-- the pairs in lines, if one is in each
abbrev pub pairs_in_lines : Names → List (List ℕ) → Option Pairs
pairs_in_lines names [] = Some []
pairs_in_lines names (line ∷ lines) = option_and_then (λ e. option_map (λ more. e ∷ more) (pairs_in_lines names lines)) (pair_in_line names line)

-- the number, from 1 on, of the first line in which none is
abbrev pub first_bad_line : Names → List (List ℕ) → Option ℕ
first_bad_line names [] = None
first_bad_line names (line ∷ lines) = first_or_later (pair_in_line names line) (first_bad_line names lines)

-- the lines of an input, after the byte order mark that may be in front
abbrev pub json_lines : List ℕ → List (List ℕ)
json_lines input = text_lines Lf Absent input

-- this is the first line in which no pair is, if there is one
abbrev pub IsFirstLine : Names → List (List ℕ) → Option NoPair → Type 0
IsFirstLine names lines None = first_bad_line names lines ≡ None
IsFirstLine names lines (Some (Member key)) = ⊥
IsFirstLine names lines (Some (Item number)) = ⊥
IsFirstLine names lines (Some (Line number)) = first_bad_line names lines ≡ Some number

-- the lines of an input are not all pairs, and this is the first that is none
abbrev pub IsUnreadLine : Names → List ℕ → Option NoPair → Type 0
IsUnreadLine names input bad = (pairs_in_lines names (json_lines input) ≡ None) × IsFirstLine names (json_lines input) bad
