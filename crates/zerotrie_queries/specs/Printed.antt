-- The lines that are printed, and the status that is answered.
use Rattle.std.specs.Prelude.{◌≡◌, ℕ, List, [], ◌∷◌, ◌++◌, ◌==◌, ◌&&◌, nat_le, not, Bool, true, false, codes, decimal, take, length, Option, Some, None, is_some, if◌then◌else◌}
use Rattle.std.specs.List.{list_all}
use Rattle.std.specs.Str.{is_utf8}
use Rattle.zerotrie_core.specs.Maps.{Pairs}
use Rattle.zerotrie_lines.specs.Escapes.{escaped}
use Rattle.zerotrie_lines.specs.Lines.{tsv_line}
use Rattle.zerotrie_queries.specs.Json.{object_line, pair_json}
use Rattle.zerotrie_queries.specs.declared.print.Style.{Style}
use Rattle.zerotrie_queries.specs.declared.print.Style.TheVariants.{Tsv, TsvRaw, Csv, JsonLines, Keys, Values}
use Rattle.zerotrie_queries.specs.declared.print.Form.{Form}
use Rattle.zerotrie_queries.specs.declared.print.Form.TheVariants.{Lines, Distances, Json, Count}

-- the line of a number
abbrev pub number_line : ℕ → List ℕ
number_line number = decimal number ++ 10 ∷ []

-- the line of an answer
abbrev pub value_line : Option ℕ → List ℕ
value_line None = codes "none\n"
value_line (Some value) = number_line value

abbrev pub value_lines : List (Option ℕ) → List ℕ
value_lines [] = []
value_lines (answer ∷ answers) = value_line answer ++ value_lines answers

-- whether each was found
abbrev pub are_found : {A : Type 0} → List (Option A) → Bool
are_found [] = true
are_found (answer ∷ answers) = is_some answer && are_found answers

-- the line of a key and its answer
abbrev pub key_line : List ℕ → Option ℕ → List ℕ
key_line key None = escaped key ++ codes "\tnone\n"
key_line key (Some value) = tsv_line (key, value)

-- the line of the first key of a value
abbrev pub first_key_line : Option (List ℕ) → List ℕ
first_key_line None = codes "none\n"
first_key_line (Some key) = escaped key ++ 10 ∷ []

-- the line of a key that a text begins with, by its length, and of its value
abbrev pub front_line : List ℕ → ℕ × ℕ → List ℕ
front_line text r = tsv_line (take r.0 text, r.1)

-- the line of the longest key that a text begins with
abbrev pub found_line : List ℕ → Option (ℕ × ℕ) → List ℕ
found_line text None = codes "none\n"
found_line text (Some r) = front_line text r

-- the lines of keys that a text begins with
abbrev pub front_lines : List ℕ → List (ℕ × ℕ) → List ℕ
front_lines text [] = []
front_lines text (r ∷ found) = front_line text r ++ front_lines text found

-- the line of each key that a text begins with
abbrev pub fronts_text : List ℕ → List (ℕ × ℕ) → List ℕ
fronts_text text [] = codes "none\n"
fronts_text text (r ∷ found) = front_lines text (r ∷ found)

-- a byte that a field of CSV has without quotes: printable ASCII but a quotation mark and a comma
abbrev pub is_csv_plain : ℕ → Bool
is_csv_plain b = (nat_le 32 b && nat_le b 126) && (not (b == 34) && not (b == 44))

-- bytes with each quotation mark twice
abbrev pub doubled : List ℕ → List ℕ
doubled [] = []
doubled (b ∷ bytes) = if b == 34 then 34 ∷ 34 ∷ doubled bytes else b ∷ doubled bytes

-- a field of CSV, in quotes if it has other bytes
abbrev pub csv_field : List ℕ → List ℕ
csv_field key = if list_all is_csv_plain key then key else 34 ∷ (doubled key ++ 34 ∷ [])

-- the line of a pair
abbrev pub pair_line : Style → List ℕ × ℕ → List ℕ
pair_line Tsv e = tsv_line e
pair_line TsvRaw e = e.0 ++ (9 ∷ number_line e.1)
pair_line Csv e = csv_field e.0 ++ (44 ∷ number_line e.1)
pair_line JsonLines e = pair_json e ++ 10 ∷ []
pair_line Keys e = e.0 ++ 10 ∷ []
pair_line Values e = number_line e.1

-- the lines of pairs
abbrev pub lines_of : (line : List ℕ × ℕ → List ℕ) → Pairs → List ℕ
lines_of line [] = []
lines_of line (e ∷ pairs) = line e ++ lines_of line pairs

-- the line of a pair and of how many edits make its key of a word
abbrev pub edits_line : List ℕ × ℕ → (edits : ℕ) → List ℕ
edits_line e edits = escaped e.0 ++ (9 ∷ (decimal e.1 ++ (9 ∷ number_line edits)))

-- pairs as they are printed, where this many edits make each key of a word
abbrev pub listed : Form → (edits : List ℕ → ℕ) → Pairs → List ℕ
listed (Lines style) edits pairs = lines_of (pair_line style) pairs
listed Distances edits pairs = lines_of (λ e. edits_line e (edits e.0)) pairs
listed Json edits pairs = object_line pairs
listed Count edits pairs = number_line (length pairs)

-- a byte that a key has as it is in a line of fields: no tab, and no line feed
abbrev pub is_raw : ℕ → Bool
is_raw b = not (b == 9) && not (b == 10)

-- whether a key can be printed so: as JSON one that is UTF-8, and as it is before a tab one that has none
abbrev pub can_print : Form → List ℕ → Bool
can_print (Lines Tsv) key = true
can_print (Lines TsvRaw) key = list_all is_raw key
can_print (Lines Csv) key = true
can_print (Lines JsonLines) key = true
can_print (Lines Keys) key = true
can_print (Lines Values) key = true
can_print Distances key = true
can_print Json key = is_utf8 key
can_print Count key = true

-- whether all keys of pairs can
abbrev pub are_printable : Form → Pairs → Bool
are_printable form pairs = list_all (λ (e : List ℕ × ℕ). can_print form e.0) pairs

-- the key is the first that can't
abbrev pub IsFirstUnprintable : Form → Pairs → List ℕ → Type 0
IsFirstUnprintable form pairs key = (front back : Pairs) × (value : ℕ) × (pairs ≡ front ++ (key, value) ∷ back) × (are_printable form front ≡ true) × (can_print form key ≡ false)
