-- The records of an input, their fields, and which of them are pairs.
use Rattle.std.specs.Prelude.{◌≡◌, ◌≤◌, ◌<◌, ℕ, Bool, List, [], ◌∷◌, length, map, Some, if◌then◌else◌}
use Rattle.std.specs.Option.{unwrap_or}
use Rattle.csv.specs.Reading.{AreRecords, Reached, default_config, strip_bom}
use Rattle.csv.specs.Records.{field_at}
use Rattle.csv.specs.declared.parser.Config.{Config}
use Rattle.csv.specs.declared.parser.State.{State}
use Rattle.csv.specs.declared.parser.State.TheVariants as st
use Rattle.csv.specs.declared.parser.Terminator.{Terminator}
use Rattle.csv.specs.declared.parser.Terminator.TheVariants as terminator
use Rattle.zerotrie_lines.specs.Lines.{IsKeyText, ended_lines, is_tab, onto_line}
use Rattle.zerotrie_lines.specs.Numbers.{IsNumber}
use Rattle.zerotrie_lines.specs.Tables.{Pair, Pairs}
use Rattle.zerotrie_lines.specs.declared.columns.Columns.{Columns}
use Rattle.zerotrie_lines.specs.declared.reading.Header.{Header}
use Rattle.zerotrie_lines.specs.declared.reading.Header.TheVariants.{Absent, Present, Named}
use Rattle.zerotrie_lines.specs.declared.reading.LineEnd.{LineEnd}
use Rattle.zerotrie_lines.specs.declared.reading.LineEnd.TheVariants.{CrLf, Lf}
use Rattle.zerotrie_lines.specs.declared.reading.TextForm.{TextForm}

-- the fields of a record
abbrev pub Fields : Type 0
Fields = List (List ℕ)

-- the field at a place, or nothing if it is not there
abbrev pub field : Fields → ℕ → List ℕ
field row i = unwrap_or (field_at row i) []

-- the columns of a record of two fields: the key, and the value
abbrev pub two : Columns
two = record { key = 0; value = 1; count = 2 }

-- the only column with this name
abbrev pub IsColumn : Fields → List ℕ → ℕ → Type 0
IsColumn names name i = (field_at names i ≡ Some name) × ((j : ℕ) → field_at names j ≡ Some name → j ≡ i)

-- no column from one place on and before another has the name
abbrev pub LacksName : Fields → List ℕ → ℕ → ℕ → Type 0
LacksName names name from n = (j : ℕ) → from ≤ j → j < n → field_at names j ≡ Some name → ⊥

-- the columns that have the pairs, by the names in the header: two without names, and else those with these names, of all
abbrev pub AreColumns : Header → Fields → Columns → Type 0
AreColumns Absent names c = c ≡ two
AreColumns Present names c = c ≡ two
AreColumns (Named of) names c = IsColumn names of.key.now c.key × IsColumn names of.value.now c.value × (c.count ≡ length names)

-- the same, by the records, of which the first is the header
abbrev pub AreColumnsOf : Header → List Fields → Columns → Type 0
AreColumnsOf header [] c = c ≡ two
AreColumnsOf header (names ∷ rows) c = AreColumns header names c

-- the record has a field for each column: in these two are the text of the key and the digits of the value
abbrev pub IsPairRecord : Bool → Columns → Fields → Pair → Type 0
IsPairRecord raw c row e = (length row ≡ c.count) × IsKeyText raw (field row c.key) e.0 × IsNumber (field row c.value) e.1

-- the records are the pairs, one each
abbrev pub ArePairRecords : Bool → Columns → List Fields → Pairs → Type 0
ArePairRecords raw c [] [] = Unit {0}
ArePairRecords raw c [] (e ∷ pairs) = ⊥
ArePairRecords raw c (row ∷ rows) [] = ⊥
ArePairRecords raw c (row ∷ rows) (e ∷ pairs) = IsPairRecord raw c row e × ArePairRecords raw c rows pairs

-- what ends a record: what ends a line
abbrev pub terminator_of : LineEnd → Terminator
terminator_of CrLf = terminator.CRLF
terminator_of Lf = terminator.Any 10

-- how records are read: their line ends are those of lines, and all else is as usual
abbrev pub config_of : TextForm → Config
config_of form = record default_config { terminator = terminator_of form.end }

-- all records of the input, after the byte order mark that may be in front
abbrev pub AreRowsOf : TextForm → List ℕ → List Fields → Type 0
AreRowsOf form input rows = AreRecords (config_of form) st.StartRecord (strip_bom input) rows

-- the first records of the input
abbrev pub AreFirstRowsOf : TextForm → List ℕ → List Fields → Type 0
AreFirstRowsOf form input rows = (s : State) × (rest : List ℕ) × Reached (config_of form) st.StartRecord (strip_bom input) rows s rest

-- the texts that tabs are between
abbrev pub between_tabs : List ℕ → Fields
between_tabs [] = [] ∷ []
between_tabs (b ∷ line) = if is_tab b then [] ∷ between_tabs line else onto_line b (between_tabs line)

-- the fields of a line that tabs are between: an empty line has none
abbrev pub tab_fields : List ℕ → Fields
tab_fields [] = []
tab_fields (b ∷ line) = between_tabs (b ∷ line)

-- the lines of an input as such fields, after the byte order mark that may be in front
abbrev pub tab_rows : LineEnd → List ℕ → List Fields
tab_rows end input = map tab_fields (ended_lines end (strip_bom input))
