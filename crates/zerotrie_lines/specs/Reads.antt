-- Which pairs an input is, and which line of it is none, and why.
use Rattle.std.specs.Prelude.{◌≡◌, ◌≢◌, ℕ, ◌+◌, ◌≤◌, ◌⊎◌, Bool, true, false, List, [], ◌∷◌, ◌++◌, length, Some, Any}
use Rattle.std.specs.List.{before_first, after_first, Contains}
use Rattle.zerotrie_lines.specs.Numbers.{IsNumber}
use Rattle.zerotrie_lines.specs.Tables.{Pair, Pairs}
use Rattle.zerotrie_lines.specs.Lines.{is_tab, header_rows, behind, text_lines, HasTab, IsKeyText, IsPairLine}
use Rattle.zerotrie_lines.specs.Faults.{IsBadValue}
use Rattle.zerotrie_lines.specs.Records.{Fields, AreColumnsOf, AreFirstRowsOf, ArePairRecords, AreRowsOf, field, tab_rows}
use Rattle.csv.specs.Records.{field_at}
use Rattle.zerotrie_lines.specs.declared.reading.Format.{Format}
use Rattle.zerotrie_lines.specs.declared.reading.Format.TheVariants.{Lines, Tsv, TsvRaw, Csv}
use Rattle.zerotrie_lines.specs.declared.columns.Columns.{Columns}
use Rattle.zerotrie_lines.specs.declared.reading.Header.{Header}
use Rattle.zerotrie_lines.specs.declared.reading.Header.TheVariants.{Named}
use Rattle.zerotrie_lines.specs.declared.reading.LineEnd.{LineEnd}
use Rattle.zerotrie_lines.specs.declared.reading.TextForm.{TextForm}
use Rattle.zerotrie_lines.specs.declared.records.Records.{Records}
use Rattle.zerotrie_lines.specs.declared.fault.BadLine.{BadLine}
use Rattle.zerotrie_lines.specs.declared.fault.BadLine.TheVariants as bad
use Rattle.zerotrie_lines.specs.declared.fault.ReadError.{ReadError}
use Rattle.zerotrie_lines.specs.declared.fault.ReadError.TheVariants.{Line, OutOfMemory}

-- line number n is the pair
abbrev pub IsPairIn : Format → ℕ → List ℕ → Pair → Type 0
IsPairIn Lines n line e = e ≡ (line, n)
IsPairIn Tsv n line e = IsPairLine false line e
IsPairIn TsvRaw n line e = IsPairLine true line e
IsPairIn Csv n line e = ⊥

-- lines, the first of them with number n, are the pairs, one each
abbrev pub ReadsLines : Format → ℕ → List (List ℕ) → Pairs → Type 0
ReadsLines format n [] [] = Unit {0}
ReadsLines format n [] (e ∷ pairs) = ⊥
ReadsLines format n (line ∷ lines) [] = ⊥
ReadsLines format n (line ∷ lines) (e ∷ pairs) = IsPairIn format n line e × ReadsLines format (n + 1) lines pairs

-- the number of the first line that is a pair: the header is counted
abbrev pub first_number : Header → ℕ
first_number header = header_rows header + 1

-- the lines of an input, behind the header, are the pairs
abbrev pub ReadsText : Format → Header → LineEnd → List ℕ → Pairs → Type 0
ReadsText format header end input pairs = ReadsLines format (first_number header) (text_lines end header input) pairs

-- the records are the pairs, behind the header, which has the columns
abbrev pub ReadsRows : Bool → Header → List Fields → Pairs → Type 0
ReadsRows raw header rows pairs = (c : Columns) × AreColumnsOf header rows c × ArePairRecords raw c (behind header rows) pairs

-- the records of an input are the pairs
abbrev pub ReadsRecords : TextForm → List ℕ → Pairs → Type 0
ReadsRecords form input pairs = (rows : List Fields) × AreRowsOf form input rows × ReadsRows true form.header rows pairs

-- the lines of an input, with fields that tabs are between, are
abbrev pub ReadsColumns : Bool → Header → LineEnd → List ℕ → Pairs → Type 0
ReadsColumns raw header end input pairs = ReadsRows raw header (tab_rows end input) pairs

-- lines with a tab, whose keys are raw or have escapes
abbrev pub tabbed : Bool → Format
tabbed true = TsvRaw
tabbed false = Tsv

-- lines with one tab are the pairs, or columns that a header names
abbrev pub ReadsTabbed : Bool → Header → LineEnd → List ℕ → Pairs → Type 0
ReadsTabbed raw (Named of) end input pairs = ReadsColumns raw (Named of) end input pairs
ReadsTabbed raw header end input pairs = ReadsText (tabbed raw) header end input pairs

-- what a format reads
abbrev pub ReadsAs : Format → TextForm → List ℕ → Pairs → Type 0
ReadsAs Lines form input pairs = ReadsText Lines form.header form.end input pairs
ReadsAs Tsv form input pairs = ReadsTabbed false form.header form.end input pairs
ReadsAs TsvRaw form input pairs = ReadsTabbed true form.header form.end input pairs
ReadsAs Csv form input pairs = ReadsRecords form input pairs

-- the input is the pairs, in their order
abbrev pub Reads : TextForm → List ℕ → Pairs → Type 0
Reads form input pairs = ReadsAs form.format form input pairs

-- the key is what is before the tab of a line, with no backslash
abbrev pub IsKeyOf : List ℕ → List ℕ → Type 0
IsKeyOf line key = (key ≡ before_first is_tab line) × (Contains key 92 → ⊥)

-- the line is no pair whose key is in it as it is: a backslash is before its tab, or it is no pair
abbrev pub IsNotPlain : Bool → List ℕ → Type 0
IsNotPlain true line = (e : Pair) → IsPairLine true line e → ⊥
IsNotPlain false line = Contains (before_first is_tab line) 92 ⊎ ((e : Pair) → IsPairLine false line e → ⊥)

-- an input is not pairs whose keys are in it as they are: a line is none, or it is records, or a header names columns
abbrev pub HasNoItemsTabbed : Bool → Header → LineEnd → List ℕ → Type 0
HasNoItemsTabbed raw (Named of) end input = Unit {0}
HasNoItemsTabbed raw header end input = Any (IsNotPlain raw) (text_lines end header input)

abbrev pub HasNoItemsAs : Format → TextForm → List ℕ → Type 0
HasNoItemsAs Lines form input = ⊥
HasNoItemsAs Tsv form input = HasNoItemsTabbed false form.header form.end input
HasNoItemsAs TsvRaw form input = HasNoItemsTabbed true form.header form.end input
HasNoItemsAs Csv form input = Unit {0}

abbrev pub HasNoItems : TextForm → List ℕ → Type 0
HasNoItems form input = HasNoItemsAs form.format form input

-- why texts are no key and no value: the first is no key, or the second no number
abbrev pub IsPairFault : Bool → List ℕ → List ℕ → BadLine → Type 0
IsPairFault raw text digits bad.Escape = (key : List ℕ) → IsKeyText raw text key → ⊥
IsPairFault raw text digits (bad.Value v) = ((value : ℕ) → IsNumber digits value → ⊥) × IsBadValue digits v
IsPairFault raw text digits fault = ⊥

-- why a line is no pair: it is empty, it has no tab, what is before the tab is no key, or what is after it is no number
abbrev pub IsLineFault : Bool → List ℕ → BadLine → Type 0
IsLineFault raw line bad.Empty = line ≡ []
IsLineFault raw line bad.NoTab = (line ≢ []) × (HasTab line → ⊥)
IsLineFault raw line fault = HasTab line × IsPairFault raw (before_first is_tab line) (after_first is_tab line) fault

-- why a record is none: it has not a field for each column, or those of the pair are no key and no value
abbrev pub IsRecordFault : Bool → Columns → Fields → BadLine → Type 0
IsRecordFault raw c row (bad.Fields found wanted) = (found ≡ length row) × (wanted ≡ c.count) × (found ≢ wanted)
IsRecordFault raw c row fault = (length row ≡ c.count) × IsPairFault raw (field row c.key) (field row c.value) fault

-- why a header has no such column: none has the name, or two have it
abbrev pub IsNoColumn : Fields → List ℕ → BadLine → Type 0
IsNoColumn names name (bad.NoColumn text) = (text.items ≡ name) × ((i : ℕ) → field_at names i ≡ Some name → ⊥)
IsNoColumn names name (bad.SameColumns text) = (text.items ≡ name) × (i : ℕ) × (j : ℕ) × (i ≢ j) × (field_at names i ≡ Some name) × (field_at names j ≡ Some name)
IsNoColumn names name fault = ⊥

-- why a header has no columns of pairs: that of keys, or that of values
abbrev pub HasNoColumns : Header → Fields → BadLine → Type 0
HasNoColumns (Named of) names fault = IsNoColumn names of.key.now fault ⊎ IsNoColumn names of.value.now fault
HasNoColumns header names fault = ⊥

-- why the first line or record is no header: this holds of its fault, or an allocation failed
abbrev pub IsNoHeader : (BadLine → Type 0) → ReadError → Type 0
IsNoHeader Fact OutOfMemory = Unit {0}
IsNoHeader Fact (Line m fault) = (m ≡ 1) × Fact fault

-- of lines, the first with number n, line number m is no pair for this fault, and each before it is a pair
abbrev pub IsBadLine : Bool → ℕ → List (List ℕ) → ℕ → BadLine → Type 0
IsBadLine raw n [] m fault = ⊥
IsBadLine raw n (line ∷ lines) m fault = ((m ≡ n) × IsLineFault raw line fault) ⊎ ((e : Pair) × IsPairLine raw line e × IsBadLine raw (n + 1) lines m fault)

-- behind these records the next is bad for this fault: it is a header without the columns, or no pair, and each between is a pair
abbrev pub IsBadRow : Bool → Header → List Fields → Fields → BadLine → Type 0
IsBadRow raw header rows row fault = ((rows ≡ []) × HasNoColumns header row fault)
    ⊎ ((header_rows header ≤ length rows) × (c : Columns) × AreColumnsOf header (rows ++ row ∷ []) c × (pairs : Pairs) × ArePairRecords raw c (behind header rows) pairs × IsRecordFault raw c row fault)

-- why the next record is not taken: it is bad, by its number, or an allocation failed
abbrev pub IsBadAfter : Bool → Header → List Fields → Fields → ReadError → Type 0
IsBadAfter raw header rows row OutOfMemory = Unit {0}
IsBadAfter raw header rows row (Line m fault) = (m ≡ length rows + 1) × IsBadRow raw header rows row fault

-- why lines, the first with number n, are no pairs: this line is none, or an allocation failed
abbrev pub ExplainsLines : Bool → ℕ → List (List ℕ) → ReadError → Type 0
ExplainsLines raw n lines OutOfMemory = Unit {0}
ExplainsLines raw n lines (Line m fault) = IsBadLine raw n lines m fault

-- why the records of an input are no pairs
abbrev pub ExplainsRecords : TextForm → List ℕ → ReadError → Type 0
ExplainsRecords form input OutOfMemory = Unit {0}
ExplainsRecords form input e = (rows : List Fields) × (row : Fields) × AreFirstRowsOf form input (rows ++ row ∷ []) × IsBadAfter true form.header rows row e

-- why lines with fields that tabs are between are none
abbrev pub ExplainsColumns : Bool → Header → LineEnd → List ℕ → ReadError → Type 0
ExplainsColumns raw header end input OutOfMemory = Unit {0}
ExplainsColumns raw header end input e = (rows : List Fields) × (row : Fields) × (more : List Fields) × (tab_rows end input ≡ rows ++ row ∷ more) × IsBadAfter raw header rows row e

-- why lines with one tab, or columns that a header names, are none
abbrev pub ExplainsTabbed : Bool → Header → LineEnd → List ℕ → ReadError → Type 0
ExplainsTabbed raw (Named of) end input e = ExplainsColumns raw (Named of) end input e
ExplainsTabbed raw header end input e = ExplainsLines raw (first_number header) (text_lines end header input) e

-- why an input is not read
abbrev pub ExplainsAs : Format → TextForm → List ℕ → ReadError → Type 0
ExplainsAs Lines form input e = e ≡ OutOfMemory
ExplainsAs Tsv form input e = ExplainsTabbed false form.header form.end input e
ExplainsAs TsvRaw form input e = ExplainsTabbed true form.header form.end input e
ExplainsAs Csv form input e = ExplainsRecords form input e

abbrev pub Explains : TextForm → List ℕ → ReadError → Type 0
Explains form input e = ExplainsAs form.format form input e

-- Words of private functions: these records were read.
pub record HasRead (raw : Bool) (header : Header) (rows : List Fields) (r : Records) : Type 0 where
  pub same_raw : r.raw ≡ raw
  pub same_header : r.header ≡ header
  pub columns : AreColumnsOf header rows r.columns
  pub pairs : ArePairRecords raw r.columns (behind header rows) r.table
