-- Which pairs an input is, and why it is none.
use Rattle.std.specs.Prelude.{◌≡◌, ℕ, ◌+◌, List, Option, Some, None, IsUtf8}
use Rattle.csv.specs.Reading.{strip_bom}
use Rattle.json.specs.Json.{Json as Value, document}
use Rattle.zerotrie_making.specs.Json.{pairs_in}
use Rattle.zerotrie_lines.specs.Tables.{Pairs}
use Rattle.zerotrie_lines.specs.Lines.{header_rows}
use Rattle.zerotrie_lines.specs.Reads.{Reads}
use Rattle.zerotrie_lines.specs.Reads as reads
use Rattle.zerotrie_lines.specs.declared.reading.Names.{Names}
use Rattle.zerotrie_lines.specs.declared.reading.TextForm.{TextForm}
use Rattle.zerotrie_lines.specs.declared.fault.ReadError.TheVariants as fault
use Rattle.zerotrie_making.specs.Unread.{IsFirst}
use Rattle.zerotrie_making.specs.Others.{IsOther}
use Rattle.zerotrie_making.specs.JsonLines.{IsUnreadLine, json_lines, pairs_in_lines}
use Rattle.zerotrie_making.specs.Places.{IsPlaceIn}
use Rattle.zerotrie_making.specs.declared.plan.Source.{Source}
use Rattle.zerotrie_making.specs.declared.plan.Source.TheVariants.{Text, Json, JsonLines}
use Rattle.zerotrie_making.specs.declared.error.NoPair.{NoPair}
use Rattle.zerotrie_making.specs.declared.error.MakeError.{MakeError}
use Rattle.zerotrie_making.specs.declared.error.MakeError.TheVariants.{NotText, Line, NotJson, NotPairs, NotPair, Keys, SumTooLarge, Refused, IndexRefused, OutOfMemory}

-- the input is the text of this JSON value, after the byte order mark that may be in front
abbrev pub IsJson : List ℕ → Value → Type 0
IsJson input j = IsUtf8 (strip_bom input) × (document (strip_bom input) ≡ Some j)

-- why a text is no JSON value: it is none, or an allocation failed
abbrev pub NoValue : List ℕ → MakeError → Type 0
NoValue text (NotText other) = ⊥
NoValue text (Line number bad) = ⊥
NoValue text (NotJson line column) = (document text ≡ None) × IsPlaceIn text line column
NoValue text NotPairs = ⊥
NoValue text (NotPair bad) = ⊥
NoValue text (Keys s) = ⊥
NoValue text (SumTooLarge k) = ⊥
NoValue text (Refused e) = ⊥
NoValue text (IndexRefused e) = ⊥
NoValue text OutOfMemory = Unit {0}

-- it says that a text is no JSON value, with a place in it
abbrev pub IsNotJson : List ℕ → MakeError → Type 0
IsNotJson text e = (line column : ℕ) × (e ≡ NotJson line column) × IsPlaceIn text line column

-- how many lines or records are in front of the pairs of a source: a header, which JSON has not
abbrev pub rows_before : Source → ℕ
rows_before (Text form) = header_rows form.header
rows_before Json = 0
rows_before (JsonLines names) = 0

-- the number of a pair in a source, by its number among the pairs: the header is counted
abbrev pub number_in_source : Source → ℕ → ℕ
number_in_source source n = rows_before source + n

-- the input is the pairs, in their order
abbrev pub IsPairs : Source → List ℕ → Pairs → Type 0
IsPairs (Text form) input pairs = Reads form input pairs
IsPairs Json input pairs = (j : Value) × IsJson input j × (pairs_in j ≡ Some pairs)
IsPairs (JsonLines names) input pairs = pairs_in_lines names (json_lines input) ≡ Some pairs

-- why an input is no text of pairs: it is another file, this line or record is none, or an allocation failed
abbrev pub NoText : TextForm → List ℕ → MakeError → Type 0
NoText form input (NotText other) = IsOther input (Some other)
NoText form input (Line number bad) = reads.Explains form input (fault.Line number bad)
NoText form input (NotJson line column) = ⊥
NoText form input NotPairs = ⊥
NoText form input (NotPair bad) = ⊥
NoText form input (Keys s) = ⊥
NoText form input (SumTooLarge k) = ⊥
NoText form input (Refused e) = ⊥
NoText form input (IndexRefused e) = ⊥
NoText form input OutOfMemory = Unit {0}

-- the input is a JSON value in which there are no pairs, and this member or item of it is the first that is none, if it has any
abbrev pub IsUnread : List ℕ → Option NoPair → Type 0
IsUnread input bad = (j : Value) × IsJson input j × (pairs_in j ≡ None) × IsFirst j bad

-- why an input is no JSON value of pairs: it is another file, or no JSON value, or no object and no list, or this of its members or items
-- is no pair, or an allocation failed
abbrev pub NoJson : List ℕ → MakeError → Type 0
NoJson input (NotText other) = IsOther input (Some other)
NoJson input (Line number bad) = ⊥
NoJson input (NotJson line column) = (IsUtf8 (strip_bom input) → document (strip_bom input) ≡ None) × IsPlaceIn (strip_bom input) line column
NoJson input NotPairs = IsUnread input None
NoJson input (NotPair bad) = IsUnread input (Some bad)
NoJson input (Keys s) = ⊥
NoJson input (SumTooLarge k) = ⊥
NoJson input (Refused e) = ⊥
NoJson input (IndexRefused e) = ⊥
NoJson input OutOfMemory = Unit {0}

-- why an input is no lines of JSON with a pair in each: it is another file, or this line has none, or an allocation failed
abbrev pub NoJsonLines : Names → List ℕ → MakeError → Type 0
NoJsonLines names input (NotText other) = IsOther input (Some other)
NoJsonLines names input (Line number bad) = ⊥
NoJsonLines names input (NotJson line column) = ⊥
NoJsonLines names input NotPairs = IsUnreadLine names input None
NoJsonLines names input (NotPair bad) = IsUnreadLine names input (Some bad)
NoJsonLines names input (Keys s) = ⊥
NoJsonLines names input (SumTooLarge k) = ⊥
NoJsonLines names input (Refused e) = ⊥
NoJsonLines names input (IndexRefused e) = ⊥
NoJsonLines names input OutOfMemory = Unit {0}

-- why an input is no pairs
abbrev pub NoPairs : Source → List ℕ → MakeError → Type 0
NoPairs (Text form) input e = NoText form input e
NoPairs Json input e = NoJson input e
NoPairs (JsonLines names) input e = NoJsonLines names input e
