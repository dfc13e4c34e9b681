-- What is written is read back, and nothing else is.
use Rattle.std.specs.Prelude.{◌≡◌, ◌↔◌, ℕ, ◌^◌, ◌<◌, List, All}
use Rattle.zerotrie_lines.specs.Tables.{Pairs}
use Rattle.zerotrie_lines.specs.Escapes.{Spells, escaped}
use Rattle.zerotrie_lines.specs.Lines.{tsv_lines}
use Rattle.zerotrie_lines.specs.Reads.{Reads, Explains}
use Rattle.zerotrie_lines.specs.declared.reading.Format.TheVariants.{Tsv}
use Rattle.zerotrie_lines.specs.declared.reading.Header.TheVariants.{Absent}
use Rattle.zerotrie_lines.specs.declared.reading.LineEnd.{LineEnd}
use Rattle.zerotrie_lines.specs.declared.reading.TextForm.{TextForm}
use Rattle.zerotrie_lines.specs.declared.fault.BadLine.{BadLine}
use Rattle.zerotrie_lines.specs.declared.fault.ReadError.TheVariants.{Line}

-- a key that is written spells that key, and no other
abbrev pub EscapedReadsBack : Type 0
EscapedReadsBack = (key other : List ℕ) → Spells (escaped key) other ↔ (other ≡ key)

-- the form of lines that are written, with an end of lines by which they are read
abbrev pub tsv_form : LineEnd → TextForm
tsv_form end = record { format = Tsv; end = end; header = Absent }

-- the lines of pairs whose values are below 2 ^ 64 are these pairs
abbrev pub LinesReadBack : Type 0
LinesReadBack = (end : LineEnd) (pairs : Pairs) → All (λ e. e.1 < 2 ^ 64) pairs → Reads (tsv_form end) (tsv_lines pairs) pairs

-- an input is one list of pairs at most
abbrev pub OneReading : Type 0
OneReading = (form : TextForm) (input : List ℕ) (pairs others : Pairs) → Reads form input pairs → Reads form input others → others ≡ pairs

-- an input with a line or record that is no pair is no pairs
abbrev pub BadIsUnread : Type 0
BadIsUnread = (form : TextForm) (input : List ℕ) (number : ℕ) (fault : BadLine) (pairs : Pairs)
    → Explains form input (Line number fault) → Reads form input pairs → ⊥
