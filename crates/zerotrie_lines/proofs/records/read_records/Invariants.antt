use Rattle.std.proofs.Common.{◌≡◌, ℕ, List, Some, true, length}
use Rattle.csv.specs.Reading.{Reached, Ready, source_of, strip_bom}
use Rattle.csv.specs.declared.parser.State.TheVariants as st
use Rattle.csv.specs.declared.reader.Trim.TheVariants as trim
use Rattle.zerotrie_lines.specs.Reads.{HasRead}
use Rattle.zerotrie_lines.specs.Records.{Fields, config_of}
use Rattle.zerotrie_lines.proofs.records.read_records.Given as goal

abbrev pub invariant-loop-index : goal.invariant-loop-index
invariant-loop-index l = (l.reader.trim ≡ trim.None) × Ready l.reader × (l.reader.config ≡ config_of l.fn.form)
    × (y : List ℕ) × (source_of (λ s. Some s.now) l.reader ≡ Some y)
    × (rows : List Fields) × Reached (config_of l.fn.form) st.StartRecord (strip_bom l.fn.input) rows l.reader.state y
    × HasRead true l.fn.form.header rows l.records × (length rows ≡ l.index)
