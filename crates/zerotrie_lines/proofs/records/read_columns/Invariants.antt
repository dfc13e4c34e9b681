use Rattle.std.proofs.Common.{◌≡◌, ◌++◌, List, map, length}
use Rattle.zerotrie_lines.specs.Lines.{ended_lines}
use Rattle.zerotrie_lines.specs.Reads.{HasRead}
use Rattle.zerotrie_lines.specs.Records.{Fields, tab_fields, tab_rows}
use Rattle.zerotrie_lines.proofs.records.read_columns.Given as goal

abbrev pub invariant-loop-index : goal.invariant-loop-index
invariant-loop-index l = (rows : List Fields) × (rows ++ map tab_fields (ended_lines l.fn.form.end l.rest) ≡ tab_rows l.fn.form.end l.fn.input)
    × HasRead l.fn.raw l.fn.form.header rows l.records × (length rows ≡ l.index)
