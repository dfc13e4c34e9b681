use Rattle.std.proofs.Common.{◌≡◌, ◌++◌, drop}
use Rattle.zerotrie_queries.specs.reports.Lines.{cell_lines}
use Rattle.zerotrie_queries.proofs.reports.lines.add_cells.Given as goal

abbrev pub invariant-loop-cell : goal.invariant-loop-cell
invariant-loop-cell l = l.lines.items ++ cell_lines l.cell (drop l.cell l.cells) ≡ l.initial.lines.items ++ cell_lines 0 l.cells
