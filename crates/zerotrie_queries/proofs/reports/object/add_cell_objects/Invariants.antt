use Rattle.std.proofs.Common.{◌≡◌, ◌++◌, drop, false}
use Rattle.zerotrie_queries.specs.reports.Json.{cell_objects}
use Rattle.zerotrie_queries.proofs.reports.object.add_cell_objects.Given as goal

abbrev pub invariant-loop-cell : goal.invariant-loop-cell
invariant-loop-cell l = l.text.items ++ cell_objects l.later l.cell (drop l.cell l.cells) ≡ l.initial.text.items ++ cell_objects false 0 l.cells
