use Rattle.std.proofs.Common.{◌≡◌, ◌++◌, map, drop}
use Rattle.zerotrie_core.specs.Items.{pairs_of}
use Rattle.zerotrie_core.specs.Maps.{Pairs}
use Rattle.zerotrie_making.proofs.combine.items_of.Given as goal

abbrev pub invariant-loop-table : goal.invariant-loop-table
invariant-loop-table l = map {B = Pairs} (λ pairs. pairs_of pairs.items) l.items.items ++ drop l.table-index l.tables ≡ l.tables
