use Rattle.std.proofs.Common.{◌≡◌, ◌++◌}
use Rattle.zerotrie.specs.dense.Views.{pairs_in}
use Rattle.zerotrie.specs.dense.Windows.{values}
use Rattle.zerotrie.proofs.dense.rows.values_of.Given as goal

abbrev pub invariant-loop-value : goal.invariant-loop-value
invariant-loop-value l = l.values.items ++ values (pairs_in l.value-iterator) ≡ values (pairs_in l.entries.entries)
