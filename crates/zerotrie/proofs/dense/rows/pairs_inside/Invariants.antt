use Rattle.std.proofs.Common.{◌≡◌, ◌++◌}
use Rattle.zerotrie_core.specs.Items.{pairs_of}
use Rattle.zerotrie.specs.dense.Views.{pairs_in}
use Rattle.zerotrie.specs.dense.Windows.{within}
use Rattle.zerotrie.proofs.dense.rows.pairs_inside.Given as goal

abbrev pub invariant-loop-suffix : goal.invariant-loop-suffix
invariant-loop-suffix l = pairs_of l.pairs.items ++ within l.start (pairs_in l.suffix-iterator) ≡ within l.start (pairs_in l.entries.entries)
