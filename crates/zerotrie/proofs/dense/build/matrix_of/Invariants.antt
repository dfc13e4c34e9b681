use Rattle.std.proofs.Common.{◌≡◌, ◌++◌, List, ℕ, map, drop}
use Rattle.zerotrie.specs.dense.Layout.{dense_cells}
use Rattle.zerotrie.specs.dense.RowFaults.{AllAscend}
use Rattle.zerotrie.specs.dense.Views.{row_shown}
use Rattle.zerotrie.specs.dense.Records.{matrix_bytes}
use Rattle.zerotrie.proofs.dense.build.matrix_of.Given as goal

abbrev pub invariant-loop-row : goal.invariant-loop-row
invariant-loop-row l = (l.matrix.items ++ matrix_bytes (dense_cells (map {B = List ℕ} (λ s. s.now) l.suffixes.keys) (map row_shown (drop l.row-index l.rows)))
    ≡ matrix_bytes (dense_cells (map {B = List ℕ} (λ s. s.now) l.suffixes.keys) (map row_shown l.rows))) × AllAscend (map row_shown (drop l.row-index l.rows))
