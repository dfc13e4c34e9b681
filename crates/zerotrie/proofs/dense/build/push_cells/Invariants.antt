use Rattle.std.proofs.Common.{◌≡◌, ◌++◌, List, ℕ, map}
use Rattle.zerotrie.specs.dense.Layout.{row_cells}
use Rattle.zerotrie.specs.dense.Views.{row_shown}
use Rattle.zerotrie.specs.dense.Records.{matrix_bytes}
use Rattle.zerotrie.proofs.dense.build.push_cells.Given as goal

abbrev pub invariant-loop-suffix : goal.invariant-loop-suffix
invariant-loop-suffix l = l.matrix.items ++ matrix_bytes (row_cells (map {B = List ℕ} (λ s. s.now) l.suffix-iterator) (row_shown l.row))
    ≡ l.initial.matrix.items ++ matrix_bytes (row_cells (map {B = List ℕ} (λ s. s.now) l.suffixes.keys) (row_shown l.row))
