use Rattle.std.proofs.Common.{◌≡◌, ◌++◌, List, ℕ, map, length}
use Rattle.zerotrie_core.specs.Items.{pairs_of}
use Rattle.zerotrie.specs.dense.Rows.{placed}
use Rattle.zerotrie.proofs.dense.build.columns_of.Given as goal

abbrev pub invariant-loop-suffix : goal.invariant-loop-suffix
invariant-loop-suffix l = pairs_of l.columns.items ++ placed (length l.columns.items) (map {B = List ℕ} (λ s. s.now) l.suffix-iterator)
    ≡ placed 0 (map {B = List ℕ} (λ s. s.now) l.suffixes.keys)
