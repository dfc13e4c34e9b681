use Rattle.std.proofs.Common.{◌≡◌, List, ℕ, [], map}
use Rattle.std.specs.List.{flat_map}
use Rattle.zerotrie.specs.dense.Rows.{keys, put_texts}
use Rattle.zerotrie.specs.dense.Views.{rows_in}
use Rattle.zerotrie.proofs.dense.build.suffixes_of.Given as goal

abbrev pub invariant-loop-row : goal.invariant-loop-row
invariant-loop-row l = put_texts (flat_map (λ row. keys row.1) (rows_in l.row-iterator)) (map {B = List ℕ} (λ s. s.now) l.suffixes.keys)
    ≡ put_texts (flat_map (λ row. keys row.1) (rows_in l.entries.entries)) []
