-- What a record of a table that was built keeps.
use Rattle.std.proofs.Common.{◌≡◌, ℕ, ◌+◌, ◌*◌, ◌<◌, ◌≤◌, List, [], ◌∷◌, length, refl, ◌++◌, ap, arith, length-append, inl, ◌∙◌}
use Rattle.std.specs.Prelude.{◌^◌}
use Rattle.zerotrie.specs.dense.Rows.{Rows}
use Rattle.zerotrie.specs.dense.Layout.{matrix}
use Rattle.zerotrie.specs.dense.Records.{Parts, matrix_bytes, record_of}
use Rattle.zerotrie.specs.dense.Tables.{IsDenseTable}
use Rattle.zerotrie.specs.dense.Laws.{IsWhole}
use Rattle.zerotrie.proofs.CellLemmas.{at_least}

-- a cell has two bytes
length-matrix_bytes : (cells : List ℕ) → length (matrix_bytes cells) ≡ 2 * length cells
length-matrix_bytes [] = refl
length-matrix_bytes (cell ∷ cells) = let rest = length-matrix_bytes cells in omega arith

longer : (t : Parts) → length t.primary + length t.suffixes + length t.matrix ≤ length (record_of t)
longer t = let l : length ((t.primary ++ t.suffixes) ++ t.matrix) ≡ (length t.primary + length t.suffixes) + length t.matrix = simp length-append in omega arith

-- A table that was built is one that a record can hold, if the record has fewer than 2 ^ 64 bytes, as each list in memory has.
pub table_whole : (delimiter : ℕ) (rows : Rows) (t : Parts) → IsDenseTable delimiter rows t → length (record_of t) < 2 ^ 64 → IsWhole t
table_whole delimiter rows t table short =
    let all = longer t in
    let is = table.parts_are in
    let few = table.few in
    let even : length t.matrix ≡ 2 * length (matrix rows) = ap (λ p. length p.matrix) is ∙ length-matrix_bytes (matrix rows) in
    let count = ap (λ p. p.suffix_count) is in
    let by = ap (λ p. p.delimiter) is in
    let ascii : 1 + delimiter ≤ 128 = at_least 128 (1 + delimiter) (λ h. table.ascii (inl (omega arith))) in
    record {
      count = omega arith;
      delimiter = omega arith;
      primary = omega arith;
      suffixes = omega arith;
      half = length (matrix rows);
      even = even;
      matrix = omega arith;
    }
