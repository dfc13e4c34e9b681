-- The record of a dense table.
use Rattle.std.specs.Prelude.{◌==◌, Bool, ℕ, ◌+◌, ◌*◌, ◌/◌, List, ◌∷◌, ◌++◌, length, drop}
use Rattle.std.specs.Cmp.Lexicographic.{pointwise}
use Rattle.std.specs.List.{flat_map}
use Rattle.std.specs.Ordering.{on, eq_of_both}
use Rattle.std.specs.Int.{w16, w64, to_le_bytes, from_le_bytes}

-- the parts of a dense table: the number of suffixes, the delimiter, the texts of both tries, and the matrix's bytes
pub record Parts : Type 0 where
  pub suffix_count : ℕ
  pub delimiter : ℕ
  pub primary : List ℕ
  pub suffixes : List ℕ
  pub matrix : List ℕ

-- whether two tables have the same parts
abbrev pub same_parts : Parts → Parts → Bool
same_parts = eq_of_both (on (λ t. t.suffix_count) ◌==◌) (eq_of_both (on (λ t. t.delimiter) ◌==◌)
    (eq_of_both (on (λ t. t.primary) (pointwise ◌==◌)) (eq_of_both (on (λ t. t.suffixes) (pointwise ◌==◌))
    (on (λ t. t.matrix) (pointwise ◌==◌)))))

-- the bytes of the matrix with these cells
abbrev pub matrix_bytes : List ℕ → List ℕ
matrix_bytes cells = flat_map (to_le_bytes w16) cells

-- the record of a table: the number of its suffixes, its delimiter, how long its tries are and how many cells it has, and these
abbrev pub record_of : Parts → List ℕ
record_of t = to_le_bytes w16 t.suffix_count ++ (t.delimiter ∷ to_le_bytes w64 (length t.primary)) ++ to_le_bytes w64 (length t.suffixes)
    ++ to_le_bytes w64 (length t.matrix / 2) ++ t.primary ++ t.suffixes ++ t.matrix

-- the number in the eight bytes from one place on
abbrev pub number_at : List ℕ → ℕ → ℕ
number_at bytes place = from_le_bytes w64 (drop place bytes)

-- how many bytes a record asks for, by its first 27
abbrev pub asked : List ℕ → ℕ
asked bytes = 27 + number_at bytes 3 + number_at bytes 11 + 2 * number_at bytes 19
