-- How rows are laid out: two maps and a matrix.
use Rattle.std.specs.Prelude.{ℕ, ◌-◌, ◌*◌, ◌&&◌, List, [], ◌∷◌, ◌++◌, map, filter, length, not, Bool, nat_lt, Option, Some, None, is_some, if◌then◌else◌}
use Rattle.std.specs.List.{flat_map}
use Rattle.zerotrie_core.specs.Kind.{simple_ascii}
use Rattle.zerotrie_core.specs.Maps.{Pairs, Map, map_of, value_at}
use Rattle.zerotrie_core.specs.Canonical.{size_of}
use Rattle.zerotrie.specs.dense.Rows.{Rows, suffixes, placed}
use Rattle.zerotrie.specs.dense.Windows.{offset, within, without, inside, outside}

-- A row is dense, in a table of this many suffixes, if the text of its window is longer than a row of the matrix;
-- but not if it has the empty suffix with a value outside the window.
abbrev pub is_dense : ℕ → Pairs → Bool
is_dense columns row = nat_lt (2 * columns) (size_of simple_ascii (inside row)) && not (is_some (value_at simple_ascii (outside row) []))

-- A row and how it is kept: its prefix, its pairs, its offset, and whether it is dense.
pub record LaidRow : Type 0 where
  pub prefix : List ℕ
  pub pairs : Pairs
  pub offset : ℕ
  pub dense : Bool

-- a row of a table of this many suffixes
abbrev pub laid : ℕ → (List ℕ × Pairs) → LaidRow
laid columns row = record { prefix = row.0; pairs = row.1; offset = offset row.1; dense = is_dense columns row.1 }

-- the rows of a table
abbrev pub laid_rows : Rows → List LaidRow
laid_rows rows = map (laid (length (suffixes rows))) rows

-- the rows that are dense, in their order: the matrix has them by number
abbrev pub dense_rows : List LaidRow → List LaidRow
dense_rows rows = filter (λ row. row.dense) rows

-- the pairs of a row that are beside the matrix: all of a sparse row, and of a dense one those outside its window
abbrev pub beside : LaidRow → Pairs
beside row = if row.dense then without row.offset row.pairs else row.pairs

-- the primary map has: each dense row's prefix, with the row's number, counted from n;
abbrev pub numbers : ℕ → List LaidRow → Pairs
numbers n rows = placed n (map (λ row. row.prefix) (dense_rows rows))

-- each dense row's prefix and the delimiter, with the row's offset;
abbrev pub row_offsets : ℕ → List LaidRow → Pairs
row_offsets delimiter rows = map (λ row. (row.prefix ++ delimiter ∷ [], row.offset)) (dense_rows rows)

-- and prefix, delimiter and suffix of each value beside the matrix.
abbrev pub under : List ℕ → ℕ → Pairs → Pairs
under prefix delimiter pairs = map {B = List ℕ × ℕ} (λ e. (prefix ++ (delimiter ∷ e.0), e.1)) pairs

abbrev pub others : ℕ → List LaidRow → Pairs
others delimiter rows = flat_map (λ row. under row.prefix delimiter (beside row)) rows

-- all three
abbrev pub laid_pairs : ℕ → List LaidRow → Pairs
laid_pairs delimiter rows = numbers 0 rows ++ (row_offsets delimiter rows ++ others delimiter rows)

unfoldable pub primary_pairs : ℕ → Rows → Pairs
primary_pairs delimiter rows = laid_pairs delimiter (laid_rows rows)

abbrev pub primary : ℕ → Rows → Map
primary delimiter rows = map_of (primary_pairs delimiter rows)

-- each suffix with its column
abbrev pub columns : Rows → Map
columns rows = map_of (placed 0 (suffixes rows))

-- the cell of a value: what it has above the offset, or 65535 if there is none
abbrev pub cell_of : ℕ → Option ℕ → ℕ
cell_of offset None = 65535
cell_of offset (Some v) = v - offset

-- the cells of a row: one for each suffix
abbrev pub row_cells : List (List ℕ) → LaidRow → List ℕ
row_cells suffixes row = map (λ s. cell_of row.offset (value_at simple_ascii (within row.offset row.pairs) s)) suffixes

-- the cells of the dense rows, row by row
abbrev pub dense_cells : List (List ℕ) → List LaidRow → List ℕ
dense_cells suffixes rows = flat_map (λ row. row_cells suffixes row) (dense_rows rows)

-- the matrix of a table
unfoldable pub matrix : Rows → List ℕ
matrix rows = dense_cells (suffixes rows) (laid_rows rows)
