-- What a build returns is the table of its rows.
use Rattle.std.proofs.Common.{◌≡◌, ℕ, ◌+◌, ◌<◌, ◌≤◌, ◌^◌, List, [], ◌∷◌, refl, sym, ap, ◌∙◌, arith, length, zero, suc}
use Rattle.std.specs.Prelude.{All}
use Rattle.zerotrie_core.specs.Built.{IsBuilt}
use Rattle.zerotrie_core.specs.Canonical.{enc}
use Rattle.zerotrie_core.specs.Items.{Items, pairs_of}
use Rattle.zerotrie_core.specs.Kind.{simple_ascii}
use Rattle.zerotrie_core.specs.Maps.{Pairs}
use Rattle.zerotrie.specs.dense.Layout.{primary, columns, primary_pairs, matrix}
use Rattle.zerotrie.specs.dense.RowFaults.{AreInRange, AllInRange}
use Rattle.zerotrie.specs.dense.Records.{Parts, matrix_bytes}
use Rattle.zerotrie.specs.dense.Rows.{Rows, placed, suffixes, IsInOrder}
use Rattle.zerotrie.specs.dense.Tables.{IsDenseTable, table_of}
use Rattle.zerotrie.proofs.CauseLemmas.{Faultless, no_high_text, no_held}

value_in_range : (row : Pairs) → AreInRange row → All (λ e. e.1 < 2 ^ 64) row
value_in_range [] all k x h = absurd (omega arith)
value_in_range (e ∷ row) all zero x h = all.0
value_in_range (e ∷ row) all (suc k) x h = value_in_range row all.1 k x (omega arith)

rows_in_range : (rows : Rows) → AllInRange rows → All (λ row. All (λ e. e.1 < 2 ^ 64) row.1) rows
rows_in_range [] all k x h = absurd (omega arith)
rows_in_range (row ∷ rows) all zero x h = value_in_range row.1 all.0
rows_in_range (row ∷ rows) all (suc k) x h = rows_in_range rows all.1 k x (omega arith)

-- as many items as texts
pub length-placed : (k : ℕ) (ts : List (List ℕ)) → length (placed k ts) ≡ length ts
length-placed k [] = refl
length-placed k (t ∷ ts) = let r = length-placed (k + 1) ts in omega (arith, r)

length-pairs : (items : Items) → length (pairs_of items) ≡ length items
length-pairs [] = refl
length-pairs (e ∷ items) = let r = length-pairs items in omega (arith, r)

pub as_many : (items : Items) (ts : List (List ℕ)) → pairs_of items ≡ placed 0 ts → length items ≡ length ts
as_many items ts is = sym (length-pairs items) ∙ ap (λ p. length p) is ∙ length-placed 0 ts

same_parts_of : (d : ℕ) (rows : Rows) (t : Parts) → t.suffix_count ≡ length (suffixes rows) → t.delimiter ≡ d → t.primary ≡ enc simple_ascii (primary d rows)
    → t.suffixes ≡ enc simple_ascii (columns rows) → t.matrix ≡ matrix_bytes (matrix rows) → t ≡ table_of d rows
same_parts_of d rows t a b c e f =
    ap (λ n. record { suffix_count = n; delimiter = t.delimiter; primary = t.primary; suffixes = t.suffixes; matrix = t.matrix }) a
    ∙ ap (λ n. record { suffix_count = length (suffixes rows); delimiter = n; primary = t.primary; suffixes = t.suffixes; matrix = t.matrix }) b
    ∙ ap (λ n. record { suffix_count = length (suffixes rows); delimiter = d; primary = n; suffixes = t.suffixes; matrix = t.matrix }) c
    ∙ ap (λ n. record { suffix_count = length (suffixes rows); delimiter = d; primary = enc simple_ascii (primary d rows); suffixes = n; matrix = t.matrix }) e
    ∙ ap (λ n. record { suffix_count = length (suffixes rows); delimiter = d; primary = enc simple_ascii (primary d rows); suffixes = enc simple_ascii (columns rows); matrix = n }) f

pub made : (d : ℕ) (rows : Rows) (t : Parts) → Faultless d rows → IsInOrder rows → AllInRange rows → length (suffixes rows) ≤ 65535
    → t.suffix_count ≡ length (suffixes rows) → t.delimiter ≡ d → IsBuilt simple_ascii (primary_pairs d rows) t.primary
    → IsBuilt simple_ascii (placed 0 (suffixes rows)) t.suffixes → t.matrix ≡ matrix_bytes (matrix rows) → IsDenseTable d rows t
made d rows t good order values few count delimiter primary columns cells = record {
  in_order = order;
  values = rows_in_range rows values;
  ascii = no_high_text d rows good.0 good.1;
  apart = no_held d rows good.2;
  few = few;
  primary_fits = primary.fits;
  columns_fit = columns.fits;
  parts_are = same_parts_of d rows t count delimiter (primary.text tt) (columns.text tt) cells;
}
