-- What the rows of a build and their cells rest on.
use Rattle.std.proofs.Common.{◌≡◌, ℕ, ◌+◌, ◌<◌, true, false, List, [], ◌∷◌, ◌++◌, refl, sym, ap, ◌∙◌, arith, map, length, drop, get_or, suc, drop-cons, append_assoc}
use Rattle.std.specs.Borrow.{Bor}
use Rattle.std.specs.BTreeMap.{BTreeMap}
use Rattle.std.specs.List.Sorted.{IsStrictlySortedBy}
use Rattle.std.specs.Ordering.{nat_cmp}
use Rattle.std.specs.Cmp.Lexicographic.{slice_cmp}
use Rattle.std.proofs.lemmas.Map.Keys.{sorted_head, sorted_tail}
use Rattle.zerotrie_core.specs.Maps.{Ascends}
use Rattle.zerotrie.specs.dense.Layout.{LaidRow, laid, laid_rows, row_cells, dense_cells}
use Rattle.zerotrie.specs.dense.RowFaults.{AllAscend, AreAsciiTexts}
use Rattle.zerotrie.specs.dense.Views.{pairs_in, rows_in, row_shown}
use Rattle.zerotrie.specs.dense.Records.{matrix_bytes}
use Rattle.zerotrie.specs.dense.Rows.{Rows, IsInOrder, placed, suffixes}
use Rattle.zerotrie.specs.declared.dense.rows.Row.{Row}
use Rattle.zerotrie.proofs.BuildLemmas.{matrix_more}

-- the parts of texts that are ASCII are so too
pub plain_left : (xs ys : List (List ℕ)) → AreAsciiTexts (xs ++ ys) → AreAsciiTexts xs
plain_left [] ys plain = tt
plain_left (x ∷ xs) ys plain = (plain.0, plain_left xs ys plain.1)

pub plain_right : (xs ys : List (List ℕ)) → AreAsciiTexts (xs ++ ys) → AreAsciiTexts ys
plain_right [] ys plain = plain
plain_right (x ∷ xs) ys plain = plain_right xs ys plain.1

-- the prefixes of a map of maps ascend
prefixes_ascend : (n : ℕ) (es : List (Bor (List ℕ) × BTreeMap (Bor (List ℕ)) ℕ)) → IsStrictlySortedBy (λ x y. slice_cmp nat_cmp x.now y.now) (map {B = Bor (List ℕ)} (λ e. e.0) es)
    → Ascends (placed n (map {B = List ℕ} (λ r. r.0) (rows_in es)))
prefixes_ascend n [] s = tt
prefixes_ascend n (e ∷ []) s = (tt, tt)
prefixes_ascend n (e ∷ f ∷ es) s =
    let ks : List (Bor (List ℕ)) = map {B = Bor (List ℕ)} (λ d. d.0) es in (
      (sorted_head (λ x y. slice_cmp nat_cmp x.now y.now) e.0 (f.0 ∷ ks) s).0,
      prefixes_ascend (n + 1) (f ∷ es) (sorted_tail (λ x y. slice_cmp nat_cmp x.now y.now) e.0 (f.0 ∷ ks) s),
    )

-- and its rows are in order if each of them ascends
pub in_order : (columns : ℕ) (es : List (Bor (List ℕ) × BTreeMap (Bor (List ℕ)) ℕ)) → IsStrictlySortedBy (λ x y. slice_cmp nat_cmp x.now y.now) (map {B = Bor (List ℕ)} (λ e. e.0) es)
    → AllAscend (map (laid columns) (rows_in es)) → IsInOrder (rows_in es)
in_order columns [] s ascend = tt
in_order columns (e ∷ []) s ascend = (ascend.0, (tt, tt), tt)
in_order columns (e ∷ f ∷ es) s ascend =
    let ks : List (Bor (List ℕ)) = map {B = Bor (List ℕ)} (λ d. d.0) es in
    let rest = sorted_tail (λ x y. slice_cmp nat_cmp x.now y.now) e.0 (f.0 ∷ ks) s in (
      ascend.0,
      ((sorted_head (λ x y. slice_cmp nat_cmp x.now y.now) e.0 (f.0 ∷ ks) s).0, prefixes_ascend 0 (f ∷ es) rest),
      in_order columns (f ∷ es) rest ascend.1,
    )

-- the row at an index comes off the front of the rows from there on
pub row_off : (rows : List Row) (i : ℕ) (r : Row) → i < length rows → get_or rows i r ≡ r → drop i rows ≡ r ∷ drop (i + 1) rows
row_off rows i r h is = drop-cons rows i r h ∙ ap (λ x. x ∷ drop (suc i) rows) is ∙ ap (λ n. r ∷ drop n rows) (let e : suc i ≡ i + 1 = omega arith in e)

-- cells of one more row, if it is dense, and none if it is not
pub cells_taken : (S : List (List ℕ)) (rows : List Row) (i : ℕ) (r : Row) (old new whole : List ℕ) → drop i rows ≡ r ∷ drop (i + 1) rows → r.is_dense ≡ true
    → old ++ matrix_bytes (dense_cells S (map row_shown (drop i rows))) ≡ whole → new ≡ old ++ matrix_bytes (row_cells S (row_shown r))
    → new ++ matrix_bytes (dense_cells S (map row_shown (drop (i + 1) rows))) ≡ whole
cells_taken S rows i r old new whole at dense before is =
    let rest : List ℕ = dense_cells S (map row_shown (drop (i + 1) rows)) in
    let now : List ℕ = row_cells S (row_shown r) in
    let all : dense_cells S (map row_shown (r ∷ drop (i + 1) rows)) ≡ now ++ rest = rw dense refl in
    ap (λ t. t ++ matrix_bytes rest) is
    ∙ append_assoc old (matrix_bytes now) (matrix_bytes rest)
    ∙ ap (λ t. old ++ t) (sym (matrix_more now rest))
    ∙ ap (λ d. old ++ matrix_bytes d) (sym all)
    ∙ ap (λ d. old ++ matrix_bytes (dense_cells S (map row_shown d))) (sym at)
    ∙ before

pub cells_passed : (S : List (List ℕ)) (rows : List Row) (i : ℕ) (r : Row) (old new whole : List ℕ) → drop i rows ≡ r ∷ drop (i + 1) rows → r.is_dense ≡ false
    → old ++ matrix_bytes (dense_cells S (map row_shown (drop i rows))) ≡ whole → new ≡ old
    → new ++ matrix_bytes (dense_cells S (map row_shown (drop (i + 1) rows))) ≡ whole
cells_passed S rows i r old new whole at sparse before is =
    let rest : List ℕ = dense_cells S (map row_shown (drop (i + 1) rows)) in
    let all : dense_cells S (map row_shown (r ∷ drop (i + 1) rows)) ≡ rest = rw sparse refl in
    ap (λ t. t ++ matrix_bytes rest) is
    ∙ ap (λ d. old ++ matrix_bytes d) (sym all)
    ∙ ap (λ d. old ++ matrix_bytes (dense_cells S (map row_shown d))) (sym at)
    ∙ before

-- one more row in hand
shown_more : (old : List Row) (r : Row) (more : List LaidRow) → map row_shown (old ++ r ∷ []) ++ more ≡ map row_shown old ++ row_shown r ∷ more
shown_more [] r more = refl
shown_more (x ∷ old) r more = ap (λ t. row_shown x ∷ t) (shown_more old r more)

pub rows_step : (columns : ℕ) (old new : List Row) (r : Row) (all rest : List (Bor (List ℕ) × BTreeMap (Bor (List ℕ)) ℕ)) (e : Bor (List ℕ) × BTreeMap (Bor (List ℕ)) ℕ) (whole : List LaidRow)
    → all ≡ e ∷ rest → map row_shown old ++ map (laid columns) (rows_in all) ≡ whole → new ≡ old ++ r ∷ [] → row_shown r ≡ laid columns (e.0.now, pairs_in e.1.entries)
    → map row_shown new ++ map (laid columns) (rows_in rest) ≡ whole
rows_step columns old new r all rest e whole front before is shows =
    let more : List LaidRow = map (laid columns) (rows_in rest) in
    ap (λ rows. map row_shown rows ++ more) is
    ∙ shown_more old r more
    ∙ ap (λ x. map row_shown old ++ x ∷ more) shows
    ∙ ap (λ es. map row_shown old ++ map (laid columns) (rows_in es)) (sym front)
    ∙ before

-- rows of a table that are in order ascend each
pub laid_ascend : (n : ℕ) (rows : Rows) → IsInOrder rows → AllAscend (map (laid n) rows)
laid_ascend n [] order = tt
laid_ascend n (row ∷ rows) order = (order.0, laid_ascend n rows order.2)

-- rows in hand are those of the table
pub laid_by : (n : ℕ) (rows : Rows) (shown : List LaidRow) → n ≡ length (suffixes rows) → shown ≡ map (laid n) rows → shown ≡ laid_rows rows
laid_by n rows shown at is = is ∙ ap (λ i. map (laid i) rows) at
