-- The two maps and the matrix of a table answer with the entry of its rows.
use Rattle.std.proofs.Common.{◌≡◌, ℕ, ◌+◌, ◌-◌, ◌*◌, ◌^◌, ◌<◌, ◌≤◌, List, [], ◌∷◌, ◌++◌, refl, sym, ap, subst, ◌∙◌, arith, Bool, true, false, cond, inl, inr, Option, Some, None, length, get_or, suc}
use Rattle.std.specs.Prelude.{◌==◌, ◌&&◌, ◌||◌, filter, is_some, nat_le, nat_lt, Any, All, Contains}
use Rattle.std.specs.List.{list_any}
use Rattle.std.proofs.lemmas.List.Folds.{Any-from_list_any, list_any-append}
use Rattle.zerotrie_core.specs.Kind.{simple_ascii}
use Rattle.zerotrie_core.specs.Maps.{Pairs, Ascends, value_at, look}
use Rattle.zerotrie_core.specs.Canonical.{size_of}
use Rattle.zerotrie_core.proofs.CallerLemmas.{value_at-append, value_at-some, same-entries}
use Rattle.zerotrie.specs.dense.Rows.{Rows, row_of, entry, keys, texts, placed, suffixes, IsInOrder}
use Rattle.zerotrie.specs.dense.Layout.{is_dense, cell_of, primary, primary_pairs, columns, matrix}
use Rattle.zerotrie.specs.dense.Windows.{in_window, offset, inside, outside}
use Rattle.zerotrie.specs.dense.Records.{Parts, matrix_bytes}
use Rattle.zerotrie.specs.dense.Tables.{IsDenseTable}
use Rattle.zerotrie.specs.dense.Laws.{cell_at, value_of, in_matrix, or_else, beside_matrix, in_row, by_row, answer}
use Rattle.zerotrie.proofs.TextLemmas.{V, same, either, maybe, Free, held_other, parted}
use Rattle.zerotrie.proofs.PlaceLemmas.{among_suffixes, Stands, stands, none_stands, of_or}
use Rattle.zerotrie.proofs.RowLemmas.{firsts, offs, others_at, all_cells, AllFree, Sparse, DenseRow, find_row, no_number, no_offset, no_other, offset_ends, cell_of_bytes}

-- no text of a list holds d
abbrev FreeTexts : ℕ → List (List ℕ) → Type 0
FreeTexts d [] = Unit {0}
FreeTexts d (x ∷ xs) = Free d x × FreeTexts d xs

holds : (d : ℕ) (x : List ℕ) → list_any (λ b. b == d) x ≡ true → Contains x d
holds d x h =
    let a = Any-from_list_any (λ b. b == d) x h in
    let is : a.1 ≡ d = grind (arith, a.4) in
    subst (λ b. Contains x b) is (a.0, a.2, a.3)

pub free_text : (d : ℕ) (x : List ℕ) → (Contains x d → ⊥) → Free d x
free_text d x none = elim (either (list_any (λ b. b == d) x)) [
  | inl y ↦ absurd (none (holds d x y))
  | inr n ↦ n
]

free_texts : (d : ℕ) (xs : List (List ℕ)) → (Any (λ text. Contains text d) xs → ⊥) → FreeTexts d xs
free_texts d [] none = tt
free_texts d (x ∷ xs) none = (
  free_text d x (λ c. none (0, x, omega arith, refl, c)),
  free_texts d xs (λ a. none (suc a.0, a.1, omega (arith, a.2), a.3, a.4)),
)

free_left : (d : ℕ) (xs ys : List (List ℕ)) → FreeTexts d (xs ++ ys) → FreeTexts d xs
free_left d [] ys h = tt
free_left d (x ∷ xs) ys h = (h.0, free_left d xs ys h.1)

free_right : (d : ℕ) (xs ys : List (List ℕ)) → FreeTexts d (xs ++ ys) → FreeTexts d ys
free_right d [] ys h = h
free_right d (x ∷ xs) ys h = free_right d xs ys h.1

free_rows : (d : ℕ) (rows : Rows) → FreeTexts d (texts rows) → AllFree d rows
free_rows d [] h = tt
free_rows d (row ∷ rows) h = (h.0, free_rows d rows (free_right d (keys row.1) (texts rows) h.1))

-- what holds the delimiter has no entry
held_prefix : (d : ℕ) (rows : Rows) (p s : List ℕ) → AllFree d rows → list_any (λ b. b == d) p ≡ true → entry rows p s ≡ None
held_prefix d [] p s free h = refl
held_prefix d (row ∷ rows) p s free h = rw (held_other d row.0 p free.0 h) (held_prefix d rows p s free.1 h)

held_key : (d : ℕ) (row : Pairs) (s : List ℕ) → FreeTexts d (keys row) → list_any (λ b. b == d) s ≡ true → V row s ≡ None
held_key d [] s free h = refl
held_key d (e ∷ row) s free h = rw (held_other d e.0 s free.0 h) (held_key d row s free.1 h)

held_suffix : (d : ℕ) (rows : Rows) (p s : List ℕ) → FreeTexts d (texts rows) → list_any (λ b. b == d) s ≡ true → entry rows p s ≡ None
held_suffix d [] p s free h = refl
held_suffix d (row ∷ rows) p s free h = elim (either (same row.0 p)) [
  | inl y ↦ rw y (held_key d row.1 s (free_left d (keys row.1) (texts rows) free.1) h)
  | inr n ↦ rw n (held_suffix d rows p s (free_right d (keys row.1) (texts rows) free.1) h)
]

-- values in range
abbrev Bounded : Pairs → Type 0
Bounded [] = Unit {0}
Bounded (e ∷ pairs) = (e.1 < 2 ^ 64) × Bounded pairs

bounded : (pairs : Pairs) → All (λ e. e.1 < 2 ^ 64) pairs → Bounded pairs
bounded [] all = tt
bounded (e ∷ pairs) all = (all 0 e (omega arith), bounded pairs (λ k x h. all (suc k) x (omega arith)))

bounded_row : (rows : Rows) (p : List ℕ) → All (λ row. All (λ e. e.1 < 2 ^ 64) row.1) rows → Bounded (row_of rows p)
bounded_row [] p all = tt
bounded_row (row ∷ rows) p all = elim (either (same row.0 p)) [
  | inl y ↦ rw y (bounded row.1 (all 0 row (omega arith)))
  | inr n ↦ rw n (bounded_row rows p (λ k x h. all (suc k) x (omega arith)))
]

ascends_row : (rows : Rows) (p : List ℕ) → IsInOrder rows → Ascends (row_of rows p)
ascends_row [] p order = tt
ascends_row (row ∷ rows) p order = elim (either (same row.0 p)) [
  | inl y ↦ rw y order.0
  | inr n ↦ rw n (ascends_row rows p order.2)
]

-- what a test picks passes it, and is in range
picked : (q : ℕ → Bool) (pairs : Pairs) (s : List ℕ) (v : ℕ) → Bounded pairs → V (filter (λ e. q e.1) pairs) s ≡ Some v → (q v ≡ true) × (v < 2 ^ 64)
picked q [] s v all h = absurd (cc)
picked q (e ∷ pairs) s v all h = elim (either (q e.1)) [
  | inl t ↦ elim (either (same e.0 s)) [
    | inl y ↦ let here = rw (t, y) at h in let is : e.1 ≡ v = cc in (subst (λ w. q w ≡ true) is t, subst (λ w. w < 2 ^ 64) is all.0)
    | inr n ↦ picked q pairs s v all.1 (rw (t, n) at h)
  ]
  | inr f ↦ picked q pairs s v all.1 (rw f at h)
]

value_some : (key : List ℕ) (xs ys : Pairs) (v : ℕ) → V xs key ≡ Some v → V (xs ++ ys) key ≡ Some v
value_some key [] ys v h = absurd (cc)
value_some key (e ∷ xs) ys v h = elim (either (same e.0 key)) [
  | inl y ↦ let here = rw y at h in rw y here
  | inr n ↦ rw n (value_some key xs ys v (rw n at h))
]

-- a cell is below 65536, and tells its value
small_cell : (o : ℕ) (x : Option ℕ) → ((v : ℕ) → x ≡ Some v → in_window o v ≡ true) → cell_of o x < 65536
small_cell o None h = omega arith
small_cell o (Some v) h = let w = h v refl in let bounds : v < o + 65535 = grind arith in omega arith

told : (o : ℕ) (x : Option ℕ) → ((v : ℕ) → x ≡ Some v → (in_window o v ≡ true) × (v < 2 ^ 64)) → value_of o (Some (cell_of o x)) ≡ x
told o None h = refl
told o (Some v) h =
    let r = h v refl in
    let w = r.0 in
    let low : o ≤ v = grind arith in
    let high : v < o + 65535 = grind arith in
    let back : o + (v - o) ≡ v = omega arith in
    let one : (v - o == 65535) ≡ false = (let apart : v - o < 65535 = omega arith in grind arith) in
    let two : nat_le (2 ^ 64) (o + (v - o)) ≡ false = (let below : o + (v - o) < 2 ^ 64 = omega (arith, r.1) in grind arith) in
    rw (one, two) (ap Some back)

-- what is looked up in the two maps of a table
primary_at : (d : ℕ) (rows : Rows) (key : List ℕ) → look simple_ascii (primary d rows) key
    ≡ V (firsts 0 (length (suffixes rows)) rows ++ (offs d (length (suffixes rows)) rows ++ others_at d (length (suffixes rows)) rows)) key
unfolding primary_pairs
primary_at d rows key = same-entries (primary_pairs d rows) key

column_at : (rows : Rows) (key : List ℕ) → look simple_ascii (columns rows) key ≡ V (placed 0 (suffixes rows)) key
column_at rows key = same-entries (placed 0 (suffixes rows)) key

at_text : (d n : ℕ) (rows : Rows) (p : List ℕ) → Free d p → V (firsts 0 n rows ++ (offs d n rows ++ others_at d n rows)) p ≡ V (firsts 0 n rows) p
at_text d n rows p k = value_at-some simple_ascii p (firsts 0 n rows) (offs d n rows ++ others_at d n rows)
    (value_at-append simple_ascii p (offs d n rows) (others_at d n rows) (no_offset d n rows p k) ∙ no_other d n rows p k)

at_key : (d n : ℕ) (rows : Rows) (p s : List ℕ) → AllFree d rows → V (firsts 0 n rows ++ (offs d n rows ++ others_at d n rows)) (p ++ (d ∷ s)) ≡ V (offs d n rows ++ others_at d n rows) (p ++ (d ∷ s))
at_key d n rows p s free = value_at-append simple_ascii (p ++ (d ∷ s)) (firsts 0 n rows) (offs d n rows ++ others_at d n rows) (no_number d 0 n rows p s free)

at_suffix : (d n : ℕ) (rows : Rows) (p : List ℕ) (b : ℕ) (s : List ℕ) → AllFree d rows → Free d p
    → V (firsts 0 n rows ++ (offs d n rows ++ others_at d n rows)) (p ++ (d ∷ (b ∷ s))) ≡ V (others_at d n rows) (p ++ (d ∷ (b ∷ s)))
at_suffix d n rows p b s free k = at_key d n rows p (b ∷ s) free
    ∙ value_at-append simple_ascii (p ++ (d ∷ (b ∷ s))) (offs d n rows) (others_at d n rows) (offset_ends d n rows p b s free k)

-- if the prefix names no dense row
sparse_key : (d n : ℕ) (rows : Rows) (p s : List ℕ) → AllFree d rows → Free d p → Sparse d n rows p
    → V (firsts 0 n rows ++ (offs d n rows ++ others_at d n rows)) (p ++ (d ∷ s)) ≡ entry rows p s
sparse_key d n rows p [] free k r = at_key d n rows p [] free
    ∙ value_at-append simple_ascii (p ++ (d ∷ [])) (offs d n rows) (others_at d n rows) r.no_offset_of ∙ r.other []
sparse_key d n rows p (b ∷ s) free k r = at_suffix d n rows p b s free k ∙ r.other (b ∷ s)

-- if it names one: what stands beside the matrix
never : (b : Bool) → (b && false) ≡ true → ⊥
never true h = absurd (cc)
never false h = absurd (cc)

and_not : (n : ℕ) (row : Pairs) → is_some (value_at simple_ascii (outside row) []) ≡ true → is_dense n row ≡ true → ⊥
and_not n row out h = let both = rw out at h in never (nat_lt (2 * n) (size_of simple_ascii (inside row))) both

empty_inside : (n : ℕ) (row : Pairs) → is_dense n row ≡ true → V (outside row) [] ≡ None
empty_inside n row h = elim (maybe (V (outside row) [])) [
  | inl none ↦ none
  | inr some ↦ absurd (let out : is_some (value_at simple_ascii (outside row) []) ≡ true = ap is_some some.1 in and_not n row out h)
]

beside_is : (d : ℕ) (rows : Rows) (t : Parts) (p s : List ℕ) → t.delimiter ≡ d → AllFree d rows → Free d p → DenseRow (suffixes rows) d (length (suffixes rows)) rows p
    → beside_matrix t (primary d rows) p s ≡ V (outside (row_of rows p)) s
beside_is d rows t p [] is free k r = sym (empty_inside (length (suffixes rows)) (row_of rows p) r.dense_is)
beside_is d rows t p (b ∷ s) is free k r =
    ap (λ e. look simple_ascii (primary d rows) (p ++ (e ∷ (b ∷ s)))) is
    ∙ primary_at d rows (p ++ (d ∷ (b ∷ s))) ∙ at_suffix d (length (suffixes rows)) rows p b s free k ∙ r.other (b ∷ s)

-- and in it
matrix_cells : (rows : Rows) → matrix rows ≡ all_cells (suffixes rows) (length (suffixes rows)) rows
unfolding matrix
matrix_cells rows = refl

-- the values in the window of a row of the table
window_values : (rows : Rows) (p s : List ℕ) (v : ℕ) → All (λ row. All (λ e. e.1 < 2 ^ 64) row.1) rows → V (inside (row_of rows p)) s ≡ Some v
    → (in_window (offset (row_of rows p)) v ≡ true) × (v < 2 ^ 64)
window_values rows p s v values h = picked (in_window (offset (row_of rows p))) (row_of rows p) s v (bounded_row rows p values) h

in_column : (d : ℕ) (rows : Rows) (t : Parts) (p s : List ℕ) (place j : ℕ) → All (λ row. All (λ e. e.1 < 2 ^ 64) row.1) rows
    → t.suffix_count ≡ length (suffixes rows) → t.matrix ≡ matrix_bytes (matrix rows)
    → (r : DenseRow (suffixes rows) d (length (suffixes rows)) rows p) → place ≡ r.place → Stands 0 (suffixes rows) s j
    → in_matrix t place (Some (offset (row_of rows p))) (Some j) ≡ V (inside (row_of rows p)) s
in_column d rows t p s place j values count bytes r here st =
    let S : List (List ℕ) = suffixes rows in
    let n : ℕ = length S in
    let row : Pairs = row_of rows p in
    let at : ℕ = r.place * n + st.place in
    let index : place * t.suffix_count + j ≡ at = ap (λ m. m * t.suffix_count + j) here ∙ ap (λ c. r.place * c + j) count ∙ ap (λ i. r.place * n + i) (st.is ∙ omega arith) in
    let cell : get_or (all_cells S n rows) at 0 ≡ cell_of (offset row) (V (inside row) s) = r.cells st.place 0 st.below ∙ st.at (λ x. cell_of (offset row) (value_at simple_ascii (inside row) x)) 0 in
    let small : get_or (all_cells S n rows) at 0 < 65536 = subst (λ c. c < 65536) (sym cell) (small_cell (offset row) (V (inside row) s) (λ v e. (window_values rows p s v values e).0)) in
    ap (λ o. value_of (offset row) o) (
    ap (λ m. cell_at m (place * t.suffix_count + j)) (bytes ∙ ap matrix_bytes (matrix_cells rows))
    ∙ ap (λ i. cell_at (matrix_bytes (all_cells S n rows)) i) index
    ∙ cell_of_bytes (all_cells S n rows) at (r.below st.place st.below) small
    ∙ ap Some cell
    ) ∙ told (offset row) (V (inside row) s) (λ v e. window_values rows p s v values e)

else_of : (a b x : Option ℕ) → x ≡ or_else a b → x ≡ None → or_else a None ≡ x
else_of None b x h n = sym n
else_of (Some v) b x h n = sym h

by_column : (d : ℕ) (rows : Rows) (t : Parts) (p s : List ℕ) (place : ℕ) (column : Option ℕ) → IsInOrder rows → All (λ row. All (λ e. e.1 < 2 ^ 64) row.1) rows
    → t.suffix_count ≡ length (suffixes rows) → t.matrix ≡ matrix_bytes (matrix rows)
    → (r : DenseRow (suffixes rows) d (length (suffixes rows)) rows p) → place ≡ r.place → V (placed 0 (suffixes rows)) s ≡ column
    → or_else (V (outside (row_of rows p)) s) (in_matrix t place (Some (offset (row_of rows p))) column) ≡ entry rows p s
by_column d rows t p s place None order values count bytes r here is =
    let gone = none_stands 0 (suffixes rows) s is in
    let none : V (row_of rows p) s ≡ None = elim (maybe (V (row_of rows p) s)) [
      | inl n ↦ n
      | inr some ↦ let there = among_suffixes rows p s some.0 some.1 in absurd (cc)
    ] in
    else_of (V (outside (row_of rows p)) s) (V (inside (row_of rows p)) s) (V (row_of rows p) s)
    (parted s (in_window (offset (row_of rows p))) (row_of rows p) (ascends_row rows p order)) none
by_column d rows t p s place (Some j) order values count bytes r here is =
    ap (λ o. or_else (V (outside (row_of rows p)) s) o) (in_column d rows t p s place j values count bytes r here (stands 0 (suffixes rows) s j is))
    ∙ sym (parted s (in_window (offset (row_of rows p))) (row_of rows p) (ascends_row rows p order))

dense_entry : (d : ℕ) (rows : Rows) (t : Parts) (p s : List ℕ) → IsInOrder rows → All (λ row. All (λ e. e.1 < 2 ^ 64) row.1) rows → AllFree d rows → Free d p
    → t.delimiter ≡ d → t.suffix_count ≡ length (suffixes rows) → t.matrix ≡ matrix_bytes (matrix rows)
    → (r : DenseRow (suffixes rows) d (length (suffixes rows)) rows p) → in_row t (primary d rows) (columns rows) p s (0 + r.place) ≡ entry rows p s
dense_entry d rows t p s order values free k is count bytes r =
    let n : ℕ = length (suffixes rows) in
    let place : ℕ = 0 + r.place in
    let row : Pairs = row_of rows p in
    let offset_is : look simple_ascii (primary d rows) (p ++ (t.delimiter ∷ [])) ≡ Some (offset row) =
    ap (λ e. look simple_ascii (primary d rows) (p ++ (e ∷ []))) is ∙ primary_at d rows (p ++ (d ∷ [])) ∙ at_key d n rows p [] free
    ∙ value_some (p ++ (d ∷ [])) (offs d n rows) (others_at d n rows) (offset row) r.offset_of in
    let matrix_of : Option ℕ → Option ℕ → Option ℕ = λ o c. in_matrix t place o c in
    ap (λ o. or_else o (matrix_of (look simple_ascii (primary d rows) (p ++ (t.delimiter ∷ []))) (look simple_ascii (columns rows) s))) (beside_is d rows t p s is free k r)
    ∙ ap (λ o. or_else (V (outside row) s) (matrix_of o (look simple_ascii (columns rows) s))) offset_is
    ∙ ap (λ c. or_else (V (outside row) s) (matrix_of (Some (offset row)) c)) (column_at rows s)
    ∙ by_column d rows t p s place (V (placed 0 (suffixes rows)) s) order values count bytes r (omega arith) refl

chosen : (d : ℕ) (rows : Rows) (t : Parts) (p s : List ℕ) → IsInOrder rows → All (λ row. All (λ e. e.1 < 2 ^ 64) row.1) rows → AllFree d rows → Free d p
    → t.delimiter ≡ d → t.suffix_count ≡ length (suffixes rows) → t.matrix ≡ matrix_bytes (matrix rows)
    → by_row t (primary d rows) (columns rows) p s (look simple_ascii (primary d rows) p) ≡ entry rows p s
chosen d rows t p s order values free k is count bytes =
    let n : ℕ = length (suffixes rows) in
    elim (find_row (suffixes rows) d n rows p refl order free k) [
      | inl r ↦
          ap (λ o. by_row t (primary d rows) (columns rows) p s o) (primary_at d rows p ∙ at_text d n rows p k ∙ r.number 0)
          ∙ ap (λ e. look simple_ascii (primary d rows) (p ++ (e ∷ s))) is ∙ primary_at d rows (p ++ (d ∷ s)) ∙ sparse_key d n rows p s free k r
      | inr r ↦
          ap (λ o. by_row t (primary d rows) (columns rows) p s o) (primary_at d rows p ∙ at_text d n rows p k ∙ r.number 0)
          ∙ dense_entry d rows t p s order values free k is count bytes r
    ]

held_either : (d : ℕ) (rows : Rows) (p s : List ℕ) → FreeTexts d (texts rows) → (list_any (λ b. b == d) p || list_any (λ b. b == d) s) ≡ true → entry rows p s ≡ None
held_either d rows p s free h = elim (of_or (list_any (λ b. b == d) p) (list_any (λ b. b == d) s) h) [
  | inl y ↦ held_prefix d rows p s (free_rows d rows free) y
  | inr z ↦ held_suffix d rows p s free z
]

neither : (a b : Bool) → (a || b) ≡ false → a ≡ false
neither true b h = absurd (cc)
neither false b h = refl

-- by the parts of a table
entry_by : (d : ℕ) (rows : Rows) (t : Parts) → IsDenseTable d rows t → t.delimiter ≡ d → (p s : List ℕ) → answer t (primary d rows) (columns rows) p s ≡ entry rows p s
entry_by d rows t table is p s =
    let free : FreeTexts d (texts rows) = free_texts d (texts rows) table.apart in
    let tests = ap (λ e. list_any (λ b. b == e) (p ++ s)) is ∙ list_any-append (λ b. b == d) p s in
    let row : Option ℕ = by_row t (primary d rows) (columns rows) p s (look simple_ascii (primary d rows) p) in
    ap (λ b. cond b None row) tests
    ∙ elim (either (list_any (λ b. b == d) p || list_any (λ b. b == d) s)) [
      | inl y ↦ ap (λ b. cond b None row) y ∙ sym (held_either d rows p s free y)
      | inr n ↦ ap (λ b. cond b None row) n
          ∙ chosen d rows t p s table.in_order table.values (free_rows d rows free) (neither (list_any (λ b. b == d) p) (list_any (λ b. b == d) s) n)
          is (ap (λ x. x.suffix_count) table.parts_are) (ap (λ x. x.matrix) table.parts_are)
    ]

pub entry_is : (d : ℕ) (rows : Rows) (t : Parts) → IsDenseTable d rows t → (p s : List ℕ) → answer t (primary d rows) (columns rows) p s ≡ entry rows p s
entry_is d rows t table = entry_by d rows t table (ap (λ x. x.delimiter) table.parts_are)
