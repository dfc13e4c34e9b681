-- What the primary map and the matrix have of one prefix.
use Rattle.std.proofs.Common.{◌≡◌, ℕ, ◌+◌, ◌-◌, ◌*◌, ◌<◌, List, [], ◌∷◌, ◌++◌, refl, sym, ap, subst, ◌∙◌, arith, Bool, true, false, cond, inl, inr, Some, None, length, get_or, map, zero, suc, length-append}
use Rattle.std.specs.Prelude.{◌==◌, ◌⊎◌, ◌&&◌}
use Rattle.std.proofs.lemmas.Nat.{from_le_bytes-to_le_bytes_2}
use Rattle.zerotrie_core.specs.Kind.{simple_ascii}
use Rattle.zerotrie_core.specs.Maps.{Pairs, value_at}
use Rattle.zerotrie_core.proofs.CallerLemmas.{exact_same, value_at-append, value_at-some}
use Rattle.zerotrie.specs.dense.Rows.{Rows, row_of, placed, IsInOrder}
use Rattle.zerotrie.specs.dense.Layout.{is_dense, laid, beside, numbers, row_offsets, under, others, cell_of, dense_cells}
use Rattle.zerotrie.specs.dense.Windows.{offset, inside, outside}
use Rattle.zerotrie.specs.dense.Records.{matrix_bytes}
use Rattle.zerotrie.specs.dense.Laws.{cell_at}
use Rattle.zerotrie.proofs.TextLemmas.{V, same, either, Free, NoKey, first_once, value_at-under, value_at-no_text, no_text, no_key, split_key}

-- the three lists of the primary of a table of n suffixes
abbrev pub firsts : ℕ → ℕ → Rows → Pairs
firsts k n rows = numbers k (map (laid n) rows)

abbrev pub offs : ℕ → ℕ → Rows → Pairs
offs d n rows = row_offsets d (map (laid n) rows)

abbrev pub others_at : ℕ → ℕ → Rows → Pairs
others_at d n rows = others d (map (laid n) rows)

-- the cells of the window of pairs, and of the dense rows
abbrev pub window_cells : List (List ℕ) → Pairs → List ℕ
window_cells S row = map (λ s. cell_of (offset row) (value_at simple_ascii (inside row) s)) S

abbrev pub all_cells : List (List ℕ) → ℕ → Rows → List ℕ
all_cells S n rows = dense_cells S (map (laid n) rows)

and_never : (b : Bool) → (b && false) ≡ false
and_never true = refl
and_never false = refl

-- no text of the rows holds d
abbrev pub AllFree : ℕ → Rows → Type 0
AllFree d [] = Unit {0}
AllFree d (row ∷ rows) = Free d row.0 × AllFree d rows

-- no row has the prefix
abbrev pub NoneNamed : Rows → List ℕ → Type 0
NoneNamed [] p = Unit {0}
NoneNamed (row ∷ rows) p = (same row.0 p ≡ false) × NoneNamed rows p

pub none_named : (k : ℕ) (rows : Rows) (p : List ℕ) → NoKey p (placed k (map (λ r. r.0) rows)) → NoneNamed rows p
none_named k [] p none = tt
none_named k (row ∷ rows) p none = (none.0, none_named (k + 1) rows p none.1)

-- a key that holds d is none of the numbers
pub no_number : (d k n : ℕ) (rows : Rows) (p s : List ℕ) → AllFree d rows → V (firsts k n rows) (p ++ (d ∷ s)) ≡ None
no_number d k n [] p s free = refl
no_number d k n (row ∷ rows) p s free = elim (either (is_dense n row.1)) [
  | inl y ↦ rw (y, no_key d row.0 p s free.0) (no_number d (k + 1) n rows p s free.1)
  | inr f ↦ rw f (no_number d k n rows p s free.1)
]

-- and no text without d is one of the others
pub no_offset : (d n : ℕ) (rows : Rows) (p : List ℕ) → Free d p → V (offs d n rows) p ≡ None
no_offset d n [] p k = refl
no_offset d n (row ∷ rows) p k = elim (either (is_dense n row.1)) [
  | inl y ↦ rw (y, no_text d row.0 [] p k) (no_offset d n rows p k)
  | inr f ↦ rw f (no_offset d n rows p k)
]

pub no_other : (d n : ℕ) (rows : Rows) (p : List ℕ) → Free d p → V (others_at d n rows) p ≡ None
no_other d n [] p k = refl
no_other d n (row ∷ rows) p k =
    value_at-append simple_ascii p (under row.0 d (beside (laid n row))) (others_at d n rows) (value_at-no_text d row.0 p (beside (laid n row)) k) ∙ no_other d n rows p k

-- an offset is of the key that ends with d alone
pub offset_ends : (d n : ℕ) (rows : Rows) (p : List ℕ) (b : ℕ) (s : List ℕ) → AllFree d rows → Free d p → V (offs d n rows) (p ++ (d ∷ (b ∷ s))) ≡ None
offset_ends d n [] p b s free k = refl
offset_ends d n (row ∷ rows) p b s free k = elim (either (is_dense n row.1)) [
  | inl y ↦
      let other : same (row.0 ++ d ∷ []) (p ++ (d ∷ (b ∷ s))) ≡ false = split_key d row.0 p [] (b ∷ s) free.0 k ∙ and_never (same row.0 p) in
      rw (y, other) (offset_ends d n rows p b s free.1 k)
  | inr f ↦ rw f (offset_ends d n rows p b s free.1 k)
]

-- What the lists have of a prefix that names no dense row, and of one that names one.
pub record Sparse (d n : ℕ) (rows : Rows) (p : List ℕ) : Type 0 where
  pub number : (k : ℕ) → V (firsts k n rows) p ≡ None
  pub no_offset_of : V (offs d n rows) (p ++ (d ∷ [])) ≡ None
  pub other : (s : List ℕ) → V (others_at d n rows) (p ++ (d ∷ s)) ≡ V (row_of rows p) s

pub record DenseRow (S : List (List ℕ)) (d n : ℕ) (rows : Rows) (p : List ℕ) : Type 0 where
  pub place : ℕ
  pub number : (k : ℕ) → V (firsts k n rows) p ≡ Some (k + place)
  pub offset_of : V (offs d n rows) (p ++ (d ∷ [])) ≡ Some (offset (row_of rows p))
  pub other : (s : List ℕ) → V (others_at d n rows) (p ++ (d ∷ s)) ≡ V (outside (row_of rows p)) s
  pub dense_is : is_dense n (row_of rows p) ≡ true
  pub below : (i : ℕ) → i < n → place * n + i < length (all_cells S n rows)
  pub cells : (i x : ℕ) → i < n → get_or (all_cells S n rows) (place * n + i) x ≡ get_or (window_cells S (row_of rows p)) i x

pub absent_number : (k n : ℕ) (rows : Rows) (p : List ℕ) → NoneNamed rows p → V (firsts k n rows) p ≡ None
absent_number k n [] p none = refl
absent_number k n (row ∷ rows) p none = elim (either (is_dense n row.1)) [
  | inl y ↦ rw (y, none.0) (absent_number (k + 1) n rows p none.1)
  | inr f ↦ rw f (absent_number k n rows p none.1)
]

pub other_key : (d : ℕ) (q p s : List ℕ) → Free d q → Free d p → same q p ≡ false → same (q ++ (d ∷ [])) (p ++ (d ∷ s)) ≡ false
other_key d q p s free k other = split_key d q p [] s free k ∙ ap (λ b. b && same [] s) other

own_key : (d : ℕ) (q p : List ℕ) → Free d q → Free d p → same q p ≡ true → same (q ++ (d ∷ [])) (p ++ (d ∷ [])) ≡ true
own_key d q p free k own = split_key d q p [] [] free k ∙ ap (λ b. b && same [] []) own

pub absent_offset : (d n : ℕ) (rows : Rows) (p : List ℕ) → AllFree d rows → Free d p → NoneNamed rows p → V (offs d n rows) (p ++ (d ∷ [])) ≡ None
absent_offset d n [] p free k none = refl
absent_offset d n (row ∷ rows) p free k none = elim (either (is_dense n row.1)) [
  | inl y ↦ rw (y, other_key d row.0 p [] free.0 k none.0) (absent_offset d n rows p free.1 k none.1)
  | inr f ↦ rw f (absent_offset d n rows p free.1 k none.1)
]

-- a row adds nothing under another prefix, and all of what it has beside under its own
other_adds : (d n : ℕ) (row : List ℕ × Pairs) (rows : Rows) (p s : List ℕ) → Free d row.0 → Free d p → same row.0 p ≡ false
    → V (others_at d n (row ∷ rows)) (p ++ (d ∷ s)) ≡ V (others_at d n rows) (p ++ (d ∷ s))
other_adds d n row rows p s free k other =
    value_at-append simple_ascii (p ++ (d ∷ s)) (under row.0 d (beside (laid n row))) (others_at d n rows)
    (value_at-under d row.0 p s (beside (laid n row)) free k ∙ ap (λ b. cond b (V (beside (laid n row)) s) None) other)

pub absent_other : (d n : ℕ) (rows : Rows) (p s : List ℕ) → AllFree d rows → Free d p → NoneNamed rows p → V (others_at d n rows) (p ++ (d ∷ s)) ≡ None
absent_other d n [] p s free k none = refl
absent_other d n (row ∷ rows) p s free k none = other_adds d n row rows p s free.0 k none.0 ∙ absent_other d n rows p s free.1 k none.1

own_adds : (d n : ℕ) (row : List ℕ × Pairs) (rows : Rows) (p s : List ℕ) → Free d row.0 → AllFree d rows → Free d p → same row.0 p ≡ true → NoneNamed rows p
    → V (others_at d n (row ∷ rows)) (p ++ (d ∷ s)) ≡ V (beside (laid n row)) s
own_adds d n row rows p s free all k own none =
    value_at-some simple_ascii (p ++ (d ∷ s)) (under row.0 d (beside (laid n row))) (others_at d n rows) (absent_other d n rows p s all k none)
    ∙ value_at-under d row.0 p s (beside (laid n row)) free k ∙ ap (λ b. cond b (V (beside (laid n row)) s) None) own

get_left : (xs ys : List ℕ) (i x : ℕ) → i < length xs → get_or (xs ++ ys) i x ≡ get_or xs i x
get_left [] ys i x h = absurd (omega arith)
get_left (a ∷ xs) ys zero x h = refl
get_left (a ∷ xs) ys (suc i) x h = get_left xs ys i x (omega arith)

get_right : (xs ys : List ℕ) (i x : ℕ) → get_or (xs ++ ys) (length xs + i) x ≡ get_or ys i x
get_right [] ys i x = let e : length {A = ℕ} [] + i ≡ i = omega arith in rw e refl
get_right (a ∷ xs) ys i x = let e : length (a ∷ xs) + i ≡ suc (length xs + i) = omega arith in rw e (get_right xs ys i x)

one_more : (a n i : ℕ) → (a + 1) * n + i ≡ n + (a * n + i)
one_more a n i = grind arith

length-row : (S : List (List ℕ)) (row : Pairs) → length (window_cells S row) ≡ length S
length-row [] row = refl
length-row (t ∷ S) row = let r = length-row S row in omega (arith, r)

ends_dense : (S : List (List ℕ)) (d n : ℕ) (row : List ℕ × Pairs) (rows : Rows) (p : List ℕ) → length S ≡ n → Free d row.0 → AllFree d rows → Free d p → same row.0 p ≡ true
    → NoneNamed rows p → is_dense n row.1 ≡ true → DenseRow S d n (row ∷ rows) p
ends_dense S d n row rows p len free all k own none t =
    let cells = length-row S row.1 in
    record {
      place = 0;
      number = λ m. rw (t, own) (ap Some (omega arith));
      offset_of = rw (t, own_key d row.0 p free k own, own) refl;
      other = λ s. own_adds d n row rows p s free all k own none ∙ rw (t, own) refl;
      dense_is = rw own t;
      below = λ i h. rw t (let l = length-append (window_cells S row.1) (all_cells S n rows) in omega (arith, cells, len, l));
      cells = λ i x h. rw (t, own) (let e : 0 * n + i ≡ i = omega arith in rw e (get_left (window_cells S row.1) (all_cells S n rows) i x (omega (arith, cells, len))));
    }

ends_sparse : (d n : ℕ) (row : List ℕ × Pairs) (rows : Rows) (p : List ℕ) → Free d row.0 → AllFree d rows → Free d p → same row.0 p ≡ true
    → NoneNamed rows p → is_dense n row.1 ≡ false → Sparse d n (row ∷ rows) p
ends_sparse d n row rows p free all k own none f = record {
  number = λ m. rw f (absent_number m n rows p none);
  no_offset_of = rw f (absent_offset d n rows p all k none);
  other = λ s. own_adds d n row rows p s free all k own none ∙ rw (f, own) refl;
}

later_sparse : (d n : ℕ) (row : List ℕ × Pairs) (rows : Rows) (p : List ℕ) → Free d row.0 → Free d p → same row.0 p ≡ false → Sparse d n rows p → Sparse d n (row ∷ rows) p
later_sparse d n row rows p free k other r = elim (either (is_dense n row.1)) [
  | inl t ↦ record {
    number = λ m. rw (t, other) (r.number (m + 1));
    no_offset_of = rw (t, other_key d row.0 p [] free k other) r.no_offset_of;
    other = λ s. other_adds d n row rows p s free k other ∙ r.other s ∙ rw other refl;
  }
  | inr f ↦ record {
    number = λ m. rw f (r.number m);
    no_offset_of = rw f r.no_offset_of;
    other = λ s. other_adds d n row rows p s free k other ∙ r.other s ∙ rw other refl;
  }
]

later_dense : (S : List (List ℕ)) (d n : ℕ) (row : List ℕ × Pairs) (rows : Rows) (p : List ℕ) → length S ≡ n → Free d row.0 → Free d p → same row.0 p ≡ false
    → DenseRow S d n rows p → DenseRow S d n (row ∷ rows) p
later_dense S d n row rows p len free k other r = elim (either (is_dense n row.1)) [
  | inl t ↦
      let cells = length-row S row.1 in
      record {
        place = r.place + 1;
        number = λ m. rw (t, other) (r.number (m + 1) ∙ ap Some (omega arith));
        offset_of = rw (t, other_key d row.0 p [] free k other, other) r.offset_of;
        other = λ s. other_adds d n row rows p s free k other ∙ r.other s ∙ rw other refl;
        dense_is = rw other r.dense_is;
        below = λ i h. rw t (let l = length-append (window_cells S row.1) (all_cells S n rows) in let more = one_more r.place n i in let b = r.below i h in omega (arith, cells, len, l, more, b));
        cells = λ i x h. rw (t, other) (
            ap (λ j. get_or (window_cells S row.1 ++ all_cells S n rows) j x) (one_more r.place n i ∙ ap (λ m. m + (r.place * n + i)) (sym (cells ∙ len)))
            ∙ get_right (window_cells S row.1) (all_cells S n rows) (r.place * n + i) x ∙ r.cells i x h
            );
      }
  | inr f ↦ record {
    place = r.place;
    number = λ m. rw f (r.number m);
    offset_of = rw (f, other) r.offset_of;
    other = λ s. other_adds d n row rows p s free k other ∙ r.other s ∙ rw other refl;
    dense_is = rw other r.dense_is;
    below = λ i h. rw f (r.below i h);
    cells = λ i x h. rw (f, other) (r.cells i x h);
  }
]

-- a prefix names a dense row, or none
pub find_row : (S : List (List ℕ)) (d n : ℕ) (rows : Rows) (p : List ℕ) → length S ≡ n → IsInOrder rows → AllFree d rows → Free d p → Sparse d n rows p ⊎ DenseRow S d n rows p
find_row S d n [] p len order free k = inl (record { number = λ m. refl; no_offset_of = refl; other = λ s. refl })
find_row S d n (row ∷ rows) p len order free k = elim (either (same row.0 p)) [
  | inl own ↦
      let is : row.0 ≡ p = exact_same row.0 p own in
      let none : NoneNamed rows p = subst (λ q. NoneNamed rows q) is (none_named 0 rows row.0 (first_once row.0 0 (placed 0 (map (λ r. r.0) rows)) order.1)) in
      elim (either (is_dense n row.1)) [
        | inl t ↦ inr (ends_dense S d n row rows p len free.0 free.1 k own none t)
        | inr f ↦ inl (ends_sparse d n row rows p free.0 free.1 k own none f)
      ]
  | inr other ↦ elim (find_row S d n rows p len order.2 free.1 k) [
    | inl r ↦ inl (later_sparse d n row rows p free.0 k other r)
    | inr r ↦ inr (later_dense S d n row rows p len free.0 k other r)
  ]
]

-- the bytes of cells, cell by cell
pub cell_of_bytes : (cells : List ℕ) (i : ℕ) → i < length cells → get_or cells i 0 < 65536 → cell_at (matrix_bytes cells) i ≡ Some (get_or cells i 0)
cell_of_bytes [] i h small = absurd (omega arith)
cell_of_bytes (c ∷ cells) zero h small = let e = from_le_bytes-to_le_bytes_2 c small in ap Some (omega (arith, e))
cell_of_bytes (c ∷ cells) (suc i) h small =
    let back : suc i - 1 ≡ i = omega arith in
    let other : (suc i == 0) ≡ false = grind arith in
    rw other (ap (λ j. cell_at (matrix_bytes cells) j) back ∙ cell_of_bytes cells i (omega arith) small)
