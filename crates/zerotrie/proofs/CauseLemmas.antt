-- Why a build of a dense table is refused.
use Rattle.std.proofs.Common.{◌≡◌, ℕ, ◌+◌, ◌<◌, ◌≤◌, List, [], ◌∷◌, ◌++◌, refl, sym, subst, arith, Bool, inl, inr, length, get_or, zero, suc, Ordering}
use Rattle.std.specs.Prelude.{◌⊎◌, filter, not, Any, Contains, nat_le}
use Rattle.std.specs.Ordering.{nat_cmp, match_ordering}
use Rattle.std.specs.Cmp.Lexicographic.{slice_cmp}
use Rattle.std.specs.List.{flat_map}
use Rattle.std.specs.declared.cmp.Ordering.TheVariants.{Less, Equal, Greater}
use Rattle.zerotrie_core.specs.Kind.{simple_ascii}
use Rattle.zerotrie_core.specs.Maps.{Pairs, Ascends, RepeatsKey, map_of}
use Rattle.zerotrie_core.specs.Fits.{ExceedsCapacity}
use Rattle.zerotrie_core.specs.Routes.{ascending, any_order, IsRefusal}
use Rattle.zerotrie_core.specs.declared.ZeroTrieBuildError.{ZeroTrieBuildError}
use Rattle.zerotrie_core.specs.declared.ZeroTrieBuildError.TheVariants.{NonAsciiError, CapacityExceeded, CouldNotSolvePerfectHash, MixedCase, IllegalDelimiter, DuplicateKey, Unsorted, BufferTooSmall, BufferTooLarge, StackExceeded, OutOfMemory}
use Rattle.zerotrie.specs.dense.Layout.{is_dense, laid, beside, under, primary_pairs}
use Rattle.zerotrie.specs.dense.RowFaults.{AreAsciiTexts, AreApart, HasTextFault, SomeWideWindow}
use Rattle.zerotrie.specs.dense.Windows.{in_window, inside, offset}
use Rattle.zerotrie.specs.dense.Rows.{Rows, keys, texts, suffixes, placed, put_text, put_texts}
use Rattle.zerotrie.specs.dense.Tables.{IsNonAscii, HoldsDelimiter, DenseCause}
use Rattle.zerotrie.proofs.TextLemmas.{either}
use Rattle.zerotrie.proofs.RowLemmas.{firsts, offs, others_at, AllFree}
use Rattle.zerotrie.proofs.EntryLemmas.{free_text}

-- all bytes are ASCII: of a text, of texts and of keys
abbrev Low : List ℕ → Type 0
Low [] = Unit {0}
Low (b ∷ text) = (b < 128) × Low text

abbrev LowTexts : List (List ℕ) → Type 0
LowTexts [] = Unit {0}
LowTexts (text ∷ more) = Low text × LowTexts more

abbrev LowKeys : Pairs → Type 0
LowKeys [] = Unit {0}
LowKeys (e ∷ pairs) = Low e.0 × LowKeys pairs

abbrev LowRows : Rows → Type 0
LowRows [] = Unit {0}
LowRows (row ∷ rows) = Low row.0 × LowKeys row.1 × LowRows rows

either_side : (b : ℕ) → (128 ≤ b) ⊎ (b < 128)
either_side b = elim (either (nat_le 128 b)) [
  | inl y ↦ inl (let h : 128 ≤ b = grind (arith, y) in h)
  | inr f ↦ inr (let h : b < 128 = grind (arith, f) in h)
]

low_byte : (b : ℕ) → (128 ≤ b → ⊥) → b < 128
low_byte b high = elim (either_side b) [ inl h ↦ absurd (high h) | inr l ↦ l ]

low_text : (text : List ℕ) → (Any (λ b. 128 ≤ b) text → ⊥) → Low text
low_text [] none = tt
low_text (b ∷ text) none = (
  low_byte b (λ h. none (0, b, omega arith, refl, h)),
  low_text text (λ a. none (suc a.0, a.1, omega (arith, a.2), a.3, a.4)),
)

low_at : (text : List ℕ) (k x : ℕ) → Low text → k < length text → get_or text k x ≡ x → 128 ≤ x → ⊥
low_at [] k x low h is high = omega arith
low_at (b ∷ text) zero x low h is high = let l = low.0 in omega (arith, is, l)
low_at (b ∷ text) (suc k) x low h is high = low_at text k x low.1 (omega arith) is high

low_none : (text : List ℕ) → Low text → Any (λ b. 128 ≤ b) text → ⊥
low_none text low a = low_at text a.0 a.1 low a.2 a.3 a.4

low_keys_at : (pairs : Pairs) (k : ℕ) (x : List ℕ × ℕ) → LowKeys pairs → k < length pairs → get_or pairs k x ≡ x → Any (λ b. 128 ≤ b) x.0 → ⊥
low_keys_at [] k x low h is any = omega arith
low_keys_at (e ∷ pairs) zero x low h is any = low_none e.0 low.0 (subst (λ p. Any (λ b. 128 ≤ b) p.0) (sym is) any)
low_keys_at (e ∷ pairs) (suc k) x low h is any = low_keys_at pairs k x low.1 (omega arith) is any

low_keys_none : (pairs : Pairs) → LowKeys pairs → Any (λ e. Any (λ b. 128 ≤ b) e.0) pairs → ⊥
low_keys_none pairs low a = low_keys_at pairs a.0 a.1 low a.2 a.3 a.4

low_append : (xs ys : List ℕ) → Low xs → Low ys → Low (xs ++ ys)
low_append [] ys a b = b
low_append (x ∷ xs) ys a b = (a.0, low_append xs ys a.1 b)

low_keys_append : (xs ys : Pairs) → LowKeys xs → LowKeys ys → LowKeys (xs ++ ys)
low_keys_append [] ys a b = b
low_keys_append (x ∷ xs) ys a b = (a.0, low_keys_append xs ys a.1 b)

low_kept : (q : ℕ → Bool) (pairs : Pairs) → LowKeys pairs → LowKeys (filter (λ e. q e.1) pairs)
low_kept q [] low = tt
low_kept q (e ∷ pairs) low = elim (either (q e.1)) [
  | inl t ↦ rw t (low.0, low_kept q pairs low.1)
  | inr f ↦ rw f (low_kept q pairs low.1)
]

-- the texts of the rows
plain_right : (xs ys : List (List ℕ)) → AreAsciiTexts (xs ++ ys) → AreAsciiTexts ys
plain_right [] ys h = h
plain_right (x ∷ xs) ys h = plain_right xs ys h.1

low_keys : (pairs : Pairs) (ys : List (List ℕ)) → AreAsciiTexts (keys pairs ++ ys) → LowKeys pairs
low_keys [] ys plain = tt
low_keys (e ∷ pairs) ys plain = (low_text e.0 plain.0, low_keys pairs ys plain.1)

low_rows : (rows : Rows) → AreAsciiTexts (texts rows) → LowRows rows
low_rows [] plain = tt
low_rows (row ∷ rows) plain =
    (low_text row.0 plain.0, low_keys row.1 (texts rows) plain.1, low_rows rows (plain_right (keys row.1) (texts rows) plain.1))

apart_right : (d : ℕ) (xs ys : List (List ℕ)) → AreApart d (xs ++ ys) → AreApart d ys
apart_right d [] ys h = h
apart_right d (x ∷ xs) ys h = apart_right d xs ys h.1

pub free_rows_of : (d : ℕ) (rows : Rows) → AreApart d (texts rows) → AllFree d rows
free_rows_of d [] apart = tt
free_rows_of d (row ∷ rows) apart = (free_text d row.0 apart.0, free_rows_of d rows (apart_right d (keys row.1) (texts rows) apart.1))

-- the keys of the primary
low_firsts : (k n : ℕ) (rows : Rows) → LowRows rows → LowKeys (firsts k n rows)
low_firsts k n [] low = tt
low_firsts k n (row ∷ rows) low = elim (either (is_dense n row.1)) [
  | inl y ↦ rw y (low.0, low_firsts (k + 1) n rows low.2)
  | inr f ↦ rw f (low_firsts k n rows low.2)
]

low_offs : (d n : ℕ) (rows : Rows) → d < 128 → LowRows rows → LowKeys (offs d n rows)
low_offs d n [] small low = tt
low_offs d n (row ∷ rows) small low = elim (either (is_dense n row.1)) [
  | inl y ↦ rw y (low_append row.0 (d ∷ []) low.0 (small, tt), low_offs d n rows small low.2)
  | inr f ↦ rw f (low_offs d n rows small low.2)
]

low_under : (d : ℕ) (q : List ℕ) (es : Pairs) → d < 128 → Low q → LowKeys es → LowKeys (under q d es)
low_under d q [] small front low = tt
low_under d q (e ∷ es) small front low = (low_append q (d ∷ e.0) front (small, low.0), low_under d q es small front low.1)

low_beside : (n : ℕ) (row : List ℕ × Pairs) → LowKeys row.1 → LowKeys (beside (laid n row))
low_beside n row low = elim (either (is_dense n row.1)) [
  | inl y ↦ rw y (low_kept (λ v. not (in_window (offset row.1) v)) row.1 low)
  | inr f ↦ rw f low
]

low_others : (d n : ℕ) (rows : Rows) → d < 128 → LowRows rows → LowKeys (others_at d n rows)
low_others d n [] small low = tt
low_others d n (row ∷ rows) small low =
    low_keys_append (under row.0 d (beside (laid n row))) (others_at d n rows) (low_under d row.0 (beside (laid n row)) small low.0 (low_beside n row low.1))
    (low_others d n rows small low.2)

low_primary : (d : ℕ) (rows : Rows) → d < 128 → AreAsciiTexts (texts rows) → LowKeys (primary_pairs d rows)
unfolding primary_pairs
low_primary d rows small plain =
    let n : ℕ = length (suffixes rows) in
    let low = low_rows rows plain in
    low_keys_append (firsts 0 n rows) (offs d n rows ++ others_at d n rows) (low_firsts 0 n rows low)
    (low_keys_append (offs d n rows) (others_at d n rows) (low_offs d n rows small low) (low_others d n rows small low))

-- and of the columns
low_put_by : (o : Ordering) (text t : List ℕ) (more put : List (List ℕ)) → Low text → Low t → LowTexts more → LowTexts put
    → LowTexts (match_ordering o (text ∷ t ∷ more) (t ∷ more) (t ∷ put))
low_put_by Less text t more put a b c e = (a, (b, c))
low_put_by Equal text t more put a b c e = (b, c)
low_put_by Greater text t more put a b c e = (b, e)

low_put : (text : List ℕ) (ts : List (List ℕ)) → Low text → LowTexts ts → LowTexts (put_text text ts)
low_put text [] low all = (low, tt)
low_put text (t ∷ more) low all = low_put_by (slice_cmp nat_cmp text t) text t more (put_text text more) low all.0 all.1 (low_put text more low all.1)

low_puts : (xs ts : List (List ℕ)) → LowTexts xs → LowTexts ts → LowTexts (put_texts xs ts)
low_puts [] ts low all = all
low_puts (x ∷ xs) ts low all = low_puts xs (put_text x ts) low.1 (low_put x ts low.0 all)

low_texts : (row : Pairs) (ys : List (List ℕ)) → LowKeys row → LowTexts ys → LowTexts (keys row ++ ys)
low_texts [] ys low all = all
low_texts (e ∷ row) ys low all = (low.0, low_texts row ys low.1 all)

low_all : (rows : Rows) → LowRows rows → LowTexts (flat_map (λ row. keys row.1) rows)
low_all [] low = tt
low_all (row ∷ rows) low = low_texts row.1 (flat_map (λ r. keys r.1) rows) low.1 (low_all rows low.2)

low_placed : (k : ℕ) (ts : List (List ℕ)) → LowTexts ts → LowKeys (placed k ts)
low_placed k [] low = tt
low_placed k (t ∷ ts) low = (low.0, low_placed (k + 1) ts low.1)

low_columns : (rows : Rows) → AreAsciiTexts (texts rows) → LowKeys (placed 0 (suffixes rows))
unfolding suffixes
low_columns rows plain = low_placed 0 (put_texts (flat_map (λ row. keys row.1) rows) []) (low_puts (flat_map (λ row. keys row.1) rows) [] (low_all rows (low_rows rows plain)) tt)

-- no text is at fault
plain_at : (xs : List (List ℕ)) (k : ℕ) (x : List ℕ) → AreAsciiTexts xs → k < length xs → get_or xs k x ≡ x → Any (λ b. 128 ≤ b) x → ⊥
plain_at [] k x plain h is any = omega arith
plain_at (y ∷ xs) zero x plain h is any = plain.0 (subst (λ t. Any (λ b. 128 ≤ b) t) (sym is) any)
plain_at (y ∷ xs) (suc k) x plain h is any = plain_at xs k x plain.1 (omega arith) is any

pub no_high_text : (d : ℕ) (rows : Rows) → d < 128 → AreAsciiTexts (texts rows) → IsNonAscii d rows → ⊥
no_high_text d rows small plain h = elim h [
  | inl high ↦ omega arith
  | inr a ↦ plain_at (texts rows) a.0 a.1 plain a.2 a.3 a.4
]

apart_at : (d : ℕ) (xs : List (List ℕ)) (k : ℕ) (x : List ℕ) → AreApart d xs → k < length xs → get_or xs k x ≡ x → Contains x d → ⊥
apart_at d [] k x apart h is c = omega arith
apart_at d (y ∷ xs) zero x apart h is c = apart.0 (subst (λ t. Contains t d) (sym is) c)
apart_at d (y ∷ xs) (suc k) x apart h is c = apart_at d xs k x apart.1 (omega arith) is c

pub no_held : (d : ℕ) (rows : Rows) → AreApart d (texts rows) → HoldsDelimiter d rows → ⊥
no_held d rows apart a = apart_at d (texts rows) a.0 a.1 apart a.2 a.3 a.4

-- a text at fault
fault_in : (d : ℕ) (xs : List (List ℕ)) (e : ZeroTrieBuildError) → HasTextFault d xs e
    → ((e ≡ NonAsciiError) × Any (λ text. Any (λ b. 128 ≤ b) text) xs) ⊎ ((e ≡ IllegalDelimiter) × Any (λ text. Contains text d) xs)
fault_in d [] e h = absurd h
fault_in d (x ∷ xs) e h = elim h [
  | inl own ↦ elim own [
    | inl n ↦ inl (n.0, (0, x, omega arith, refl, n.1))
    | inr i ↦ inr (i.0, (0, x, omega arith, refl, i.1))
  ]
  | inr more ↦ elim (fault_in d xs e more) [
    | inl n ↦ let a = n.1 in inl (n.0, (suc a.0, a.1, omega (arith, a.2), a.3, a.4))
    | inr i ↦ let a = i.1 in inr (i.0, (suc a.0, a.1, omega (arith, a.2), a.3, a.4))
  ]
]

pub text_refused : (d : ℕ) (rows : Rows) (e : ZeroTrieBuildError) → ((e ≡ NonAsciiError) × (128 ≤ d)) ⊎ HasTextFault d (texts rows) e → (e ≡ OutOfMemory) ⊎ DenseCause d rows e
text_refused d rows e h = elim h [
  | inl n ↦ inr (subst (DenseCause d rows) (sym n.0) (inl n.1))
  | inr f ↦ elim (fault_in d (texts rows) e f) [
    | inl n ↦ inr (subst (DenseCause d rows) (sym n.0) (inr n.1))
    | inr i ↦ inr (subst (DenseCause d rows) (sym i.0) i.1)
  ]
]

-- a row whose window has no text
wide_in : (rows : Rows) → SomeWideWindow rows → Any (λ row. ExceedsCapacity simple_ascii (map_of (inside row.1))) rows
wide_in [] h = absurd h
wide_in (row ∷ rows) h = elim h [
  | inl own ↦ (0, row, omega arith, refl, own)
  | inr more ↦ let a = wide_in rows more in (suc a.0, a.1, omega (arith, a.2), a.3, a.4)
]

-- neither a text nor the delimiter is at fault
abbrev pub Faultless : ℕ → Rows → Type 0
Faultless d rows = (d < 128) × AreAsciiTexts (texts rows) × AreApart d (texts rows)

pub row_refused : (d : ℕ) (rows : Rows) (e : ZeroTrieBuildError) → Faultless d rows → (e ≡ OutOfMemory) ⊎ ((e ≡ CapacityExceeded) × SomeWideWindow rows)
    → (e ≡ OutOfMemory) ⊎ DenseCause d rows e
row_refused d rows e good h = elim h [
  | inl m ↦ inl m
  | inr wide ↦ inr (subst (DenseCause d rows) (sym wide.0) (inr (no_high_text d rows good.0 good.1, no_held d rows good.2, inr (inr (wide_in rows wide.1)))))
]

pub primary_refused : (d : ℕ) (rows : Rows) (e : ZeroTrieBuildError) → Faultless d rows → (RepeatsKey (primary_pairs d rows) → ⊥)
    → IsRefusal any_order simple_ascii (primary_pairs d rows) e → (e ≡ OutOfMemory) ⊎ DenseCause d rows e
primary_refused d rows OutOfMemory good once h = inl refl
primary_refused d rows CapacityExceeded good once h = elim h [
  | inl m ↦ inl m
  | inr c ↦ inr (inr (no_high_text d rows good.0 good.1, no_held d rows good.2, inl c.1.1))
]
primary_refused d rows NonAsciiError good once h = elim h [
  | inl m ↦ inl m
  | inr c ↦ absurd (low_keys_none (primary_pairs d rows) (low_primary d rows good.0 good.1) c.1)
]
primary_refused d rows MixedCase good once h = elim h [ inl m ↦ inl m | inr c ↦ absurd (c.1 (λ i f l j x m. refl)) ]
primary_refused d rows Unsorted good once h = elim h [ inl m ↦ inl m | inr c ↦ absurd (c.0 refl) ]
primary_refused d rows DuplicateKey good once h = elim h [ inl m ↦ inl m | inr c ↦ absurd (once c.1) ]
primary_refused d rows CouldNotSolvePerfectHash good once h = elim h [ inl m ↦ inl m | inr c ↦ let wrong = c.1.1.1.0 in absurd (cc) ]
primary_refused d rows IllegalDelimiter good once h = elim h [ inl m ↦ inl m | inr c ↦ absurd c.1 ]
primary_refused d rows BufferTooSmall good once h = elim h [ inl m ↦ inl m | inr c ↦ absurd c.1 ]
primary_refused d rows (BufferTooLarge n) good once h = elim h [ inl m ↦ inl m | inr c ↦ absurd c.1 ]
primary_refused d rows StackExceeded good once h = elim h [ inl m ↦ inl m | inr c ↦ absurd c.1 ]

pub columns_refused : (d : ℕ) (rows : Rows) (e : ZeroTrieBuildError) → Faultless d rows → Ascends (placed 0 (suffixes rows))
    → IsRefusal ascending simple_ascii (placed 0 (suffixes rows)) e → (e ≡ OutOfMemory) ⊎ DenseCause d rows e
columns_refused d rows OutOfMemory good ascends h = inl refl
columns_refused d rows CapacityExceeded good ascends h = elim h [
  | inl m ↦ inl m
  | inr c ↦ inr (inr (no_high_text d rows good.0 good.1, no_held d rows good.2, inr (inl c.1.1)))
]
columns_refused d rows NonAsciiError good ascends h = elim h [
  | inl m ↦ inl m
  | inr c ↦ absurd (low_keys_none (placed 0 (suffixes rows)) (low_columns rows good.1) c.1)
]
columns_refused d rows MixedCase good ascends h = elim h [ inl m ↦ inl m | inr c ↦ absurd (c.1 (λ i f l j x m. refl)) ]
columns_refused d rows Unsorted good ascends h = elim h [ inl m ↦ inl m | inr c ↦ absurd (c.1 ascends) ]
columns_refused d rows DuplicateKey good ascends h = elim h [ inl m ↦ inl m | inr c ↦ absurd (c.0 refl) ]
columns_refused d rows CouldNotSolvePerfectHash good ascends h = elim h [ inl m ↦ inl m | inr c ↦ let wrong = c.1.1.1.0 in absurd (cc) ]
columns_refused d rows IllegalDelimiter good ascends h = elim h [ inl m ↦ inl m | inr c ↦ absurd c.1 ]
columns_refused d rows BufferTooSmall good ascends h = elim h [ inl m ↦ inl m | inr c ↦ absurd c.1 ]
columns_refused d rows (BufferTooLarge n) good ascends h = elim h [ inl m ↦ inl m | inr c ↦ absurd c.1 ]
columns_refused d rows StackExceeded good ascends h = elim h [ inl m ↦ inl m | inr c ↦ absurd c.1 ]
