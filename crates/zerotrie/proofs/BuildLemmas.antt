-- What the parts of a build rest on: entries by their keys, pairs that a test picks, and texts put in order.
use Rattle.std.proofs.Common.{◌≡◌, ℕ, ◌-◌, ◌+◌, ◌<◌, ◌≤◌, List, [], ◌∷◌, ◌++◌, refl, sym, ap, ◌∙◌, arith, Bool, true, false, cond, inl, inr, Option, Some, None, map, Ordering, get_or, length, zero, suc}
use Rattle.std.specs.Prelude.{filter, is_some, Any}
use Rattle.std.specs.Borrow.{Bor}
use Rattle.std.specs.BTreeMap.{is_at}
use Rattle.std.specs.BTreeSet.{insert_key}
use Rattle.std.specs.Map.{lookup}
use Rattle.std.specs.List.Sorted.{IsStrictlySortedBy}
use Rattle.std.specs.Ordering.{nat_cmp, match_ordering, is_eq}
use Rattle.std.specs.Cmp.Lexicographic.{slice_cmp}
use Rattle.std.specs.declared.cmp.Ordering.TheVariants.{Less, Equal, Greater}
use Rattle.std.proofs.lemmas.Map.Keys.{sorted_head, sorted_tail}
use Rattle.std.proofs.lemmas.Map.Text.{is_eq-slice_cmp}
use Rattle.zerotrie_core.specs.Kind.{simple_ascii}
use Rattle.zerotrie_core.specs.Maps.{Pairs, Ascends, FirstAbove, value_at}
use Rattle.zerotrie_core.proofs.CallerLemmas.{exact_same, same_equiv}
use Rattle.zerotrie.specs.dense.Layout.{cell_of}
use Rattle.zerotrie.specs.dense.RowFaults.{AreAsciiTexts, AreApart, HasTextFault}
use Rattle.zerotrie.specs.dense.Views.{pairs_in}
use Rattle.zerotrie.specs.dense.Windows.{in_window}
use Rattle.zerotrie.specs.dense.Rows.{placed, put_text, put_texts}
use Rattle.std.specs.Int.{w16, to_le_bytes}
use Rattle.std.specs.Cmp.Lexicographic.{nat_list_cmp_total}
use Rattle.zerotrie_core.specs.declared.ZeroTrieBuildError.{ZeroTrieBuildError}
use Rattle.zerotrie.specs.dense.Records.{matrix_bytes}
use Rattle.zerotrie.proofs.TextLemmas.{V, same, either, first_once, kept_none}

-- a look-up in the entries of a map is one in its pairs
pub lookup_value : (s : List ℕ) (es : List (Bor (List ℕ) × ℕ)) → lookup (is_at {K = Bor (List ℕ)} (λ k. slice_cmp nat_cmp s k.now)) es ≡ V (pairs_in es) s
lookup_value s [] = refl
lookup_value s (e ∷ es) =
    let test : is_eq (slice_cmp nat_cmp s e.0.now) ≡ same e.0.now s = is_eq-slice_cmp s e.0.now ∙ (same_equiv simple_ascii).symm s e.0.now in
    ap (λ b. cond b (Some e.1) (lookup (is_at {K = Bor (List ℕ)} (λ k. slice_cmp nat_cmp s k.now)) es)) test
    ∙ ap (λ o. cond (same e.0.now s) (Some e.1) o) (lookup_value s es)

-- a value that passes a test
abbrev pub passing : (ℕ → Bool) → Option ℕ → Option ℕ
passing q None = None
passing q (Some v) = cond (q v) (Some v) None

pub filtered : (q : ℕ → Bool) (pairs : Pairs) (s : List ℕ) → Ascends pairs → V (filter (λ e. q e.1) pairs) s ≡ passing q (V pairs s)
filtered q [] s ascends = refl
filtered q (e ∷ pairs) s ascends = elim (either (same e.0 s)) [
  | inl y ↦ elim (either (q e.1)) [
    | inl t ↦ rw (t, y, t) refl
    | inr f ↦
        let is : e.0 ≡ s = exact_same e.0 s y in
        rw (f, y, f) (ap (λ k. V (filter (λ d. q d.1) pairs) k) (sym is) ∙ kept_none e.0 q pairs (first_once e.0 e.1 pairs ascends))
  ]
  | inr n ↦ elim (either (q e.1)) [
    | inl t ↦ rw (t, n) (filtered q pairs s ascends.1)
    | inr f ↦ rw (f, n) (filtered q pairs s ascends.1)
  ]
]

by_test : (b : Bool) (v : ℕ) → is_some (cond b (Some v) None) ≡ b
by_test true v = refl
by_test false v = refl

pub is_passing : (q : ℕ → Bool) (o : Option ℕ) (v : ℕ) → o ≡ Some v → is_some (passing q o) ≡ q v
is_passing q o v h = ap (λ x. is_some (passing q x)) h ∙ by_test (q v) v

put_by : (x : Bor (List ℕ)) (ks : List (Bor (List ℕ))) (k : Bor (List ℕ)) (o : Ordering)
    → map {B = List ℕ} (λ s. s.now) (insert_key (λ a b. slice_cmp nat_cmp a.now b.now) ks k) ≡ put_text k.now (map {B = List ℕ} (λ s. s.now) ks)
    → map {B = List ℕ} (λ s. s.now) (match_ordering o (k ∷ x ∷ ks) (x ∷ ks) (x ∷ insert_key (λ a b. slice_cmp nat_cmp a.now b.now) ks k))
    ≡ match_ordering o (k.now ∷ x.now ∷ map {B = List ℕ} (λ s. s.now) ks) (x.now ∷ map {B = List ℕ} (λ s. s.now) ks) (x.now ∷ put_text k.now (map {B = List ℕ} (λ s. s.now) ks))
put_by x ks k Less h = refl
put_by x ks k Equal h = refl
put_by x ks k Greater h = ap (λ t. x.now ∷ t) h

-- a text put into a set is put at its place
pub insert_put : (ks : List (Bor (List ℕ))) (k : Bor (List ℕ)) → map {B = List ℕ} (λ s. s.now) (insert_key (λ x y. slice_cmp nat_cmp x.now y.now) ks k) ≡ put_text k.now (map {B = List ℕ} (λ s. s.now) ks)
insert_put [] k = refl
insert_put (x ∷ ks) k = put_by x ks k (slice_cmp nat_cmp k.now x.now) (insert_put ks k)

pub puts_append : (xs ys S : List (List ℕ)) → put_texts (xs ++ ys) S ≡ put_texts ys (put_texts xs S)
puts_append [] ys S = refl
puts_append (x ∷ xs) ys S = puts_append xs ys (put_text x S)

-- the entries of a map of text ascend, and so do the keys of a set of text with their places
pub entries_ascend : (es : List (Bor (List ℕ) × ℕ)) → IsStrictlySortedBy (λ x y. slice_cmp nat_cmp x.now y.now) (map {B = Bor (List ℕ)} (λ e. e.0) es) → Ascends (pairs_in es)
entries_ascend [] s = tt
entries_ascend (e ∷ []) s = (tt, tt)
entries_ascend (e ∷ f ∷ es) s =
    let ks : List (Bor (List ℕ)) = map {B = Bor (List ℕ)} (λ d. d.0) es in (
      (sorted_head (λ x y. slice_cmp nat_cmp x.now y.now) e.0 (f.0 ∷ ks) s).0,
      entries_ascend (f ∷ es) (sorted_tail (λ x y. slice_cmp nat_cmp x.now y.now) e.0 (f.0 ∷ ks) s),
    )

pub places_ascend : (n : ℕ) (ks : List (Bor (List ℕ))) → IsStrictlySortedBy (λ x y. slice_cmp nat_cmp x.now y.now) ks → Ascends (placed n (map {B = List ℕ} (λ s. s.now) ks))
places_ascend n [] s = tt
places_ascend n (k ∷ []) s = (tt, tt)
places_ascend n (k ∷ l ∷ ks) s = (
  (sorted_head (λ x y. slice_cmp nat_cmp x.now y.now) k (l ∷ ks) s).0,
  places_ascend (n + 1) (l ∷ ks) (sorted_tail (λ x y. slice_cmp nat_cmp x.now y.now) k (l ∷ ks) s),
)

-- the cells of a value in the window, of one outside and of none
pub cell_inside : (start v : ℕ) (pairs : Pairs) (s : List ℕ) → Ascends pairs → V pairs s ≡ Some v → in_window start v ≡ true
    → v - start ≡ cell_of start (value_at simple_ascii (filter (λ e. in_window start e.1) pairs) s)
cell_inside start v pairs s ascends is t = sym (ap (cell_of start) (filtered (in_window start) pairs s ascends ∙ ap (passing (in_window start)) is ∙ ap (λ b. cond b (Some v) None) t))

pub cell_outside : (start v : ℕ) (pairs : Pairs) (s : List ℕ) → Ascends pairs → V pairs s ≡ Some v → in_window start v ≡ false
    → 65535 ≡ cell_of start (value_at simple_ascii (filter (λ e. in_window start e.1) pairs) s)
cell_outside start v pairs s ascends is f = sym (ap (cell_of start) (filtered (in_window start) pairs s ascends ∙ ap (passing (in_window start)) is ∙ ap (λ b. cond b (Some v) None) f))

pub cell_absent : (start : ℕ) (pairs : Pairs) (s : List ℕ) → Ascends pairs → V pairs s ≡ None
    → 65535 ≡ cell_of start (value_at simple_ascii (filter (λ e. in_window start e.1) pairs) s)
cell_absent start pairs s ascends is = sym (ap (cell_of start) (filtered (in_window start) pairs s ascends ∙ ap (passing (in_window start)) is))

-- a text with a byte that is not ASCII, and one without
pub any_high : (xs : List ℕ) (i : ℕ) → 128 ≤ get_or xs i 0 → Any (λ b. 128 ≤ b) xs
any_high [] zero h = absurd (omega arith)
any_high [] (suc i) h = absurd (omega arith)
any_high (x ∷ xs) zero h = (0, x, omega arith, refl, h)
any_high (x ∷ xs) (suc i) h = let r = any_high xs i h in (suc r.0, r.1, omega (arith, r.2), r.3, r.4)

pub no_high : (xs : List ℕ) (k x : ℕ) → ((i : ℕ) → get_or xs i 0 < 128) → k < length xs → get_or xs k x ≡ x → 128 ≤ x → ⊥
no_high [] k x all h e high = omega arith
no_high (y ∷ xs) zero x all h e high = let low = all 0 in omega (arith, e, low)
no_high (y ∷ xs) (suc k) x all h e high = no_high xs k x (λ i. all (suc i)) (omega arith) e high

-- the bytes of more cells
pub matrix_more : (xs ys : List ℕ) → matrix_bytes (xs ++ ys) ≡ matrix_bytes xs ++ matrix_bytes ys
matrix_more [] ys = refl
matrix_more (x ∷ xs) ys = ap (λ t. to_le_bytes w16 x ++ t) (matrix_more xs ys)

-- faults and their absence in a row and the rows after it
pub plain_append : (xs ys : List (List ℕ)) → AreAsciiTexts xs → AreAsciiTexts ys → AreAsciiTexts (xs ++ ys)
plain_append [] ys p q = q
plain_append (x ∷ xs) ys p q = (p.0, plain_append xs ys p.1 q)

pub apart_append : (d : ℕ) (xs ys : List (List ℕ)) → AreApart d xs → AreApart d ys → AreApart d (xs ++ ys)
apart_append d [] ys p q = q
apart_append d (x ∷ xs) ys p q = (p.0, apart_append d xs ys p.1 q)

pub fault_left : (d : ℕ) (xs ys : List (List ℕ)) (e : ZeroTrieBuildError) → HasTextFault d xs e → HasTextFault d (xs ++ ys) e
fault_left d [] ys e h = absurd h
fault_left d (x ∷ xs) ys e h = elim h [ inl f ↦ inl f | inr more ↦ inr (fault_left d xs ys e more) ]

pub fault_right : (d : ℕ) (xs ys : List (List ℕ)) (e : ZeroTrieBuildError) → HasTextFault d ys e → HasTextFault d (xs ++ ys) e
fault_right d [] ys e h = h
fault_right d (x ∷ xs) ys e h = inr (fault_right d xs ys e h)

-- pairs that a test picks of ascending ones ascend
above_more : (key : List ℕ) (e : List ℕ × ℕ) (pairs : Pairs) → slice_cmp nat_cmp key e.0 ≡ Less → Ascends (e ∷ pairs) → FirstAbove key pairs
above_more key e [] above ascends = tt
above_more key e (f ∷ pairs) above ascends = nat_list_cmp_total.trans key e.0 f.0 above ascends.0

above_kept : (q : ℕ → Bool) (key : List ℕ) (pairs : Pairs) → FirstAbove key pairs → Ascends pairs → FirstAbove key (filter (λ e. q e.1) pairs)
above_kept q key [] above ascends = tt
above_kept q key (e ∷ pairs) above ascends = elim (either (q e.1)) [
  | inl t ↦ rw t above
  | inr f ↦ rw f (above_kept q key pairs (above_more key e pairs above ascends) ascends.1)
]

pub kept_ascends : (q : ℕ → Bool) (pairs : Pairs) → Ascends pairs → Ascends (filter (λ e. q e.1) pairs)
kept_ascends q [] ascends = tt
kept_ascends q (e ∷ pairs) ascends = elim (either (q e.1)) [
  | inl t ↦ rw t (above_kept q e.0 pairs ascends.0 ascends.1, kept_ascends q pairs ascends.1)
  | inr f ↦ rw f (kept_ascends q pairs ascends.1)
]
