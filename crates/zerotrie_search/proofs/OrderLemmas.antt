-- Keys in the order of bytes, and the edges that lead to them.
use Rattle.std.proofs.Common.{◌≡◌, ℕ, zero, suc, ◌<◌, ◌≤◌, List, [], ◌∷◌, ◌++◌, length, take, drop, refl, sym, ◌∙◌, ap, subst, arith, Option, Some, None, Bool, true, false, cond, inl, inr, Ordering, Less, Equal, Greater}
use Rattle.std.specs.Prelude.{slice_index, slice_index_or, slice_get, filter, not, ◌==◌, ◌&&◌, ◌≢◌}
use Rattle.std.proofs.lemmas.Bool.{eq-eqb, ne_eqb, cases_eq, cases_lt}
use Rattle.std.proofs.lemmas.List.{append-nil}
use Rattle.std.specs.Option.{option_map}
use Rattle.std.specs.FinMap.{nat_cmp-IsAntisymmetric}
use Rattle.std.specs.Cmp.{nat_cmp_total, nat_cmp_is, tied_itself}
use Rattle.std.specs.Cmp.Lexicographic.{slice_cmp}
use Rattle.std.specs.Ordering.{nat_cmp, is_le, ordering_then}
use Rattle.zerotrie_base.specs.Kind.{Kind, simple_ascii, fold_byte}
use Rattle.zerotrie_base.specs.Maps.{Pairs, value_at, same_key, residual, behind_all}
use Rattle.zerotrie_base.specs.Cursors.{met, edge_like}
use Rattle.zerotrie_core.specs.Machine.{nth_edge, Answer}
use Rattle.zerotrie_core.specs.Machine.Answer.{stepped, taken, probed}
use Rattle.zerotrie_core.specs.Places.{Place, ListsAt}
use Rattle.zerotrie_core.specs.CursorLaws.{StoredBytes}
use Rattle.zerotrie_core.proofs.CallerLemmas.{value_at-residual}
use Rattle.zerotrie_search.specs.Paths.{SameFrom, is_from}

-- edge number i that a probe returns
abbrev byte_in : Option (ℕ × ℕ) → ℕ
byte_in None = 0
byte_in (Some p) = p.0

abbrev count_in : Option (ℕ × ℕ) → ℕ
count_in None = 0
count_in (Some p) = p.1

pub some_none : {A : Type 0} (x : A) → Some x ≡ None → ⊥
some_none x e = absurd (cc)

numbered : (p : ℕ × ℕ) (i m : ℕ) (edges : List ℕ) → Some p ≡ option_map (λ x. (x, m)) (slice_get edges i) → (i < length edges) × (slice_index edges i ≡ p.0) × (m ≡ p.1)
numbered p i m [] e = absurd (some_none p e)
numbered p zero m (c ∷ edges) e = (omega arith, sym (ap byte_in e), sym (ap count_in e))
numbered p (suc i) m (c ∷ edges) e = let r = numbered p i m edges e in (omega (arith, r.0), r.1, r.2)

pub nth_is : (i : ℕ) (edges : List ℕ) (p : ℕ × ℕ) → Some p ≡ nth_edge i edges → (i < length edges) × (slice_index edges i ≡ p.0) × (length edges ≡ p.1)
nth_is i edges p e = numbered p i (length edges) edges e

-- the first byte of a key is an edge
abbrev pub Met : List ℕ → ℕ → Type 0
Met es c = (j : ℕ) × (j < length es) × (slice_index es j ≡ c)

met_later : (x : ℕ) (es : List ℕ) (c : ℕ) → Met es c → Met (x ∷ es) c
met_later x es c m = (suc m.0, omega (arith, m.1), m.2)

met_kept : (p : ℕ → Bool) (x : ℕ) (es : List ℕ) (c : ℕ) (t : Bool) → p x ≡ t → Met (filter p es) c → Met (filter p (x ∷ es)) c
met_kept p x es c true e m = rw e (met_later x (filter p es) c m)
met_kept p x es c false e m = rw e m

met_filter : (p : ℕ → Bool) (es : List ℕ) (c : ℕ) → p c ≡ true → (j : ℕ) → j < length es → slice_index es j ≡ c → Met (filter p es) c
met_filter p [] c keep j l is = absurd (omega arith)
met_filter p (x ∷ es) c keep zero l is = rw (ap p is ∙ keep) (0, omega arith, is)
met_filter p (x ∷ es) c keep (suc j) l is = met_kept p x es c (p x) refl (met_filter p es c keep j (omega arith) is)

pub met_key : (pairs : Pairs) (c : ℕ) (key : List ℕ) (v : ℕ) → value_at simple_ascii pairs (c ∷ key) ≡ Some v → Met (met pairs) c
met_key [] c key v e = absurd (some_none v (sym e))
met_key (([], w) ∷ pairs) c key v e = met_key pairs c key v e
met_key ((d ∷ k, w) ∷ pairs) c key v e = elim (cases_eq d c) [
  | inl same ↦ (0, omega arith, same)
  | inr other ↦ (
      let m = met_key pairs c key v (sym (ap (λ t. cond (t && same_key simple_ascii k key) (Some w) (value_at simple_ascii pairs (c ∷ key))) (ne_eqb d c other)) ∙ e) in
      met_later d (filter (λ x. not (x == d)) (met pairs)) c
      (met_filter (λ x. not (x == d)) (met pairs) c (rw (ne_eqb c d (λ s. other (sym s))) refl) m.0 m.1 m.2)
      )
]

kept : (x : ℕ) (fs es : List ℕ) (c : ℕ) → (Met fs c → Met es c) → Met (x ∷ fs) c → Met (x ∷ es) c
kept x fs es c h (zero, l, is) = (0, omega arith, is)
kept x fs es c h (suc j, l, is) = met_later x es c (h (j, omega (arith, l), is))

unfiltered : (x : ℕ) (fs es : List ℕ) (c : ℕ) (t : Bool) → (Met fs c → Met es c) → Met (cond t (x ∷ fs) fs) c → Met (x ∷ es) c
unfiltered x fs es c true h m = kept x fs es c h m
unfiltered x fs es c false h m = met_later x es c (h m)

unfilter : (p : ℕ → Bool) (es : List ℕ) (c : ℕ) → Met (filter p es) c → Met es c
unfilter p [] c m = absurd (omega (arith, m.1))
unfilter p (x ∷ es) c m = unfiltered x (filter p es) es c (p x) (unfilter p es c) m

cond_some : (t : Bool) (e : List ℕ × ℕ) (pairs : Pairs) → pairs ≢ [] → cond t (e ∷ pairs) pairs ≢ []
cond_some true e pairs some none = absurd (cc)
cond_some false e pairs some none = some none

head_leads : (d c : ℕ) (e : List ℕ × ℕ) (pairs : Pairs) (es : List ℕ) → Met (d ∷ es) c → (Met es c → pairs ≢ []) → cond (d == c) (e ∷ pairs) pairs ≢ []
head_leads d c e pairs es (zero, l, is) h none = absurd (let x : cond true (e ∷ pairs) pairs ≡ [] = subst (λ t. cond t (e ∷ pairs) pairs ≡ []) (eq-eqb d c is) none in cc)
head_leads d c e pairs es (suc j, l, is) h none = cond_some (d == c) e pairs (h (j, omega (arith, l), is)) none

-- an edge leads to some pair
pub edge_leads : (pairs : Pairs) (c : ℕ) → Met (met pairs) c → residual c pairs ≢ []
edge_leads [] c m none = absurd (omega (arith, m.1))
edge_leads (([], w) ∷ pairs) c m none = edge_leads pairs c m none
edge_leads ((d ∷ k, w) ∷ pairs) c m none =
    head_leads d c (k, w) (residual c pairs) (filter (λ x. not (x == d)) (met pairs)) m (λ n. edge_leads pairs c (unfilter (λ x. not (x == d)) (met pairs) c n)) none

-- comparisons by the first byte
pub from_low : (n c : ℕ) (x key : List ℕ) → c < n → is_from (n ∷ x) (c ∷ key) ≡ false
from_low n c x key h = ap (λ o. is_le (ordering_then o (slice_cmp nat_cmp x key))) (sym (nat_cmp_is n c Greater h))

pub from_high : (n c : ℕ) (x key : List ℕ) → n < c → is_from (n ∷ x) (c ∷ key) ≡ true
from_high n c x key h = ap (λ o. is_le (ordering_then o (slice_cmp nat_cmp x key))) (sym (nat_cmp_is n c Less h))

pub from_same : (n c : ℕ) (x key : List ℕ) → n ≡ c → is_from (n ∷ x) (c ∷ key) ≡ is_from x key
from_same n c x key h = ap (λ o. is_le (ordering_then o (slice_cmp nat_cmp x key))) (ap (nat_cmp n) (sym h) ∙ tied_itself nat_cmp_total n)

pub from_none : (key : List ℕ) → is_from [] key ≡ true
from_none [] = refl
from_none (c ∷ key) = refl

pub one_from : (n c : ℕ) (key : List ℕ) → n ≤ c → is_from (n ∷ []) (c ∷ key) ≡ true
one_from n c key h = elim (cases_eq n c) [ inl same ↦ from_same n c [] key same ∙ from_none key | inr other ↦ from_high n c [] key (omega (arith, h, other)) ]

then_le : (o s t : Ordering) → (o ≡ Equal → is_le s ≡ is_le t) → is_le (ordering_then o s) ≡ is_le (ordering_then o t)
then_le Less s t h = refl
then_le Equal s t h = h refl
then_le Greater s t h = refl

-- bounds that begin alike differ for no other keys
pub lift : (pairs : Pairs) (p x y : List ℕ) → SameFrom (behind_all p pairs) x y → SameFrom pairs (p ++ x) (p ++ y)
lift pairs [] x y h key v e = h key v e
lift pairs (b ∷ p) x y h [] v e = refl
lift pairs (b ∷ p) x y h (c ∷ key) v e =
    then_le (nat_cmp b c) (slice_cmp nat_cmp (p ++ x) key) (slice_cmp nat_cmp (p ++ y) key)
    (λ same. lift (residual b pairs) p x y h key v (value_at-residual b pairs key ∙ ap (λ d. value_at simple_ascii pairs (d ∷ key)) (nat_cmp-IsAntisymmetric b c same) ∙ e))

pub same_more : (pairs : Pairs) (x y z : List ℕ) → SameFrom pairs x y → SameFrom pairs y z → SameFrom pairs x z
same_more pairs x y z s t key v e = s key v e ∙ t key v e

pub behind_more : (p : List ℕ) (c : ℕ) (pairs : Pairs) → behind_all (p ++ c ∷ []) pairs ≡ residual c (behind_all p pairs)
behind_more [] c pairs = refl
behind_more (b ∷ p) c pairs = behind_more p c (residual b pairs)

-- past a place with no value
value_same : (pairs : Pairs) → value_at simple_ascii pairs [] ≡ None → SameFrom pairs [] (0 ∷ [])
value_same pairs none [] v e = absurd (some_none v (sym e ∙ none))
value_same pairs none (c ∷ key) v e = sym (one_from 0 c key (omega arith))

pub no_value : (pairs : Pairs) (p : List ℕ) → value_at simple_ascii (behind_all p pairs) [] ≡ None → SameFrom pairs p (p ++ 0 ∷ [])
no_value pairs p none = subst (λ x. SameFrom pairs x (p ++ 0 ∷ [])) (append-nil p) (lift pairs p [] (0 ∷ []) (value_same (behind_all p pairs) none))

-- past a byte that is no edge
byte_same : (pairs : Pairs) (c : ℕ) (more : List ℕ) → residual c pairs ≡ [] → SameFrom pairs (c ∷ more) (c ∷ [])
byte_same pairs c more none [] v e = refl
byte_same pairs c more none (d ∷ key) v e = elim (cases_eq c d) [
  | inl same ↦ absurd (some_none v (sym e ∙ ap (λ x. value_at simple_ascii pairs (x ∷ key)) (sym same) ∙ sym (value_at-residual c pairs key) ∙ ap (λ ps. value_at simple_ascii ps key) none))
  | inr other ↦ elim (cases_lt d c) [
    | inl low ↦ from_low c d more key low ∙ sym (from_low c d [] key low)
    | inr high ↦ from_high c d more key (omega (arith, high, other)) ∙ sym (from_high c d [] key (omega (arith, high, other)))
  ]
]

pub no_byte : (pairs : Pairs) (p : List ℕ) (c : ℕ) (more : List ℕ) → residual c (behind_all p pairs) ≡ [] → SameFrom pairs (p ++ c ∷ more) (p ++ c ∷ [])
no_byte pairs p c more none = lift pairs p (c ∷ more) (c ∷ []) (byte_same (behind_all p pairs) c more none)

-- the value of a key is that of the empty key behind it
pub value_behind : (p : List ℕ) (pairs : Pairs) → value_at simple_ascii (behind_all p pairs) [] ≡ value_at simple_ascii pairs p
value_behind [] pairs = refl
value_behind (b ∷ p) pairs = value_behind p (residual b pairs) ∙ value_at-residual b pairs p

-- the value of the empty key is the same to each kind
pub value_exact : (kind : Kind) (pairs : Pairs) → value_at kind pairs [] ≡ value_at simple_ascii pairs []
value_exact kind [] = refl
value_exact kind (([], v) ∷ pairs) = refl
value_exact kind ((b ∷ key, v) ∷ pairs) = value_exact kind pairs

-- a value that was found in front of the pairs behind a key is the key's
pub value_here : (kind : Kind) (p : List ℕ) (pairs : Pairs) → value_at kind (behind_all p pairs) [] ≡ value_at simple_ascii pairs p
value_here kind p pairs = value_exact kind (behind_all p pairs) ∙ value_behind p pairs

-- a step by a byte that returns another edge, or none: no key begins with the byte
Within : Pairs → List ℕ × ℕ → Type 0
Within pairs e = (k : ℕ) × (k < length pairs) × (slice_index_or pairs k e ≡ e)

within_later : (f e : List ℕ × ℕ) (pairs : Pairs) → Within pairs e → Within (f ∷ pairs) e
unfolding Within
within_later f e pairs w = (suc w.0, omega (arith, w.1), w.2)

first_pair : List ℕ × ℕ → Pairs → List ℕ × ℕ
first_pair d [] = d
first_pair d (e ∷ pairs) = e

residual_within : (b : ℕ) (pairs : Pairs) (e : List ℕ × ℕ) (more : Pairs) → residual b pairs ≡ e ∷ more → Within pairs (b ∷ e.0, e.1)
unfolding Within first_pair
residual_within b [] e more is = absurd (cc)
residual_within b (([], v) ∷ pairs) e more is = within_later ([], v) (b ∷ e.0, e.1) pairs (residual_within b pairs e more is)
residual_within b ((c ∷ k, v) ∷ pairs) e more is = elim (cases_eq c b) [
  | inl same ↦ (
      let here : (k, v) ≡ e = ap (first_pair e) (sym (ap (λ t. cond t ((k, v) ∷ residual b pairs) (residual b pairs)) (eq-eqb c b same)) ∙ is) in
      (0, omega arith, ap (λ x. (x ∷ k, v)) same ∙ ap (λ x. (b ∷ x.0, x.1)) here)
      )
  | inr other ↦ within_later (c ∷ k, v) (b ∷ e.0, e.1) pairs (residual_within b pairs e more (sym (ap (λ t. cond t ((k, v) ∷ residual b pairs) (residual b pairs)) (ne_eqb c b other)) ∙ is))
]

same_itself : (kind : Kind) (key : List ℕ) → same_key kind key key ≡ true
same_itself kind [] = refl
same_itself kind (b ∷ key) = ap (λ t. t && same_key kind key key) (eq-eqb (fold_byte kind b) (fold_byte kind b) refl) ∙ same_itself kind key

edge_in : List Answer → Option ℕ
edge_in [] = None
edge_in (stepped edge ∷ more) = edge
edge_in (taken v ∷ more) = None
edge_in (probed e ∷ more) = None

pub not_stored : StoredBytes → (kind : Kind) (place : Place) (pairs : Pairs) → ListsAt kind place pairs → (b : ℕ) → (edge_like kind b (met pairs) ≡ Some b → ⊥) → residual b pairs ≡ []
unfolding edge_in Within
not_stored law kind place pairs lists b other = by (residual b pairs) refl
  where
    by : (ps : Pairs) → residual b pairs ≡ ps → ps ≡ []
    by [] is = refl
    by (e ∷ more) is =
        let w = residual_within b pairs e more is in
        absurd (other (ap edge_in (law kind place pairs lists (b ∷ e.0) (b ∷ e.0) e.1 w (same_itself kind (b ∷ e.0)))))

-- a list at one of its places
pub split_at : (xs : List ℕ) (i : ℕ) → i < length xs → xs ≡ take i xs ++ slice_index xs i ∷ drop (suc i) xs
split_at [] i l = absurd (omega arith)
split_at (x ∷ xs) zero l = refl
split_at (x ∷ xs) (suc i) l = ap (λ ys. x ∷ ys) (split_at xs i (omega arith))

pub take_more : (xs : List ℕ) (i : ℕ) → i < length xs → take (suc i) xs ≡ take i xs ++ slice_index xs i ∷ []
take_more [] i l = absurd (omega arith)
take_more (x ∷ xs) zero l = refl
take_more (x ∷ xs) (suc i) l = ap (λ ys. x ∷ ys) (take_more xs i (omega arith))
