use Rattle.std.proofs.Common.{◌≡◌, ℕ, zero, suc, ◌+◌, ◌^◌, ◌<◌, ◌≤◌, List, [], ◌∷◌, ◌++◌, length, get_or, take, arith, refl, ap, ◌∙◌, sym, Some, slice_get, All, Bool, true, false, IsTrue, ◌↔◌, Fits, w8, subst, inl, inr, Option, None}
use Rattle.std.proofs.lemmas.List.{get_or_default, get_or_past}
use Rattle.std.proofs.lemmas.Bool.{cases_lt}
use Rattle.std.proofs.lemmas.Option.{slice_get-map, slice_get-get_or, slice_get_within, get_or_from_slice_get}
use Rattle.std.proofs.lemmas.Grind.{common_steps}
use Rattle.std.specs.Borrow.{Bor}
use Rattle.std.proofs.Math.Nat.{eq-or-lt_of_le}
use Rattle.std.specs.Str.{IsAscii, IsNotAscii}
use Rattle.std.specs.Bool.{MatchBool}
use Rattle.std.specs.Cmp.Lexicographic.{slice_cmp}
use Rattle.std.specs.Ordering.{nat_cmp}
use Rattle.std.specs.Prelude.{option_map, is_some, not, IfSome, IfNone}
use Rattle.std.specs.declared.cmp.Ordering.TheVariants.{Less}
use Rattle.zerotrie_base.specs.Kind.{Kind, simple_ascii, ignore_case, perfect_hash, extended_capacity, flags, edge_limit}
use Rattle.zerotrie_base.specs.Maps.{Pairs, Ascends}
use Rattle.zerotrie_base.specs.Items.{Items, pairs_of}
use Rattle.zerotrie_build.specs.Order.{Before, Ordered}

pub count_pairs : (items : Items) → length (pairs_of items) ≡ length items
count_pairs [] = refl
count_pairs (e ∷ items) = ap suc (count_pairs items)

-- the item at a place, as a pair
pub item_at : (items : Items) (i : ℕ) (d : Bor (List ℕ) × ℕ) → i < length (pairs_of items)
    → slice_get (pairs_of items) i ≡ Some ((get_or items i d).0.now, (get_or items i d).1)
item_at items i d h =
    let f : (Bor (List ℕ) × ℕ) → (List ℕ × ℕ) = λ e. (e.0.now, e.1) in
    let n = count_pairs items in
    let k : i < length items = omega arith in
    slice_get-map f items i ∙ ap (option_map f) (slice_get-get_or items i d k)

-- the keys at two places that follow one another are in this order
abbrev pub Follows : (List ℕ → List ℕ → Type 0) → Pairs → ℕ → Type 0
Follows R pairs k = R (get_or pairs k ([], 0)).0 (get_or pairs (suc k) ([], 0)).0

abbrev pub Below : List ℕ → List ℕ → Type 0
Below key next = slice_cmp nat_cmp key next ≡ Less

pub ascends_each : (pairs : Pairs) → ((k : ℕ) → suc k < length pairs → Follows Below pairs k) → Ascends pairs
ascends_each [] h = tt
ascends_each (e ∷ []) h = (tt, tt)
ascends_each (e ∷ f ∷ pairs) h =
    (h 0 (omega arith), ascends_each (f ∷ pairs) (λ k below. h (suc k) (let g : suc k < suc (length pairs) = below in omega (arith, g))))

pub each_ascends : (pairs : Pairs) (k : ℕ) → Ascends pairs → suc k < length pairs → Follows Below pairs k
each_ascends [] k a h = let g : suc k < 0 = h in absurd (omega (arith, g))
each_ascends (e ∷ []) k a h = let g : suc k < 1 = h in absurd (omega (arith, g))
each_ascends (e ∷ f ∷ pairs) zero a h = a.0
each_ascends (e ∷ f ∷ pairs) (suc k) a h = each_ascends (f ∷ pairs) k a.1 (let g : suc (suc k) < suc (suc (length pairs)) = h in let r : suc k < suc (length pairs) = omega (arith, g) in r)

pub ordered_each : (kind : Kind) (pairs : Pairs) → ((k : ℕ) → suc k < length pairs → Follows (Before kind) pairs k) → Ordered kind pairs
ordered_each kind [] h = tt
ordered_each kind (e ∷ []) h = (tt, tt)
ordered_each kind (e ∷ f ∷ pairs) h =
    (h 0 (omega arith), ordered_each kind (f ∷ pairs) (λ k below. h (suc k) (let g : suc k < suc (length pairs) = below in omega (arith, g))))

pub each_ordered : (kind : Kind) (pairs : Pairs) (k : ℕ) → Ordered kind pairs → suc k < length pairs → Follows (Before kind) pairs k
each_ordered kind [] k a h = let g : suc k < 0 = h in absurd (omega (arith, g))
each_ordered kind (e ∷ []) k a h = let g : suc k < 1 = h in absurd (omega (arith, g))
each_ordered kind (e ∷ f ∷ pairs) zero a h = a.0
each_ordered kind (e ∷ f ∷ pairs) (suc k) a h = each_ordered kind (f ∷ pairs) k a.1 (let g : suc (suc k) < suc (suc (length pairs)) = h in let r : suc k < suc (length pairs) = omega (arith, g) in r)

-- what a `get` reads
pub got : (pairs : Pairs) (i : ℕ) (d a : List ℕ × ℕ) → slice_get pairs i ≡ Some a → get_or pairs i d ≡ a
got pairs i d a h = get_or_from_slice_get pairs i a d h

pub follows_on : (R : List ℕ → List ℕ → Type 0) (pairs : Pairs) (j i : ℕ) (a b : List ℕ × ℕ) → suc j ≡ i → slice_get pairs j ≡ Some a → slice_get pairs i ≡ Some b
    → R a.0 b.0 → ((k : ℕ) → suc k < i → Follows R pairs k) → (k : ℕ) → suc k < i + 1 → Follows R pairs k
follows_on R pairs j i a b e p q h before k below =
    let at_i : get_or pairs (suc j) ([], 0) ≡ b = rw e (got pairs i ([], 0) b q) in
    let here : Follows R pairs j = rw (got pairs j ([], 0) a p, at_i) h in
    let le : k ≤ j = omega arith in
    elim (eq-or-lt_of_le le) [
      | inl same ↦ subst (Follows R pairs) (sym same) here
      | inr less ↦ before k (omega arith)
    ]

pub not_ascii : (pairs : Pairs) (i : ℕ) (a : List ℕ × ℕ) → slice_get pairs i ≡ Some a → IsNotAscii a.0
    → All (λ e. All (λ b. b < 128) e.0) pairs → ⊥
not_ascii pairs i a p h all =
    let here : All (λ b. b < 128) a.0 = subst (λ x. All (λ b. b < 128) x.0) (got pairs i a a p) (all i a (slice_get_within pairs i a p)) in
    elim (cases_lt h.0 (length a.0)) [
      | inl within ↦ let low : get_or a.0 h.0 0 < 128 = here h.0 0 within in let high : 128 ≤ get_or a.0 h.0 0 = h.1 in omega arith
      | inr past ↦ let zero_there : get_or a.0 h.0 0 ≡ 0 = get_or_past a.0 h.0 0 past in let high : 128 ≤ get_or a.0 h.0 0 = h.1 in omega arith
    ]

pub take_one_more : (pairs : Pairs) (i : ℕ) (a : List ℕ × ℕ) → slice_get pairs i ≡ Some a → take (i + 1) pairs ≡ take i pairs ++ a ∷ []
take_one_more pairs i a h = grind (arith, common_steps, got pairs i a a h, slice_get_within pairs i a h)

-- any byte may be an edge if there are spans, and an ASCII byte alone if there are none
pub limit_high : (kind : Kind) → (flags kind).spans ≡ true → edge_limit kind ≡ 256
limit_high simple_ascii h = absurd (cc)
limit_high ignore_case h = absurd (cc)
limit_high perfect_hash h = refl
limit_high extended_capacity h = refl

pub limit_low : (kind : Kind) → (flags kind).spans ≡ false → edge_limit kind ≡ 128
limit_low simple_ascii h = refl
limit_low ignore_case h = refl
limit_low perfect_hash h = absurd (cc)
limit_low extended_capacity h = absurd (cc)

-- bytes that were read
pub any_byte : (key : List ℕ) → ((i : ℕ) → Fits w8 (get_or key i 0)) → All (λ b. b < 256) key
any_byte key fits k d below = rw (get_or_default key k d 0 below) (omega (arith, fits k))

-- what a test for ASCII says of the bytes
pub ascii_by : (r : Bool) (key : List ℕ) → MatchBool r (IsAscii key) (IsNotAscii key) → IsTrue r ↔ All (λ b. b < 128) key
ascii_by true key h = (λ t k d below. rw (get_or_default key k d 0 below) (h k), λ all. refl)
ascii_by false key h = (
  λ t. cc,
  λ all. elim (cases_lt h.0 (length key)) [
    | inl within ↦ let low : get_or key h.0 0 < 128 = all h.0 0 within in let high : 128 ≤ get_or key h.0 0 = h.1 in absurd (omega arith)
    | inr past ↦ let zero_there : get_or key h.0 0 ≡ 0 = get_or_past key h.0 0 past in let high : 128 ≤ get_or key h.0 0 = h.1 in absurd (omega arith)
  ],
)

-- what held of the keys so far and holds of the next
pub each_on : (P : List ℕ → Type 0) (pairs : Pairs) (i : ℕ) (a : List ℕ × ℕ) → slice_get pairs i ≡ Some a → ((k : ℕ) (d : List ℕ × ℕ) → k < i → P (get_or pairs k d).0)
    → P a.0 → (k : ℕ) (d : List ℕ × ℕ) → k < i + 1 → P (get_or pairs k d).0
each_on P pairs i a p before here k d below =
    let le : k ≤ i = omega arith in
    elim (eq-or-lt_of_le le) [
      | inl same ↦ subst (λ x. P (get_or pairs x d).0) (sym same) (subst (λ x. P x.0) (sym (got pairs i d a p)) here)
      | inr less ↦ before k d less
    ]

pub keys_on : (limit : ℕ) (pairs : Pairs) (i : ℕ) (a : List ℕ × ℕ) → slice_get pairs i ≡ Some a → ((k : ℕ) (d : List ℕ × ℕ) → k < i → All (λ b. b < limit) (get_or pairs k d).0)
    → All (λ b. b < limit) a.0 → (k : ℕ) (d : List ℕ × ℕ) → k < i + 1 → All (λ b. b < limit) (get_or pairs k d).0
keys_on limit = each_on (All (λ b. b < limit))

pub values_on : (pairs : Pairs) (i : ℕ) (a : List ℕ × ℕ) → slice_get pairs i ≡ Some a → ((k : ℕ) (d : List ℕ × ℕ) → k < i → (get_or pairs k d).1 < 2 ^ 64)
    → a.1 < 2 ^ 64 → (k : ℕ) (d : List ℕ × ℕ) → k < i + 1 → (get_or pairs k d).1 < 2 ^ 64
values_on pairs i a p before here k d below =
    let le : k ≤ i = omega arith in
    elim (eq-or-lt_of_le le) [
      | inl same ↦ subst (λ x. (get_or pairs x d).1 < 2 ^ 64) (sym same) (subst (λ x. x.1 < 2 ^ 64) (sym (got pairs i d a p)) here)
      | inr less ↦ before k d less
    ]

-- a search found nothing, and then this holds
pub none_holds : {X P : Type 0} (found : Option X) (none : Bool) → is_some found ≡ not none → IfNone found P → IsTrue none → P
none_holds None none e p t = p
none_holds (Some x) true e p t = let f : true ≡ false = e in absurd (cc)
none_holds (Some x) false e p t = let f : false ≡ true = t in absurd (cc)

-- and it does not if something was found
pub none_found : {X P : Type 0} (found : Option X) (none : Bool) → is_some found ≡ not none → IfSome found (λ x. P → ⊥) → IfNone found P → IsTrue none ↔ P
none_found None true e some p = (λ t. p, λ q. refl)
none_found None false e some p = let f : false ≡ true = e in absurd (cc)
none_found (Some x) none e some p = (none_holds (Some x) none e p, λ q. absurd (some q))
