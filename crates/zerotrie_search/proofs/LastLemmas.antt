-- The last pair up to a bound.
use Rattle.std.proofs.Common.{◌≡◌, ℕ, suc, ◌<◌, ◌≤◌, List, [], ◌∷◌, ◌++◌, length, refl, sym, ◌∙◌, ap, subst, arith, Option, Some, None, Bool, true, false, cond, inl, inr, Ordering, Less, Equal, Greater}
use Rattle.std.specs.Prelude.{T, filter, not, ◌&&◌, ◌⊎◌, ◌≢◌}
use Rattle.std.proofs.lemmas.Bool.{cases_eq, cases_lt}
use Rattle.std.proofs.lemmas.List.{append-nil}
use Rattle.std.specs.Cmp.{tied_itself, nat_cmp_total, nat_cmp_is}
use Rattle.std.specs.Cmp.Lexicographic.{slice_cmp, nat_list_cmp_total}
use Rattle.std.specs.FinMap.{entries, find, is_sorted, entries_sorted, nat_cmp-IsAntisymmetric}
use Rattle.std.specs.Option.{option_map, option_or}
use Rattle.std.specs.FinMap.Entries.{below_all}
use Rattle.std.specs.Ordering.{match_ordering, nat_cmp, is_le, is_lt, ordering_then, ordering_reverse, eq_by_cmp}
use Rattle.std.specs.Range.Bound.{is_from_start, is_up_to_end, bounds_contain}
use Rattle.std.specs.declared.ops.Bound.{Bound}
use Rattle.std.specs.declared.ops.Bound.TheVariants.{Included, Excluded, Unbounded}
use Rattle.zerotrie_base.specs.Kind.{Kind, simple_ascii}
use Rattle.zerotrie_base.specs.Cursors.{met}
use Rattle.zerotrie_base.specs.Maps.{Pairs, map_of, value_at, residual, behind_all}
use Rattle.zerotrie_base.specs.Texts.{Lists}
use Rattle.zerotrie_core.proofs.CallerLemmas.{same-entries, value_at-residual}
use Rattle.zerotrie_search.specs.Sets.{by_bytes}
use Rattle.zerotrie_search.specs.Sorted.{within, last_of}
use Rattle.zerotrie_search.specs.Paths.{is_from, IsFollowed}
use Rattle.zerotrie_search.specs.Lasts.{GreatestOf, Agree, IsEnd, IsLastIn, ReachesLast, is_beyond, is_past}
use Rattle.zerotrie_search.proofs.OrderLemmas.{met_key, from_low, from_none, one_from, some_none, value_here}
use Rattle.zerotrie_search.proofs.LeftLemmas.{value_find, filter_none, filter_alike, above_is, alike_keys, tied_same, le_more, first_T, second_T}

pub agree_more : (pairs : Pairs) (p q r : List ℕ → Bool) → Agree pairs p q → Agree pairs q r → Agree pairs p r
agree_more pairs p q r s t key v e = s key v e ∙ t key v e

-- tests of keys that begin with one more byte
from_step : (b c : ℕ) (x key : List ℕ) → is_from (b ∷ x) (c ∷ key) ≡ match_ordering (nat_cmp b c) true (is_from x key) false
from_step b c x key = by (nat_cmp b c)
  where
    by : (o : Ordering) → is_le (ordering_then o (slice_cmp nat_cmp x key)) ≡ match_ordering o true (is_from x key) false
    by Less = refl
    by Equal = refl
    by Greater = refl

past_step : (b c : ℕ) (front key : List ℕ) (limit : Option ℕ) → is_past (b ∷ front) limit (c ∷ key) ≡ match_ordering (nat_cmp b c) true (is_past front limit key) false
past_step b c front key None = refl
past_step b c front key (Some n) = from_step b c (front ++ n ∷ []) key

past_nil : (b : ℕ) (front : List ℕ) (limit : Option ℕ) → is_past (b ∷ front) limit [] ≡ false
past_nil b front None = refl
past_nil b front (Some n) = refl

match_alike : (o : Ordering) (s t : Bool) → (o ≡ Equal → s ≡ t) → match_ordering o true s false ≡ match_ordering o true t false
match_alike Less s t h = refl
match_alike Equal s t h = h refl
match_alike Greater s t h = refl

-- tests that agree behind a front agree on the keys that begin with it
lift_beyond : (pairs : Pairs) (front : List ℕ) (limit : Option ℕ) (x : List ℕ) → Agree (behind_all front pairs) (is_past [] limit) (is_beyond x) → Agree pairs (is_past front limit) (is_beyond (front ++ x))
lift_beyond pairs [] limit x h key v e = h key v e
lift_beyond pairs (b ∷ front) limit x h [] v e = past_nil b front limit
lift_beyond pairs (b ∷ front) limit x h (c ∷ key) v e =
    past_step b c front key limit
    ∙ match_alike (nat_cmp b c) (is_past front limit key) (is_beyond (front ++ x) key)
    (λ same. lift_beyond (residual b pairs) front limit x h key v (value_at-residual b pairs key ∙ ap (λ d. value_at simple_ascii pairs (d ∷ key)) (nat_cmp-IsAntisymmetric b c same) ∙ e))

lift_from : (pairs : Pairs) (front : List ℕ) (limit : Option ℕ) (x : List ℕ) → Agree (behind_all front pairs) (is_past [] limit) (is_from x) → Agree pairs (is_past front limit) (is_from (front ++ x))
lift_from pairs [] limit x h key v e = h key v e
lift_from pairs (b ∷ front) limit x h [] v e = past_nil b front limit
lift_from pairs (b ∷ front) limit x h (c ∷ key) v e =
    past_step b c front key limit
    ∙ match_alike (nat_cmp b c) (is_past front limit key) (is_from (front ++ x) key)
    (λ same. lift_from (residual b pairs) front limit x h key v (value_at-residual b pairs key ∙ ap (λ d. value_at simple_ascii pairs (d ∷ key)) (nat_cmp-IsAntisymmetric b c same) ∙ e))
    ∙ sym (from_step b c (front ++ x) key)

beyond_high : (n c : ℕ) (x key : List ℕ) → n < c → is_beyond (n ∷ x) (c ∷ key) ≡ true
beyond_high n c x key h = ap (λ o. match_ordering o true (is_beyond x key) false) (sym (nat_cmp_is n c Less h))

one_beyond : (n c : ℕ) (key : List ℕ) → c ≤ n → is_beyond (n ∷ []) (c ∷ key) ≡ false
one_beyond n c key h = elim (cases_eq n c) [
  | inl same ↦ ap (λ o. match_ordering o true false false) (ap (nat_cmp n) (sym same) ∙ tied_itself nat_cmp_total n)
  | inr other ↦ ap (λ o. match_ordering o true false false) (sym (nat_cmp_is n c Greater (omega (arith, h, other))))
]

first_nil : (limit : Option ℕ) → is_past [] limit [] ≡ false
first_nil None = refl
first_nil (Some n) = refl

-- at the greatest edge below the limit
at_edge : (pairs : Pairs) (limit : Option ℕ) (b : ℕ) → GreatestOf (met pairs) (length (met pairs)) limit (Some b) → Agree pairs (is_past [] limit) (is_beyond (b ∷ []))
at_edge pairs limit b most [] v e = first_nil limit
at_edge pairs None b most (c ∷ key) v e =
    let m = met_key pairs c key v e in
    sym (one_beyond b c key (subst (λ d. d ≤ b) m.2 (most.2 m.0 m.1 tt)))
at_edge pairs (Some n) b most (c ∷ key) v e =
    let m = met_key pairs c key v e in
    elim (cases_lt c n) [
      | inl low ↦ from_low n c [] key low ∙ sym (one_beyond b c key (subst (λ d. d ≤ b) m.2 (most.2 m.0 m.1 (subst (λ d. d < n) (sym m.2) low))))
      | inr high ↦ one_from n c key (omega (arith, high)) ∙ sym (beyond_high b c [] key (omega (arith, most.0, high)))
    ]

-- with no edge below the limit
at_value : (pairs : Pairs) (limit : Option ℕ) → GreatestOf (met pairs) (length (met pairs)) limit None → Agree pairs (is_past [] limit) (is_from (0 ∷ []))
at_value pairs limit none [] v e = first_nil limit
at_value pairs None none (c ∷ key) v e = let m = met_key pairs c key v e in absurd (none m.0 m.1 tt)
at_value pairs (Some n) none (c ∷ key) v e =
    let m = met_key pairs c key v e in
    elim (cases_lt c n) [ inl low ↦ absurd (none m.0 m.1 (subst (λ d. d < n) (sym m.2) low)) | inr high ↦ one_from n c key (omega (arith, high)) ∙ sym (one_from 0 c key (omega arith)) ]

-- and with no value either
at_none : (pairs : Pairs) (limit : Option ℕ) → GreatestOf (met pairs) (length (met pairs)) limit None → value_at simple_ascii pairs [] ≡ None → Agree pairs (is_past [] limit) (is_from [])
at_none pairs limit none empty [] v e = absurd (some_none v (sym e ∙ empty))
at_none pairs limit none empty (c ∷ key) v e = at_value pairs limit none (c ∷ key) v e ∙ one_from 0 c key (omega arith) ∙ sym (from_none (c ∷ key))

pub to_last_edge : (pairs : Pairs) (front : List ℕ) (limit : Option ℕ) (b : ℕ) → GreatestOf (met (behind_all front pairs)) (length (met (behind_all front pairs))) limit (Some b) → Agree pairs (is_past front limit) (is_beyond (front ++ b ∷ []))
to_last_edge pairs front limit b most = lift_beyond pairs front limit (b ∷ []) (at_edge (behind_all front pairs) limit b most)

pub to_value : (pairs : Pairs) (front : List ℕ) (limit : Option ℕ) → GreatestOf (met (behind_all front pairs)) (length (met (behind_all front pairs))) limit None → Agree pairs (is_past front limit) (is_from (front ++ 0 ∷ []))
to_value pairs front limit none = lift_from pairs front limit (0 ∷ []) (at_value (behind_all front pairs) limit none)

pub to_place : (pairs : Pairs) (front : List ℕ) (limit : Option ℕ) → GreatestOf (met (behind_all front pairs)) (length (met (behind_all front pairs))) limit None → value_at simple_ascii (behind_all front pairs) [] ≡ None
    → Agree pairs (is_past front limit) (is_from front)
to_place pairs front limit none empty = subst (λ x. Agree pairs (is_past front limit) (is_from x)) (append-nil front) (lift_from pairs front limit [] (at_none (behind_all front pairs) limit none empty))

-- with no edge and no value there is no pair
pub empty_there : (kind : Kind) (pairs : Pairs) → value_at kind pairs [] ≡ None → GreatestOf (met pairs) (length (met pairs)) None None → pairs ≡ []
empty_there kind [] empty none = refl
empty_there kind (([], v) ∷ pairs) empty none = absurd (some_none v empty)
empty_there kind ((c ∷ key, v) ∷ pairs) empty none = absurd (none 0 (omega arith) tt)

-- a last pair up to an end is the last up to the same end, said otherwise
pub last_from : (pairs : Pairs) (p q : List ℕ → Bool) (key : List ℕ) (found : Option ℕ) → Agree pairs p q → IsLastIn pairs q key found → IsLastIn pairs p key found
last_from pairs p q key None s h = agree_more pairs p q (λ _. true) s h
last_from pairs p q key (Some v) s h = (h.0, agree_more pairs p q (is_from (key ++ 0 ∷ [])) s h.1)

not_not : (b : Bool) → b ≡ not (not b)
not_not true = refl
not_not false = refl

-- the keys that are past an end are past it where its path was left
nothing_from : (key x : List ℕ) → ((tail : List ℕ) → is_from tail key ≡ is_from x key) → ⊥
nothing_from [] x h = absurd (let a : true ≡ is_from x [] = h [] in let b : false ≡ is_from x [] = h (0 ∷ []) in cc)
nothing_from (c ∷ key) x h =
    absurd
    (let a : is_from [] (c ∷ key) ≡ is_from x (c ∷ key) = h [] in
    let b : is_from (suc c ∷ []) (c ∷ key) ≡ is_from x (c ∷ key) = h (suc c ∷ []) in
    let low : is_from (suc c ∷ []) (c ∷ key) ≡ false = from_low (suc c) c [] key (omega arith) in
    let high : is_from [] (c ∷ key) ≡ true = from_none (c ∷ key) in
    cc)

module _ {kind : Kind} {bytes : List ℕ} {pairs : Pairs} (lists : Lists kind bytes pairs) where
  pub followed_past : (sought key : List ℕ) (next limit : Option ℕ) → (limit ≡ None → sought ≡ []) → IsFollowed kind bytes sought key next → Agree pairs (is_past sought limit) (is_past key (option_or next limit))
  followed_past sought key None limit h is = λ q v e. ap (λ x. is_past x limit q) (sym is)
  followed_past sought key (Some c) (Some n) h same = λ q v e. same pairs lists (n ∷ []) q v e
  followed_past sought key (Some c) None h same = λ q v e. absurd
      (nothing_from q (key ++ c ∷ []) (λ tail. ap (λ x. is_from (x ++ tail) q) (sym (h refl)) ∙ same pairs lists tail q v e))

  pub last_in : (to : Bound (List ℕ)) (sought front key : List ℕ) (next limit found : Option ℕ) → IsEnd to (Some (sought, limit)) → IsFollowed kind bytes sought front next → ReachesLast kind bytes (is_past front (option_or next limit)) key found
      → IsLastIn pairs (λ q. not (is_up_to_end by_bytes to q)) key found
  last_in to sought front key next limit found end is reached =
      last_from pairs (λ q. not (is_up_to_end by_bytes to q)) (is_past front (option_or next limit)) key found
      (λ q v e. ap not (end.0 q) ∙ sym (not_not (is_past sought limit q)) ∙ followed_past sought front next limit end.1 is q v e) (reached pairs lists)

-- a pair that was found at the end of a path of greatest edges
pub last_here : (kind : Kind) (pairs : Pairs) (front key : List ℕ) (found : Option ℕ) → found ≡ value_at kind (behind_all key pairs) [] → GreatestOf (met (behind_all key pairs)) (length (met (behind_all key pairs))) None None
    → behind_all key pairs ≢ [] → Agree pairs (is_beyond front) (is_beyond key) → IsLastIn pairs (is_beyond front) key found
last_here kind pairs front key None e none some s = absurd (some (empty_there kind (behind_all key pairs) (sym e) none))
last_here kind pairs front key (Some v) e none some s = (sym (e ∙ value_here kind key pairs), agree_more pairs (is_beyond front) (is_beyond key) (is_from (key ++ 0 ∷ [])) s (to_value pairs key None none))

-- the ends of bounds
rev_lt : (o : Ordering) → is_lt (ordering_reverse o) ≡ not (is_le o)
rev_lt Less = refl
rev_lt Equal = refl
rev_lt Greater = refl

rev_le : (o : Ordering) → is_le (ordering_reverse o) ≡ not (is_lt o)
rev_le Less = refl
rev_le Equal = refl
rev_le Greater = refl

none_less : (q : List ℕ) → is_lt (slice_cmp nat_cmp q []) ≡ false
none_less [] = refl
none_less (c ∷ q) = refl

pub end_included : (b : List ℕ) → IsEnd (Included b) (Some (b, Some 0))
end_included b = ((λ q. ap is_le (nat_list_cmp_total.antisymm q b) ∙ rev_le (slice_cmp nat_cmp b q) ∙ ap not (sym (above_is b q))), (λ e. absurd (some_none 0 e)))

pub end_excluded : (b front : List ℕ) (last : ℕ) → b ≡ front ++ last ∷ [] → IsEnd (Excluded b) (Some (front, Some last))
end_excluded b front last is = ((λ q. ap is_lt (nat_list_cmp_total.antisymm q b) ∙ rev_lt (slice_cmp nat_cmp b q) ∙ ap (λ x. not (is_from x q)) is), (λ e. absurd (some_none last e)))

pub end_empty : (b : List ℕ) → length b ≡ 0 → IsEnd (Excluded b) None
end_empty [] none = λ q. none_less q
end_empty (c ∷ b) none = absurd (omega (arith, none))

-- the last of some pairs
last_more : (e : List ℕ × ℕ) (es : Pairs) (r : List ℕ × ℕ) → last_of es ≡ Some r → last_of (e ∷ es) ≡ Some r
last_more e [] r h = absurd (some_none r (sym h))
last_more e (f ∷ es) r h = h

last_cond : (t : Bool) (e : List ℕ × ℕ) (es : Pairs) (r : List ℕ × ℕ) → last_of es ≡ Some r → last_of (cond t (e ∷ es) es) ≡ Some r
last_cond true e es r h = last_more e es r h
last_cond false e es r h = h

and_false : (a : Bool) → (a && false) ≡ false
and_false true = refl
and_false false = refl

T_true : (b : Bool) → T b → b ≡ true
T_true true h = refl
T_true false h = absurd h

-- whether a key is chosen, if it is at most another
abbrev up_to : (List ℕ → Bool) → List ℕ → List ℕ → Bool
up_to f key q = f q && not (is_from (key ++ 0 ∷ []) q)

above_none : (es : Pairs) (f : List ℕ → Bool) (key : List ℕ) → T (below_all (slice_cmp nat_cmp) key es) → filter (λ e. up_to f key e.0) es ≡ []
above_none [] f key h = refl
above_none (e ∷ es) f key h =
    let above = first_T (is_lt (slice_cmp nat_cmp key e.0)) (below_all (slice_cmp nat_cmp) key es) h in
    let drops : up_to f key e.0 ≡ false = ap (λ t. f e.0 && not t) (above_is key e.0 ∙ T_true (is_lt (slice_cmp nat_cmp key e.0)) above) ∙ and_false (f e.0) in
    ap (λ t. cond t (e ∷ filter (λ e. up_to f key e.0) es) (filter (λ e. up_to f key e.0) es)) drops ∙ above_none es f key (second_T (is_lt (slice_cmp nat_cmp key e.0)) (below_all (slice_cmp nat_cmp) key es) h)

itself_kept : (f : List ℕ → Bool) (key : List ℕ) → f key ≡ true → up_to f key key ≡ true
itself_kept f key h = ap (λ t. t && not (is_from (key ++ 0 ∷ []) key)) h ∙ ap not (above_is key key ∙ ap is_lt (tied_itself nat_list_cmp_total key))

last_sorted : (es : Pairs) → T (is_sorted (slice_cmp nat_cmp) es) → (f : List ℕ → Bool) (key : List ℕ) (v : ℕ) → find (slice_cmp nat_cmp) key es ≡ Some v → f key ≡ true → last_of (filter (λ e. up_to f key e.0) es) ≡ Some (key, v)
last_sorted [] up f key v here passes = absurd (some_none v (sym here))
last_sorted (e ∷ es) up f key v here passes =
    by (eq_by_cmp (slice_cmp nat_cmp) key e.0) refl (λ later. last_sorted es (second_T (below_all (slice_cmp nat_cmp) e.0 es) (is_sorted (slice_cmp nat_cmp) es) up) f key v later passes)
  where
    by : (t : Bool) → eq_by_cmp (slice_cmp nat_cmp) key e.0 ≡ t → (find (slice_cmp nat_cmp) key es ≡ Some v → last_of (filter (λ e. up_to f key e.0) es) ≡ Some (key, v))
        → last_of (cond (up_to f key e.0) (e ∷ filter (λ e. up_to f key e.0) es) (filter (λ e. up_to f key e.0) es)) ≡ Some (key, v)
    by true t more =
        let same : e.0 ≡ key = tied_same key e.0 t in
        let value : Some e.1 ≡ Some v = sym (ap (λ t. cond t (Some e.1) (find (slice_cmp nat_cmp) key es)) t) ∙ here in
        let none : filter (λ e. up_to f key e.0) es ≡ [] =
        above_none es f key (subst (λ k. T (below_all (slice_cmp nat_cmp) k es)) same (first_T (below_all (slice_cmp nat_cmp) e.0 es) (is_sorted (slice_cmp nat_cmp) es) up)) in
        let kept : up_to f key e.0 ≡ true = ap (up_to f key) same ∙ itself_kept f key passes in
        ap (λ t. last_of (cond t (e ∷ filter (λ e. up_to f key e.0) es) (filter (λ e. up_to f key e.0) es))) kept ∙ ap (λ ps. last_of (e ∷ ps)) none ∙ ap (λ k. Some (k, e.1)) same ∙ ap (option_map (λ w. (key, w))) value
    by false t more =
        last_cond (up_to f key e.0) e (filter (λ e. up_to f key e.0) es) (key, v) (more (sym (ap (λ t. cond t (Some e.1) (find (slice_cmp nat_cmp) key es)) t) ∙ here))

-- a key that is not within a lower bound has no key below it that is
lt_le_more : (a b c : List ℕ) → is_lt (slice_cmp nat_cmp a b) ≡ true → is_le (slice_cmp nat_cmp b c) ≡ true → is_lt (slice_cmp nat_cmp a c) ≡ true
lt_le_more a b c = by (slice_cmp nat_cmp a b) (slice_cmp nat_cmp b c) refl refl
  where
    by : (o s : Ordering) → slice_cmp nat_cmp a b ≡ o → slice_cmp nat_cmp b c ≡ s → is_lt o ≡ true → is_le s ≡ true → is_lt (slice_cmp nat_cmp a c) ≡ true
    by Less Less e f h g = ap is_lt (nat_list_cmp_total.trans a b c e f)
    by Less Equal e f h g = subst (λ x. is_lt (slice_cmp nat_cmp a x) ≡ true) (alike_keys b c f) (ap is_lt e)
    by Less Greater e f h g = absurd (cc)
    by Equal s e f h g = absurd (cc)
    by Greater s e f h g = absurd (cc)

from_above : (from : Bound (List ℕ)) (q key : List ℕ) → is_le (slice_cmp nat_cmp q key) ≡ true → is_from_start by_bytes from q ≡ true → is_from_start by_bytes from key ≡ true
from_above (Included b) q key h g = le_more b q key g h
from_above (Excluded b) q key h g = lt_le_more b q key g h
from_above Unbounded q key h g = refl

-- keys that are not above another are at most it
at_most_is : (key q : List ℕ) → is_from (key ++ 0 ∷ []) q ≡ false → is_le (slice_cmp nat_cmp q key) ≡ true
at_most_is key q h = by (slice_cmp nat_cmp q key) refl
  where
    by : (o : Ordering) → slice_cmp nat_cmp q key ≡ o → is_le (slice_cmp nat_cmp q key) ≡ true
    by Less e = ap is_le e
    by Equal e = ap is_le e
    by Greater e = absurd (let low : is_lt (slice_cmp nat_cmp key q) ≡ true = ap is_lt (nat_list_cmp_total.antisymm key q ∙ ap ordering_reverse e) in let high : is_from (key ++ 0 ∷ []) q ≡ is_lt (slice_cmp nat_cmp key q) = above_is key q in cc)

yes_no : (b : Bool) → (b ≡ true) ⊎ (b ≡ false)
yes_no true = inl refl
yes_no false = inr refl

unless : (a b c : Bool) → (a ≡ true → c ≡ true) → c ≡ false → (a && b) ≡ false
unless true b c h g = absurd (let e = h refl in cc)
unless false b c h g = refl

-- the last pair between two bounds
module _ (pairs : Pairs) (from to : Bound (List ℕ)) where
  pub last_is : (key : List ℕ) (v : ℕ) → IsLastIn pairs (λ q. not (is_up_to_end by_bytes to q)) key (Some v) → is_from_start by_bytes from key ≡ true → last_of (within from to (map_of pairs)) ≡ Some (key, v)
  last_is key v h passes =
      ap last_of
      (filter_alike (map_of pairs) (bounds_contain by_bytes from to) (up_to (is_from_start by_bytes from) key)
      (λ q w e. ap (λ t. is_from_start by_bytes from q && t) (not_not (is_up_to_end by_bytes to q) ∙ ap not (h.1 q w (sym (same-entries pairs q) ∙ e)))))
      ∙ last_sorted (entries (map_of pairs)) (entries_sorted (map_of pairs)) (is_from_start by_bytes from) key v (sym (value_find (entries (map_of pairs)) key) ∙ same-entries pairs key ∙ h.0) passes

  pub last_below : (key : List ℕ) (v : ℕ) → IsLastIn pairs (λ q. not (is_up_to_end by_bytes to q)) key (Some v) → is_from_start by_bytes from key ≡ false → last_of (within from to (map_of pairs)) ≡ None
  last_below key v h below =
      ap last_of
      (filter_none (map_of pairs) (bounds_contain by_bytes from to)
      (λ q w e. (elim (yes_no (is_up_to_end by_bytes to q)) [
        | inl within_end ↦ unless (is_from_start by_bytes from q) (is_up_to_end by_bytes to q) (is_from_start by_bytes from key)
            (λ f. from_above from q key (at_most_is key q (sym (h.1 q w (sym (same-entries pairs q) ∙ e)) ∙ ap not within_end)) f) below
        | inr beyond_end ↦ ap (λ t. is_from_start by_bytes from q && t) beyond_end ∙ and_false (is_from_start by_bytes from q)
      ])))

  pub last_none : (key : List ℕ) → IsLastIn pairs (λ q. not (is_up_to_end by_bytes to q)) key None → last_of (within from to (map_of pairs)) ≡ None
  last_none key h =
      ap last_of
      (filter_none (map_of pairs) (bounds_contain by_bytes from to)
      (λ q w e. ap (λ t. is_from_start by_bytes from q && t) (not_not (is_up_to_end by_bytes to q) ∙ ap not (h q w (sym (same-entries pairs q) ∙ e))) ∙ and_false (is_from_start by_bytes from q)))

  pub last_no_end : ((key : List ℕ) → is_up_to_end by_bytes to key ≡ false) → last_of (within from to (map_of pairs)) ≡ None
  last_no_end h = ap last_of (filter_none (map_of pairs) (bounds_contain by_bytes from to) (λ q w e. ap (λ t. is_from_start by_bytes from q && t) (h q) ∙ and_false (is_from_start by_bytes from q)))
