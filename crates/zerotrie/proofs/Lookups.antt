-- What a look-up in a build answers, said of the pairs alone.
use Rattle.std.proofs.Common.{◌≡◌, ℕ, zero, suc, ◌<◌, ◌⊎◌, inl, inr, List, [], ◌∷◌, length, refl, sym, ◌∙◌, ap, subst, arith, Bool, true, false, cond, Option, Some, None, map}
use Rattle.std.specs.Prelude.{All, Contains, ◌==◌, ◌&&◌, slice_index_or}
use Rattle.std.specs.Char.{to_ascii_lowercase}
use Rattle.std.specs.FinMap.{entries}
use Rattle.std.specs.List.{AllByRecursion}
use Rattle.std.specs.Cmp.Lexicographic.{pointwise}
use Rattle.std.specs.Str.{str_eq_ignore_ascii_case}
use Rattle.zerotrie_core.specs.Kind.{Kind, simple_ascii, ignore_case}
use Rattle.zerotrie_core.specs.Maps.{Pairs, Map, map_of, look, value_at, same_key, RepeatsKey}
use Rattle.zerotrie_core.specs.Built.{IsBuilt}
use Rattle.zerotrie_core.specs.Texts.{Means}
use Rattle.zerotrie_core.specs.Routes.{Route, ascending, in_order, any_order, Takes}
use Rattle.zerotrie_core.proofs.CallerLemmas.{same_equiv, lists_apart, lists_found, same_answers}
use Rattle.zerotrie_core.proofs.CallerLemmas.{look-map_of}
use Rattle.zerotrie_core.proofs.CallerLemmas.{ascends_apart}
use Rattle.zerotrie_core.proofs.CallerLemmas.{same-entries, exact_same, first_found}

-- pairs that a route takes have distinct keys
pub takes_distinct : (route : Route) (pairs : Pairs) → Takes route pairs → RepeatsKey pairs → ⊥
takes_distinct ascending pairs takes = ascends_apart pairs takes
takes_distinct in_order pairs takes = ascends_apart pairs takes
takes_distinct any_order pairs takes = takes

-- a key is itself to each kind
pub same_itself : (kind : Kind) (key : List ℕ) → same_key kind key key ≡ true
same_itself kind key = (same_equiv kind).refl key

-- a look-up in a build answers with the first pair whose key is this one to the kind
pub look_is : (kind : Kind) (pairs : Pairs) (bytes key : List ℕ) → IsBuilt kind pairs bytes → look kind (map_of pairs) key ≡ value_at kind pairs key
look_is kind pairs bytes key built =
    let means = built.means in
    ap (λ m. look kind m key) means.is
    ∙ look-map_of means.lists key
    ∙ sym (same_answers kind means.pairs pairs key (lists_apart means.lists)
    (λ k. sym (same-entries pairs k) ∙ ap (λ m. value_at simple_ascii (entries m) k) means.is ∙ same-entries means.pairs k))

none_at : (kind : Kind) (pairs : Pairs) (key : List ℕ) → All (λ e. same_key kind e.0 key ≡ false) pairs → value_at kind pairs key ≡ None
none_at kind [] key none = refl
none_at kind (e ∷ pairs) key none = rw (none 0 e (omega arith)) (none_at kind pairs key (λ i d l. none (suc i) d (omega arith)))

-- a key that is none of the pairs' to the kind is not found
pub absent : (kind : Kind) (pairs : Pairs) (bytes key : List ℕ) → IsBuilt kind pairs bytes → All (λ e. same_key kind e.0 key ≡ false) pairs
    → look kind (map_of pairs) key ≡ None
absent kind pairs bytes key built none = look_is kind pairs bytes key built ∙ none_at kind pairs key none

chosen : (b : Bool) (v w : ℕ) (o : Option ℕ) → cond b (Some v) o ≡ Some w → ((b ≡ true) × (v ≡ w)) ⊎ ((b ≡ false) × (o ≡ Some w))
chosen true v w o e = inl (refl, cc)
chosen false v w o e = inr (refl, e)

pub one_of : (kind : Kind) (pairs : Pairs) (key : List ℕ) (v : ℕ) → value_at kind pairs key ≡ Some v → (own : List ℕ) × Contains pairs (own, v) × (same_key kind own key ≡ true)
one_of kind [] key v found = absurd (cc)
one_of kind (e ∷ pairs) key v found = elim (chosen (same_key kind e.0 key) e.1 v (value_at kind pairs key) found) [
  | inl here ↦ (e.0, (0, omega arith, ap (λ w. (e.0, w)) here.1), here.0)
  | inr later ↦ let r = one_of kind pairs key v later.1 in (r.0, (suc r.1.0, omega (arith, r.1.1), r.1.2), r.2)
]

-- what is found is the value of one of the pairs, whose key is this one to the kind
pub found : (kind : Kind) (pairs : Pairs) (bytes key : List ℕ) (v : ℕ) → IsBuilt kind pairs bytes → look kind (map_of pairs) key ≡ Some v
    → (own : List ℕ) × Contains pairs (own, v) × (same_key kind own key ≡ true)
found kind pairs bytes key v built is = one_of kind pairs key v (sym (look_is kind pairs bytes key built) ∙ is)

-- keys that are one to the kind find one value
one_value : (kind : Kind) (pairs : Pairs) (own key : List ℕ) → same_key kind own key ≡ true → value_at kind pairs own ≡ value_at kind pairs key
one_value kind [] own key same = refl
one_value kind (e ∷ pairs) own key same =
    let laws = same_equiv kind in
    let test : same_key kind e.0 own ≡ same_key kind e.0 key = laws.symm e.0 own ∙ laws.congr own key e.0 same ∙ laws.symm key e.0 in
    rw (test, one_value kind pairs own key same) refl

-- what holds of each pair holds of what is found exactly
picked : (P : List ℕ → ℕ → Type 0) (pairs : Pairs) (key : List ℕ) (v : ℕ) → AllByRecursion (λ f. P f.0 f.1) pairs → value_at simple_ascii pairs key ≡ Some v → P key v
picked P [] key v all found = absurd (cc)
picked P (e ∷ pairs) key v all found = elim (chosen (same_key simple_ascii e.0 key) e.1 v (value_at simple_ascii pairs key) found) [
  | inl here ↦ subst (λ k. P k v) (exact_same e.0 key here.0) (subst (λ w. P e.0 w) here.1 all.0)
  | inr later ↦ picked P pairs key v all.1 later.1
]

pub key_there : (pairs : Pairs) (key : List ℕ) (v i : ℕ) → i < length pairs → slice_index_or pairs i (key, v) ≡ (key, v) → Contains (map {B = List ℕ} (λ f. f.0) pairs) key
key_there [] key v i below is = absurd (omega arith)
key_there (e ∷ pairs) key v zero below is = (0, omega arith, ap (λ f. f.0) is)
key_there (e ∷ pairs) key v (suc i) below is = let r = key_there pairs key v i (omega arith) is in (suc r.0, omega (arith, r.1), r.2)

not_true : (b : Bool) → (b ≡ true → ⊥) → b ≡ false
not_true true h = absurd (h refl)
not_true false h = refl

-- a pair of pairs with distinct keys is found by its key
pub at_pair : (pairs : Pairs) (key : List ℕ) (v i : ℕ) → (RepeatsKey pairs → ⊥) → i < length pairs → slice_index_or pairs i (key, v) ≡ (key, v) → value_at simple_ascii pairs key ≡ Some v
at_pair [] key v i distinct below is = absurd (omega arith)
at_pair (e ∷ pairs) key v zero distinct below is = subst (λ f. value_at simple_ascii (e ∷ pairs) f.0 ≡ Some f.1) is (first_found e pairs)
at_pair (e ∷ pairs) key v (suc i) distinct below is =
    let other : same_key simple_ascii e.0 key ≡ false =
    not_true (same_key simple_ascii e.0 key)
    (λ same. distinct (inl (subst (λ k. Contains (map {B = List ℕ} (λ f. f.0) pairs) k) (sym (exact_same e.0 key same)) (key_there pairs key v i (omega arith) is)))) in
    rw other (at_pair pairs key v i (λ twice. distinct (inr twice)) (omega arith) is)

-- and what is found exactly is one of the pairs
pub held_exactly : (pairs : Pairs) (key : List ℕ) (v : ℕ) → value_at simple_ascii pairs key ≡ Some v → Contains pairs (key, v)
held_exactly pairs key v found = let r = one_of simple_ascii pairs key v found in subst (λ k. Contains pairs (k, v)) (exact_same r.0 key r.2) r.1

-- a key that one of the pairs has is found by every key that is the same to the kind
pub present : (kind : Kind) (pairs : Pairs) (bytes key own : List ℕ) (v : ℕ) → IsBuilt kind pairs bytes → (RepeatsKey pairs → ⊥) → Contains pairs (own, v)
    → same_key kind own key ≡ true → look kind (map_of pairs) key ≡ Some v
present kind pairs bytes key own v built distinct has same =
    let means = built.means in
    let exact : value_at simple_ascii pairs own ≡ Some v = at_pair pairs own v has.0 distinct has.1 has.2 in
    let moved : value_at simple_ascii means.pairs own ≡ value_at simple_ascii pairs own =
    sym (same-entries means.pairs own) ∙ sym (ap (λ m. value_at simple_ascii (entries m) own) means.is) ∙ same-entries pairs own in
    let listed : value_at kind means.pairs own ≡ Some v = picked (λ k w. value_at kind means.pairs k ≡ Some w) means.pairs own v (lists_found means.lists) (moved ∙ exact) in
    ap (λ m. look kind m key) means.is ∙ look-map_of means.lists key ∙ sym (one_value kind means.pairs own key same) ∙ listed

folded_first : (f : ℕ → ℕ) (p q : List ℕ) → pointwise (λ a b. f a == f b) p q ≡ pointwise ◌==◌ (map f p) (map f q)
folded_first f [] [] = refl
folded_first f [] (b ∷ q) = refl
folded_first f (a ∷ p) [] = refl
folded_first f (a ∷ p) (b ∷ q) = ap (λ t. (f a == f b) && t) (folded_first f p q)

-- the kind without case takes keys as one if std's comparison without case does
pub same_ignoring_case : (p q : List ℕ) → same_key ignore_case p q ≡ str_eq_ignore_ascii_case p q
same_ignoring_case p q = folded_first to_ascii_lowercase p q

-- what the pairs that bytes list answer is what the map that they mean does
pub listed_answer : (kind : Kind) (bytes : List ℕ) (m : Map) (means : Means kind bytes m) (key : List ℕ) → value_at kind means.pairs key ≡ look kind m key
listed_answer kind bytes m means key = sym (look-map_of means.lists key) ∙ ap (λ n. look kind n key) (sym means.is)
