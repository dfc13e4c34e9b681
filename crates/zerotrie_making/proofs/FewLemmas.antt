-- Pairs whose keys are looked up in a second map are a combination of both.
use Rattle.std.proofs.Common.{◌≡◌, ℕ, ◌<◌, ◌^◌, List, [], ◌∷◌, Bool, true, false, Option, Some, None, refl, sym, ap, ◌∙◌, subst, cond, arith}
use Rattle.std.specs.Ordering.{nat_cmp, is_eq}
use Rattle.std.specs.FinMap.{entries, slice_cmp-IsAntisymmetric, nat_cmp-IsAntisymmetric}
use Rattle.std.specs.declared.cmp.Ordering.{Ordering}
use Rattle.std.specs.declared.cmp.Ordering.TheVariants.{Less, Equal, Greater}
use Rattle.std.specs.Cmp.{tied_itself}
use Rattle.std.specs.Cmp.Lexicographic.{slice_cmp, nat_list_cmp_total}
use Rattle.std.specs.List.{AllByRecursion}
use Rattle.std.proofs.lemmas.List.Elements.{All-cons, All-nil, recursion_from_All}
use Rattle.zerotrie_base.proofs.CanonicalLemmas.Fitting.{fits_meant}
use Rattle.zerotrie_base.proofs.MapLemmas.Alike.{value_at-find}
use Rattle.zerotrie_core.specs.Kind.{Kind, simple_ascii, ignore_case, perfect_hash, extended_capacity, flags}
use Rattle.zerotrie_core.specs.Maps.{Map, Pairs, Ascends, FirstAbove, look, value_at, same_key}
use Rattle.zerotrie_core.specs.Texts.{Means}
use Rattle.zerotrie_sets.specs.Merges.{if_some, value_of}
use Rattle.zerotrie_sets.specs.Operations.{choose, IsCombined}
use Rattle.zerotrie_sets.specs.Selections.{selected, IsRuleError, IsSmall}
use Rattle.zerotrie_sets.specs.declared.combined.Operation.{Operation}
use Rattle.zerotrie_sets.specs.declared.combined.Operation.TheVariants as operations
use Rattle.zerotrie_sets.specs.declared.selection.Rule.{Rule}
use Rattle.zerotrie_sets.specs.declared.selection.RuleError.{RuleError}
use Rattle.zerotrie_sets.specs.declared.selection.RuleError.TheVariants.{SeveralValues, DifferentValues, SumTooLarge}
use Rattle.zerotrie_sets.specs.declared.selection.Selection.TheVariants as selections
use Rattle.zerotrie_queries.specs.Recased.{looked_up}
use Rattle.zerotrie_queries.proofs.RecasedLemmas.{looked_up_ascends}
use Rattle.zerotrie_making.specs.Combinations.{AreTaken}
use Rattle.zerotrie_making.specs.declared.plan.Combination.{Combination}

-- a kind that does not ignore case finds exact keys
exact_value : (kind : Kind) → (flags kind).ignore_case ≡ false → (pairs : Pairs) (key : List ℕ) → value_at kind pairs key ≡ value_at simple_ascii pairs key
exact_value simple_ascii exact pairs key = refl
exact_value ignore_case exact pairs key = absurd (cc)
exact_value perfect_hash exact [] key = refl
exact_value perfect_hash exact (e ∷ pairs) key = ap (λ o. cond (same_key simple_ascii e.0 key) (Some e.1) o) (exact_value perfect_hash exact pairs key)
exact_value extended_capacity exact [] key = refl
exact_value extended_capacity exact (e ∷ pairs) key = ap (λ o. cond (same_key simple_ascii e.0 key) (Some e.1) o) (exact_value extended_capacity exact pairs key)

pub exact_look : (kind : Kind) → (flags kind).ignore_case ≡ false → (m : Map) (key : List ℕ) → look kind m key ≡ value_of key (entries m)
exact_look kind exact m key = exact_value kind exact (entries m) key ∙ value_at-find (entries m) key

above_first : (k l : List ℕ) (pairs : Pairs) → slice_cmp nat_cmp k l ≡ Less → FirstAbove l pairs → FirstAbove k pairs
above_first k l [] below above = tt
above_first k l (e ∷ pairs) below above = nat_list_cmp_total.trans k l e.0 below above

none_above : (key : List ℕ) (pairs : Pairs) → FirstAbove key pairs → Ascends pairs → value_of key pairs ≡ None
none_above key [] above up = refl
none_above key (e ∷ pairs) above up = ap (λ o. cond (is_eq o) (Some e.1) (value_of key pairs)) above ∙ none_above key pairs (above_first key e.0 pairs above up.0) up.1

equal_keys : (k l : List ℕ) (o : Ordering) → slice_cmp nat_cmp k l ≡ o → is_eq o ≡ true → k ≡ l
equal_keys k l Less is h = absurd (cc)
equal_keys k l Equal is h = slice_cmp-IsAntisymmetric nat_cmp-IsAntisymmetric k l is
equal_keys k l Greater is h = absurd (cc)

at_its_key : (key : List ℕ) (value : Option ℕ) (pairs : Pairs) → value_of key pairs ≡ None → value_of key (if_some key value pairs) ≡ value
at_its_key key None pairs none = none
at_its_key key (Some v) pairs none = ap (λ o. cond (is_eq o) (Some v) (value_of key pairs)) (tied_itself nat_list_cmp_total key)

at_other_key : (key other : List ℕ) (value : Option ℕ) (pairs : Pairs) → is_eq (slice_cmp nat_cmp key other) ≡ false → value_of key (if_some other value pairs) ≡ value_of key pairs
at_other_key key other None pairs h = refl
at_other_key key other (Some v) pairs h = ap (λ b. cond b (Some v) (value_of key pairs)) h

-- an operation that takes no key that the first map lacks
module _ (operation : Operation) (none : (found : Option ℕ) → choose operation None found ≡ None) (at : List ℕ → Option ℕ) where
  looked_step : (key : List ℕ) (e : List ℕ × ℕ) (pairs : Pairs) (same : Bool) → is_eq (slice_cmp nat_cmp key e.0) ≡ same → FirstAbove e.0 pairs → Ascends pairs
      → ((q : List ℕ) → value_of q (looked_up operation at pairs) ≡ choose operation (value_of q pairs) (at q))
      → value_of key (looked_up operation at (e ∷ pairs)) ≡ choose operation (cond same (Some e.1) (value_of key pairs)) (at key)
  looked_step key e pairs true is above up later =
      let same = equal_keys key e.0 (slice_cmp nat_cmp key e.0) refl is in
      let absent = later e.0 ∙ ap (λ o. choose operation o (at e.0)) (none_above e.0 pairs above up) ∙ none (at e.0) in
      subst (λ k. value_of k (looked_up operation at (e ∷ pairs)) ≡ choose operation (Some e.1) (at k)) (sym same) (at_its_key e.0 (choose operation (Some e.1) (at e.0)) (looked_up operation at pairs) absent)
  looked_step key e pairs false is above up later = at_other_key key e.0 (choose operation (Some e.1) (at e.0)) (looked_up operation at pairs) is ∙ later key

  pub looked_value : (pairs : Pairs) → Ascends pairs → (key : List ℕ) → value_of key (looked_up operation at pairs) ≡ choose operation (value_of key pairs) (at key)
  looked_value [] up key = sym (none (at key))
  looked_value (e ∷ pairs) up key = looked_step key e pairs (is_eq (slice_cmp nat_cmp key e.0)) refl up.0 up.1 (looked_value pairs up.1)

-- the keys of a map that are looked up in a second one
pub looked_combined : (operation : Operation) (kind : Kind) (m n : Map) (table : Pairs) → ((found : Option ℕ) → choose operation None found ≡ None) → (flags kind).ignore_case ≡ false → Ascends (entries m)
    → table ≡ looked_up operation (look kind n) (entries m) → IsCombined operation (entries m) (entries n) table
looked_combined operation kind m n table none exact up is = record {
  ascends = subst (λ ps. Ascends ps) (sym is) (looked_up_ascends operation (look kind n) (entries m) up);
  values = λ key. ap (value_of key) is ∙ looked_value operation none (look kind n) (entries m) up key ∙ ap (choose operation (value_of key (entries m))) (exact_look kind exact n key);
}

-- what does the same with the maps in each other's place
pub turned_combined : (operation other : Operation) (first second pairs : Pairs) → ((one two : Option ℕ) → choose other one two ≡ choose operation two one)
    → IsCombined other second first pairs → IsCombined operation first second pairs
turned_combined operation other first second pairs same is = record {
  ascends = is.ascends;
  values = λ key. is.values key ∙ same (value_of key second) (value_of key first);
}

-- ---- what a selection and a rule take of two maps

pub first_alone : (rule : Rule) (one other : Option ℕ) → selected selections.Difference rule (one ∷ other ∷ []) ≡ choose operations.Difference one other
first_alone rule None None = refl
first_alone rule None (Some w) = refl
first_alone rule (Some v) None = refl
first_alone rule (Some v) (Some w) = refl

same_value : (v n : ℕ) → Some v ≡ Some n → v ≡ n
same_value v n e = cc

false_true : false ≡ true → ⊥
false_true e = cc

-- a value alone is that of its key, and one of 64 bits
pub alone_valued : (rule : Rule) (one other : Option ℕ) (why : RuleError) → IsSmall one → IsRuleError selections.Difference rule (one ∷ other ∷ []) why → ⊥
alone_valued rule None None why small h = false_true h.0
alone_valued rule None (Some w) why small h = false_true h.0
alone_valued rule (Some v) (Some w) why small h = false_true h.0
alone_valued rule (Some v) None SeveralValues small h = let few = h.1.1 in omega (arith, few)
alone_valued rule (Some v) None DifferentValues small h = h.1.1 (v, All-cons (λ value. value ≡ v) v [] refl (All-nil (λ value. value ≡ v)))
alone_valued rule (Some v) None SumTooLarge small h =
    let same = same_value v h.1.1 h.1.2 in
    let over = h.1.3 in
    omega (arith, same, small, over)

-- ---- values of tries

small_or : (b : Bool) (v : ℕ) (found : Option ℕ) → v < 2 ^ 64 → IsSmall found → IsSmall (cond b (Some v) found)
small_or true v found here later = here
small_or false v found here later = later

small_of : (pairs : Pairs) → AllByRecursion (λ e. e.1 < 2 ^ 64) pairs → (key : List ℕ) → IsSmall (value_of key pairs)
small_of [] all key = tt
small_of (e ∷ pairs) all key = small_or (is_eq (slice_cmp nat_cmp key e.0)) e.1 (value_of key pairs) all.0 (small_of pairs all.1 key)

-- a value of a trie is one of 64 bits
pub meant_small : (kind : Kind) (bytes : List ℕ) (m : Map) → Means kind bytes m → (key : List ℕ) → IsSmall (value_of key (entries m))
meant_small kind bytes m means key =
    small_of (entries m) (recursion_from_All (λ e. e.1 < 2 ^ 64) (entries m) (fits_meant kind bytes m means).values) key

-- what an operation takes of two maps is what a selection and a rule do, and each key that is taken gets a value
pub few_taken : (c : Combination) (operation : Operation) (first second table : Pairs)
    → ((one other : Option ℕ) → selected c.selection c.rule (one ∷ other ∷ []) ≡ choose operation one other)
    → ((one other : Option ℕ) (why : RuleError) → IsSmall one → IsRuleError c.selection c.rule (one ∷ other ∷ []) why → ⊥)
    → ((key : List ℕ) → IsSmall (value_of key first)) → IsCombined operation first second table → AreTaken c (first ∷ second ∷ []) table
few_taken c operation first second table same valued small is = record {
  taken = record {
    ascends = is.ascends;
    values = λ key. is.values key ∙ sym (same (value_of key first) (value_of key second));
  };
  valued = λ key why. valued (value_of key first) (value_of key second) why (small key);
}
