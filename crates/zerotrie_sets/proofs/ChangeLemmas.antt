-- Changes of lists that are equal, and lists without changes.
use Rattle.std.proofs.Common.{arith, ◌≡◌, ℕ, List, [], ◌∷◌, Some, None, Bool, true, false, refl, sym, ap, ◌∙◌}
use Rattle.std.specs.Prelude.{◌==◌, if◌then◌else◌}
use Rattle.std.specs.Cmp.{tied_itself}
use Rattle.std.specs.Cmp.Lexicographic.{nat_list_cmp_total}
use Rattle.zerotrie_core.specs.Maps.{Pairs}
use Rattle.zerotrie_sets.specs.Merges.{Entries, joined, chosen, if_some}
use Rattle.zerotrie_sets.specs.Changes.{change, changes}
use Rattle.zerotrie_sets.specs.declared.diff.Change.TheVariants.{Added, Removed, Changed}
use Rattle.zerotrie_sets.proofs.MergeLemmas.{compared, same_key, joined_less, joined_equal, joined_greater}
use Rattle.zerotrie_sets.proofs.MergeLemmas.Compared.{less, equal, greater}

-- an entry is not none
not_none : {V : Type 0} (e : List ℕ × V) (more : Entries V) → e ∷ more ≡ [] → ⊥
not_none e more h = cc

-- values without a change are equal
data Same (v w : ℕ) : Type 0 where
  same : v ≡ w → change (Some v) (Some w) ≡ None → Same v w
  apart : change (Some v) (Some w) ≡ Some (Changed v w) → Same v w

same_by : (v w : ℕ) (b : Bool) → (v == w) ≡ b → Same v w
same_by v w true e = same (grind arith) (ap (λ b. if b then None else Some (Changed v w)) e)
same_by v w false e = apart (ap (λ b. if b then None else Some (Changed v w)) e)

pub unchanged_same : (xs ys : Pairs) → changes xs ys ≡ [] → xs ≡ ys
unchanged_same [] [] h = refl
unchanged_same [] (y ∷ ys) h = absurd (not_none _ _ h)
unchanged_same (x ∷ xs) [] h = absurd (not_none _ _ h)
unchanged_same (x ∷ xs) (y ∷ ys) h = elim (compared x.0 y.0) [
  | less e ↦ absurd (not_none (x.0, Removed x.1) (chosen change (joined xs (y ∷ ys))) (sym (ap (chosen change) (joined_less x xs y ys e)) ∙ h))
  | equal e ↦ elim (same_by x.1 y.1 (x.1 == y.1) refl) [
    | same v none ↦
        let rest : changes xs ys ≡ [] = sym (ap (λ o. if_some x.0 o (changes xs ys)) none) ∙ sym (ap (chosen change) (joined_equal x xs y ys e)) ∙ h in
        ap (λ k. (k, x.1) ∷ xs) (same_key x.0 y.0 e) ∙ ap (λ w. (y.0, w) ∷ xs) v ∙ ap (λ ps. y ∷ ps) (unchanged_same xs ys rest)
    | apart c ↦ absurd (not_none (x.0, Changed x.1 y.1) (changes xs ys) (sym (ap (λ o. if_some x.0 o (changes xs ys)) c) ∙ sym (ap (chosen change) (joined_equal x xs y ys e)) ∙ h))
  ]
  | greater e ↦ absurd (not_none (y.0, Added y.1) (chosen change (joined (x ∷ xs) ys)) (sym (ap (chosen change) (joined_greater x xs y ys e)) ∙ h))
]

-- a value does not change into itself
no_change : (v : ℕ) → change (Some v) (Some v) ≡ None
no_change v = let e : (v == v) ≡ true = grind arith in ap (λ b. if b then None else Some (Changed v v)) e

pub same_unchanged : (xs : Pairs) → changes xs xs ≡ []
same_unchanged [] = refl
same_unchanged (x ∷ xs) =
    ap (chosen change) (joined_equal x xs x xs (tied_itself nat_list_cmp_total x.0))
    ∙ ap (λ o. if_some x.0 o (changes xs xs)) (no_change x.1) ∙ same_unchanged xs
