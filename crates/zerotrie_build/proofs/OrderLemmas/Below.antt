-- Keys that are below others by their bytes come before them if case is kept.
use Rattle.std.proofs.Common.{ℕ, inl, inr, List, [], ◌∷◌, refl, arith}
use Rattle.std.proofs.lemmas.Bool.{cases_lt, cases_eq}
use Rattle.zerotrie_base.specs.Kind.{simple_ascii}
use Rattle.zerotrie_base.specs.Maps.{Pairs, Ascends}
use Rattle.zerotrie_build.specs.Order.{Before, Ordered}
use Rattle.zerotrie_build.proofs.ItemLemmas.{Below, ascends_each, each_ordered}
use Rattle.zerotrie_build.proofs.OrderLemmas.Sorting.{less_is, equal_is, greater_is}

pub below_before : (k l : List ℕ) → Below k l → Before simple_ascii k l
below_before [] [] h = absurd (cc)
below_before (a ∷ k) [] h = absurd (cc)
below_before [] (b ∷ l) h = tt
below_before (a ∷ k) (b ∷ l) h = elim (cases_eq a b) [
  | inl same ↦ inr (same, below_before k l (rw (equal_is a b same) at h))
  | inr apart ↦ elim (cases_lt a b) [
    | inl less ↦ inl less
    | inr from ↦ absurd (let e = rw (greater_is a b (omega arith)) at h in cc)
  ]
]

pub before_below : (k l : List ℕ) → Before simple_ascii k l → Below k l
before_below [] [] h = absurd h
before_below (a ∷ k) [] h = absurd h
before_below [] (b ∷ l) h = refl
before_below (a ∷ k) (b ∷ l) (inl less) = rw (less_is a b less) refl
before_below (a ∷ k) (b ∷ l) (inr r) = rw (equal_is a b r.0) (before_below k l r.1)

pub ordered_ascends : (pairs : Pairs) → Ordered simple_ascii pairs → Ascends pairs
ordered_ascends pairs up = ascends_each pairs (λ k below. before_below _ _ (each_ordered simple_ascii pairs k up below))
