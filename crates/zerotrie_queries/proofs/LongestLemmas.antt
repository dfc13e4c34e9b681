-- Each text has a longest front that is a key, or none.
use Rattle.std.proofs.Common.{◌≡◌, ℕ, zero, suc, inl, inr, List, take, Option, Some, None, ◌∙◌, ap, refl, arith}
use Rattle.std.proofs.lemmas.Bool.Decides.{eqb_tells}
use Rattle.zerotrie_core.specs.Prefixes.{IsLongest}

abbrev Found : (List ℕ → Option ℕ) → List ℕ → ℕ → Type 0
Found at text most = (r : Option (ℕ × ℕ)) × IsLongest at text most r

-- the empty front
found_first : (at : List ℕ → Option ℕ) (text : List ℕ) (v : Option ℕ) → at (take 0 text) ≡ v → Found at text 0
found_first at text (Some v) is = (Some (0, v), (omega arith, is, λ n above few. absurd (omega (arith, above, few))))
found_first at text None is = (None, λ n few. let none : n ≡ 0 = omega (arith, few) in ap (λ k. at (take k text)) none ∙ is)

-- a front of one byte more
found_next : (at : List ℕ → Option ℕ) (text : List ℕ) (i : ℕ) (v : Option ℕ) → at (take (suc i) text) ≡ v → (r : Option (ℕ × ℕ)) → IsLongest at text i r → Found at text (suc i)
found_next at text i (Some v) is r old = (Some (suc i, v), (omega arith, is, λ n above few. absurd (omega (arith, above, few))))
found_next at text i None is None old = (
  None,
  λ n few. elim (eqb_tells n (suc i)) [
    | inl t ↦ ap (λ k. at (take k text)) t.1 ∙ is
    | inr f ↦ old n (omega (arith, f.1, few))
  ],
)
found_next at text i None is (Some r) old = (
  Some r,
  (
    omega (arith, old.0),
    old.1,
    λ n above few. elim (eqb_tells n (suc i)) [
      | inl t ↦ ap (λ k. at (take k text)) t.1 ∙ is
      | inr f ↦ old.2 n above (omega (arith, f.1, few))
    ],
  ),
)

pub found_in : (at : List ℕ → Option ℕ) (text : List ℕ) (most : ℕ) → Found at text most
found_in at text zero = found_first at text (at (take 0 text)) refl
found_in at text (suc i) = let old = found_in at text i in found_next at text i (at (take (suc i) text)) refl old.0 old.1
