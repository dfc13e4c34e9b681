-- What stands first in a window, as pairs.
use Rattle.std.proofs.Common.{inl, inr, ◌≡◌, ℕ, suc, ◌+◌, ◌<◌, ◌≤◌, List, [], ◌∷◌, length, refl, ◌∙◌, ap, arith, drop, Bool, true, false, cond, eqb, leb}
use Rattle.std.proofs.lemmas.Bool.{cases_lt}
use Rattle.std.proofs.Common.{Some, slice_get, get_or, subst, sym, ◌-◌}
use Rattle.std.specs.Prelude.{◌&&◌}
use Rattle.std.proofs.lemmas.List.{drop_all}
use Rattle.std.proofs.lemmas.Option.{slice_get_within, slice_get-get_or, get_or_from_slice_get}
use Rattle.zerotrie_base.specs.Maps.{Pairs}
use Rattle.zerotrie_build.specs.passes.Windows.{byte_of, high_front, HasLiteralAt}
use Rattle.zerotrie_build.specs.declared.windows.Window.{Window}

-- a key that has ended has nothing in common with another
high_nil : (k : List ℕ) → high_front k [] ≡ 0
high_nil [] = refl
high_nil (a ∷ k) = refl

pub high_past : (k l : List ℕ) (n : ℕ) → (n < length k → n < length l → ⊥) → high_front (drop n k) (drop n l) ≡ 0
high_past k l n ended = elim (cases_lt n (length l)) [
  | inl less ↦ elim (cases_lt n (length k)) [
    | inl more ↦ absurd (ended more less)
    | inr past ↦ ap (λ x. high_front x (drop n l)) (drop_all n k past)
  ]
  | inr past ↦ ap (high_front (drop n k)) (drop_all n l past) ∙ high_nil (drop n k)
]

-- what is in common is in the first
pub high_most : (k l : List ℕ) → high_front k l ≤ length k
high_most [] l = omega arith
high_most (a ∷ k) [] = omega arith
high_most (a ∷ k) (b ∷ l) = most (eqb a b && leb 128 a) (high_front k l) (high_most k l)
  where
    most : (same : Bool) (n : ℕ) → n ≤ length k → cond same (1 + n) 0 ≤ suc (length k)
    most true n h = omega arith
    most false n h = omega arith

-- a key that goes on at the depth is longer
pub key_within : (all : Pairs) (i d b : ℕ) (e : List ℕ × ℕ) → slice_get all i ≡ Some e → byte_of all i d ≡ Some b → d < length e.0
key_within all i d b e at goes = slice_get_within e.0 d b (subst (λ f. slice_get f.0 d ≡ Some b) (get_or_from_slice_get all i e ([], 0) at) goes)

-- a byte below 128 that two keys have at one place
pub low_at : (all : Pairs) (w : Window) (i : ℕ) (e f : List ℕ × ℕ) → slice_get all w.from ≡ Some e → slice_get all (w.to - 1) ≡ Some f → i < length e.0 → i < length f.0
    → get_or e.0 i 0 ≡ get_or f.0 i 0 → get_or e.0 i 0 < 128 → HasLiteralAt all w i
low_at all w i e f first last a b same low = record {
  byte = get_or e.0 i 0;
  low = low;
  first = ap (λ x. slice_get x.0 i) (get_or_from_slice_get all w.from e ([], 0) first) ∙ slice_get-get_or e.0 i 0 a;
  last = ap (λ x. slice_get x.0 i) (get_or_from_slice_get all (w.to - 1) f ([], 0) last) ∙ slice_get-get_or f.0 i 0 b ∙ ap Some (sym same);
}
