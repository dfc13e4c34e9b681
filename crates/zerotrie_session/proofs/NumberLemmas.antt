-- Reading a number digit by digit.
use Rattle.std.proofs.Common.{◌≡◌, ℕ, ◌+◌, ◌-◌, ◌*◌, ◌^◌, ◌<◌, ◌≤◌, List, [], ◌∷◌, length, drop, get_or, refl, sym, ◌∙◌, ap, subst, arith, drop-cons, add-one}
use Rattle.std.proofs.Math.ListN.{drop_of_length-le}
use Rattle.zerotrie_session.specs.Numbers.{AreDigits, number_behind, IsNumber}

-- The first i bytes are digits, and the value is theirs.
pub record ReadTo (digits : List ℕ) (i value : ℕ) : Type 0 where
  pub join : AreDigits (drop i digits) → AreDigits digits
  pub split : AreDigits digits → AreDigits (drop i digits)
  pub is : number_behind value (drop i digits) ≡ number_behind 0 digits
  pub below : value < 2 ^ 64

pub number_behind-ge : (n : ℕ) (digits : List ℕ) → n ≤ number_behind n digits
number_behind-ge n [] = omega arith
number_behind-ge n (d ∷ digits) = omega (arith, number_behind-ge (10 * n + (d - 48)) digits)

at_digit : (digits : List ℕ) (i : ℕ) → i < length digits → drop i digits ≡ get_or digits i 0 ∷ drop (i + 1) digits
at_digit digits i h = rw (add-one, drop-cons digits i 0) refl

-- a number that is too large already
pub too_large : (digits : List ℕ) (i value : ℕ) → ReadTo digits i value → i < length digits → 2 ^ 64 ≤ 10 * value + (get_or digits i 0 - 48) → 2 ^ 64 ≤ number_behind 0 digits
too_large digits i value r h large =
    let e : number_behind (10 * value + (get_or digits i 0 - 48)) (drop (i + 1) digits) ≡ number_behind 0 digits = sym (ap (number_behind value) (at_digit digits i h)) ∙ r.is in
    omega (arith, number_behind-ge (10 * value + (get_or digits i 0 - 48)) (drop (i + 1) digits))

pub read_all : (digits : List ℕ) (i value : ℕ) → ReadTo digits i value → length digits ≤ i → 1 ≤ length digits → length digits ≤ 20 → IsNumber digits value
read_all digits i value r h some few = let none : drop i digits ≡ [] = drop_of_length-le digits h in record {
  some = some;
  few = few;
  all = r.join (subst AreDigits (sym none) tt);
  is = sym (ap (number_behind value) none) ∙ r.is;
  below = r.below;
}
