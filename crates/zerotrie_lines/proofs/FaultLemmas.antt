-- Digits that are no number.
use Rattle.std.proofs.Common.{◌≡◌, ℕ, ◌^◌, ◌≤◌, List, [], ◌∷◌, length, refl, inl, inr, arith, Bool, true, false}
use Rattle.std.specs.Prelude.{◌&&◌}
use Rattle.std.specs.Char.{is_ascii_digit}
use Rattle.std.specs.List.{list_all}
use Rattle.std.proofs.lemmas.Bool.Decides.{leb_tells}
use Rattle.zerotrie_lines.specs.Numbers.{AreDigits, number_behind, IsNumber}
use Rattle.zerotrie_lines.specs.Faults.{is_digits}

both : (p q : Bool) → (p && q) ≡ true → (p ≡ true) × (q ≡ true)
both true true h = (refl, refl)
both true false h = absurd (cc h)
both false q h = absurd (cc h)

digit_is : (d : ℕ) → is_ascii_digit d ≡ true → (48 ≤ d) × (d ≤ 57)
digit_is d h = elim (leb_tells 48 d) [
  | inl low ↦ elim (leb_tells d 57) [ inl high ↦ (low.1, high.1) | inr over ↦ absurd (cc (rw (low.0, over.0) at h)) ]
  | inr under ↦ absurd (cc (rw under.0 at h))
]

pub are_digits : (field : List ℕ) → is_digits field ≡ true → AreDigits field
are_digits [] h = tt
are_digits (d ∷ field) h =
    let parts = both (is_ascii_digit d) (list_all is_ascii_digit field) h in
    let digit = digit_is d parts.0 in
    (digit.0, digit.1, are_digits field parts.1)

-- of 1 to 20 digits that are no number, the number is too great
pub too_great : (field : List ℕ) → is_digits field ≡ true → 1 ≤ length field → length field ≤ 20 → ((value : ℕ) → IsNumber field value → ⊥) → 2 ^ 64 ≤ number_behind 0 field
too_great field digits some few none = elim (leb_tells (2 ^ 64) (number_behind 0 field)) [
  | inl great ↦ great.1
  | inr below ↦ absurd (none (number_behind 0 field) record { some = some; few = few; all = are_digits field digits; is = refl; below = omega (arith, below.1) })
]
