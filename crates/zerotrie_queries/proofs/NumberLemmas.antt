-- Numbers that are read.
use Rattle.std.proofs.Common.{◌≡◌, ◌⊎◌, ℕ, ◌^◌, ◌≤◌, List, [], ◌∷◌, length, Bool, true, false, refl, arith, inl, inr}
use Rattle.std.specs.Prelude.{◌&&◌, nat_le, nat_lt}
use Rattle.std.specs.Char.{is_ascii_digit}
use Rattle.std.specs.List.{list_all}
use Rattle.std.proofs.lemmas.Bool.Decides.{leb_tells}
use Rattle.std.proofs.lemmas.Bool.{lt-ltb, ltb-true}
use Rattle.zerotrie_lines.specs.Numbers.{AreDigits, number_behind, IsNumber}
use Rattle.zerotrie_lines.specs.Faults.{is_digits}
use Rattle.zerotrie_queries.specs.Answers.{IsNoNumber}

both : (p q : Bool) → (p && q) ≡ true → (p ≡ true) × (q ≡ true)
both true true h = (refl, refl)
both true false h = absurd (cc h)
both false q h = absurd (cc h)

le_is : (m n : ℕ) → nat_le m n ≡ true → m ≤ n
le_is m n h = elim (leb_tells m n) [ inl t ↦ t.1 | inr f ↦ absurd (cc (rw f.0 at h)) ]

is_le : (m n : ℕ) → m ≤ n → nat_le m n ≡ true
is_le m n h = elim (leb_tells m n) [ inl t ↦ t.0 | inr f ↦ absurd (omega (arith, f.1, h)) ]

digits_are : (digits : List ℕ) → AreDigits digits → is_digits digits ≡ true
digits_are [] h = refl
digits_are (d ∷ digits) h = rw (is_le 48 d h.0, is_le d 57 h.1) (digits_are digits h.2)

digit_is : (d : ℕ) → is_ascii_digit d ≡ true → (48 ≤ d) × (d ≤ 57)
digit_is d h = let k = both (nat_le 48 d) (nat_le d 57) h in (le_is 48 d k.0, le_is d 57 k.1)

are_digits : (digits : List ℕ) → is_digits digits ≡ true → AreDigits digits
are_digits [] h = tt
are_digits (d ∷ digits) h =
    let parts = both (is_ascii_digit d) (list_all is_ascii_digit digits) h in
    let digit = digit_is d parts.0 in
    (digit.0, digit.1, are_digits digits parts.1)

-- whether bytes are 1 to 20 digits of a number below 2 ^ 64
abbrev pub fits : List ℕ → Bool
fits digits = is_digits digits && (nat_le 1 (length digits) && (nat_le (length digits) 20 && nat_lt (number_behind 0 digits) (2 ^ 64)))

-- digits that fit are their number
pub number_fits : (digits : List ℕ) → fits digits ≡ true → IsNumber digits (number_behind 0 digits)
number_fits digits h =
    let a = both (is_digits digits) (nat_le 1 (length digits) && (nat_le (length digits) 20 && nat_lt (number_behind 0 digits) (2 ^ 64))) h in
    let b = both (nat_le 1 (length digits)) (nat_le (length digits) 20 && nat_lt (number_behind 0 digits) (2 ^ 64)) a.1 in
    let c = both (nat_le (length digits) 20) (nat_lt (number_behind 0 digits) (2 ^ 64)) b.1 in
    record { some = le_is 1 (length digits) b.0; few = le_is (length digits) 20 c.0; all = are_digits digits a.0; is = refl; below = ltb-true (number_behind 0 digits) (2 ^ 64) c.1 }

pub fit_number : (digits : List ℕ) (value : ℕ) → IsNumber digits value → fits digits ≡ true
fit_number digits value n =
    rw (digits_are digits n.all, is_le 1 (length digits) n.some, is_le (length digits) 20 n.few, lt-ltb (number_behind 0 digits) (2 ^ 64) (omega (arith, n.below, n.is))) refl

by_fit : (digits : List ℕ) (b : Bool) → fits digits ≡ b → ((value : ℕ) × IsNumber digits value) ⊎ IsNoNumber digits
by_fit digits true is = inl (number_behind 0 digits, number_fits digits is)
by_fit digits false is = inr (λ value n. absurd (let yes = fit_number digits value n in cc))

-- a text is a number or none
pub number_or_none : (digits : List ℕ) → ((value : ℕ) × IsNumber digits value) ⊎ IsNoNumber digits
number_or_none digits = by_fit digits (fits digits) refl
