-- Sets of bytes: one bit of four words.
use Rattle.std.proofs.Common.{◌≡◌, ◌≢◌, ◌<◌, ◌+◌, ◌-◌, ◌*◌, ◌/◌, ◌%◌, ◌^◌, inl, inr, ℕ, zero, suc, List, [], ◌∷◌, Bool, true, false, min, max, length, refl, sym, ap, ◌∙◌, arith, w64, lit<}
use Rattle.std.specs.Prelude.{◌==◌, ◌||◌, ◌&&◌, not, slice_index, slice_set}
use Rattle.std.specs.Int.{bit_at, bit_not, trailing_zeros}
use Rattle.std.specs.Int.Bits.{bit_or, bit_and}
use Rattle.std.proofs.Math.Nat.{mod-lt}
use Rattle.std.proofs.lemmas.Bool.{cases_eq, cases_lt, eq-eqb, ne_eqb}
use Rattle.std.proofs.lemmas.List.{get_or-set_same, get_or-set_other, get_or_past}
use Rattle.std.proofs.lemmas.Nat.Bits.{shr_and_one, bit_at_and, bit_at_or, bit_at-zero, bit_at-lt, bit_at_ones, bit_at_set_same, bit_at_set_other, bit_at_clear_same, bit_at_clear_other, bit_at-trailing_zeros}

-- whether the words have the bit of the byte
abbrev pub has_bit : List ℕ → ℕ → Bool
has_bit words byte = bit_at (slice_index words (byte / 64)) (byte % 64) == 1

low : (byte : ℕ) → byte % 64 < 64
low byte = mod-lt byte (lit< tt)

same_byte : (a b : ℕ) → a / 64 ≡ b / 64 → a % 64 ≡ b % 64 → a ≡ b
same_byte a b q r = omega (arith, q, r)

-- a new word at the place of a byte, which has all other bits of the old one
module _ (words : List ℕ) (byte new : ℕ) (whole : length words ≡ 4) (within : byte < 256) (apart : (i : ℕ) → i < 64 → i ≢ byte % 64 → bit_at new i ≡ bit_at (slice_index words (byte / 64)) i) where
  pub other_bit : (other : ℕ) → other ≢ byte → has_bit (slice_set words (byte / 64) new) other ≡ has_bit words other
  other_bit other differs = elim (cases_eq (other / 64) (byte / 64)) [
    | inl here ↦ ap (λ n. n == 1)
        (ap (λ k. bit_at (slice_index (slice_set words (byte / 64) new) k) (other % 64)) here
        ∙ ap (λ w. bit_at w (other % 64)) (get_or-set_same words (byte / 64) new 0 (omega (arith, whole, within)))
        ∙ apart (other % 64) (low other) (λ r. differs (same_byte other byte here r))
        ∙ ap (λ k. bit_at (slice_index words k) (other % 64)) (sym here))
    | inr far ↦ ap (λ w. bit_at w (other % 64) == 1) (get_or-set_other words (byte / 64) (other / 64) new 0 far)
  ]

  pub same_bit : (v : ℕ) → bit_at new (byte % 64) ≡ v → has_bit (slice_set words (byte / 64) new) byte ≡ (v == 1)
  same_bit v is = ap (λ n. n == 1) (ap (λ w. bit_at w (byte % 64)) (get_or-set_same words (byte / 64) new 0 (omega (arith, whole, within))) ∙ is)

pub has_tested : (words : List ℕ) (byte : ℕ) → (bit_and (slice_index words (byte / 64) / 2 ^ (byte % 64)) 1 == 1) ≡ has_bit words byte
has_tested words byte = ap (λ n. n == 1) (shr_and_one (slice_index words (byte / 64)) (byte % 64))

-- a byte that is added, or removed
module _ (words : List ℕ) (byte : ℕ) (whole : length words ≡ 4) (within : byte < 256) (other : ℕ) where
  abbrev word : ℕ
  word = slice_index words (byte / 64)

  abbrev more : ℕ
  more = bit_or word (1 * 2 ^ (byte % 64) % 2 ^ 64)

  abbrev fewer : ℕ
  fewer = bit_and word (bit_not w64 (1 * 2 ^ (byte % 64) % 2 ^ 64))

  pub inserted : has_bit (slice_set words (byte / 64) more) other ≡ ((other == byte) || has_bit words other)
  inserted = elim (cases_eq other byte) [
    | inl here ↦ ap (has_bit (slice_set words (byte / 64) more)) here
        ∙ same_bit words byte more whole within (λ i h. bit_at_set_other w64 word (byte % 64) (low byte) i) 1 (bit_at_set_same w64 word (byte % 64) (low byte))
        ∙ sym (ap (λ b. b || has_bit words other) (eq-eqb other byte here))
    | inr far ↦ other_bit words byte more whole within (λ i h. bit_at_set_other w64 word (byte % 64) (low byte) i) other far ∙ sym (ap (λ b. b || has_bit words other) (ne_eqb other byte far))
  ]

  pub removed : has_bit (slice_set words (byte / 64) fewer) other ≡ (not (other == byte) && has_bit words other)
  removed = elim (cases_eq other byte) [
    | inl here ↦ ap (has_bit (slice_set words (byte / 64) fewer)) here
        ∙ same_bit words byte fewer whole within (bit_at_clear_other w64 word (byte % 64) (low byte)) 0 (bit_at_clear_same w64 word (byte % 64) (low byte))
        ∙ sym (ap (λ b. not b && has_bit words other) (eq-eqb other byte here))
    | inr far ↦ other_bit words byte fewer whole within (bit_at_clear_other w64 word (byte % 64) (low byte)) other far ∙ sym (ap (λ b. not b && has_bit words other) (ne_eqb other byte far))
  ]

-- words without bits, and with all
pub none_set : (words : List ℕ) (byte : ℕ) → ((i : ℕ) → slice_index words i ≡ 0) → has_bit words byte ≡ false
none_set words byte zeros = ap (λ n. n == 1) (ap (λ w. bit_at w (byte % 64)) (zeros (byte / 64)) ∙ bit_at-zero (byte % 64))

pub all_set : (words : List ℕ) (byte : ℕ) → slice_index words (byte / 64) ≡ 2 ^ 64 - 1 → has_bit words byte ≡ true
all_set words byte ones = ap (λ n. n == 1) (ap (λ w. bit_at w (byte % 64)) ones ∙ bit_at_ones 64 (byte % 64) (low byte))

-- bits of both words, or of one
one_bit : (w i : ℕ) → bit_at w i < 2
one_bit w i = bit_at-lt w i

both_bits : (x y : ℕ) → x < 2 → y < 2 → (min x y == 1) ≡ ((x == 1) && (y == 1))
both_bits zero zero _ _ = refl
both_bits zero (suc zero) _ _ = refl
both_bits (suc zero) zero _ _ = refl
both_bits (suc zero) (suc zero) _ _ = refl
both_bits (suc (suc x)) y h _ = absurd (omega (arith, h))
both_bits zero (suc (suc y)) _ h = absurd (omega (arith, h))
both_bits (suc zero) (suc (suc y)) _ h = absurd (omega (arith, h))

some_bit : (x y : ℕ) → x < 2 → y < 2 → (max x y == 1) ≡ ((x == 1) || (y == 1))
some_bit zero zero _ _ = refl
some_bit zero (suc zero) _ _ = refl
some_bit (suc zero) zero _ _ = refl
some_bit (suc zero) (suc zero) _ _ = refl
some_bit (suc (suc x)) y h _ = absurd (omega (arith, h))
some_bit zero (suc (suc y)) _ h = absurd (omega (arith, h))
some_bit (suc zero) (suc (suc y)) _ h = absurd (omega (arith, h))

-- four words, each made of two
module _ (xs ys : List ℕ) (f : ℕ → ℕ → ℕ) (hx : length xs ≡ 4) (hy : length ys ≡ 4) (none : f 0 0 ≡ 0) where
  abbrev pub of_four : List ℕ
  of_four = f (slice_index xs 0) (slice_index ys 0) ∷ f (slice_index xs 1) (slice_index ys 1) ∷ f (slice_index xs 2) (slice_index ys 2) ∷ f (slice_index xs 3) (slice_index ys 3) ∷ []

  each : (i : ℕ) → slice_index of_four i ≡ f (slice_index xs i) (slice_index ys i)
  each zero = refl
  each (suc zero) = refl
  each (suc (suc zero)) = refl
  each (suc (suc (suc zero))) = refl
  each (suc (suc (suc (suc i)))) =
      let k = suc (suc (suc (suc i))) in
      sym none ∙ ap (λ x. f x 0) (sym (get_or_past xs k 0 (omega (arith, hx)))) ∙ ap (f (slice_index xs k)) (sym (get_or_past ys k 0 (omega (arith, hy))))

pub in_both : (xs ys : List ℕ) (hx : length xs ≡ 4) (hy : length ys ≡ 4) (byte : ℕ) → has_bit (of_four xs ys bit_and hx hy refl) byte ≡ (has_bit xs byte && has_bit ys byte)
in_both xs ys hx hy byte =
    let x = slice_index xs (byte / 64) in
    let y = slice_index ys (byte / 64) in
    let i = byte % 64 in
    ap (λ w. bit_at w i == 1) (each xs ys bit_and hx hy refl (byte / 64)) ∙ ap (λ n. n == 1) (bit_at_and x y i) ∙ both_bits (bit_at x i) (bit_at y i) (one_bit x i) (one_bit y i)

pub in_one : (xs ys : List ℕ) (hx : length xs ≡ 4) (hy : length ys ≡ 4) (byte : ℕ) → has_bit (of_four xs ys bit_or hx hy refl) byte ≡ (has_bit xs byte || has_bit ys byte)
in_one xs ys hx hy byte =
    let x = slice_index xs (byte / 64) in
    let y = slice_index ys (byte / 64) in
    let i = byte % 64 in
    ap (λ w. bit_at w i == 1) (each xs ys bit_or hx hy refl (byte / 64)) ∙ ap (λ n. n == 1) (bit_at_or x y i) ∙ some_bit (bit_at x i) (bit_at y i) (one_bit x i) (one_bit y i)

-- the least byte: the lowest bit of the first word that has one
pub word_none : (words : List ℕ) (place : ℕ) → slice_index words place ≡ 0 → ((byte : ℕ) → byte < 64 * place → has_bit words byte ≡ false) → (byte : ℕ) → byte < 64 * (place + 1) → has_bit words byte ≡ false
word_none words place none below byte h = elim (cases_lt byte (64 * place)) [
  | inl less ↦ below byte less
  | inr more ↦
      let at : byte / 64 ≡ place = omega (arith, h, more) in
      ap (λ n. n == 1) (ap (λ k. bit_at (slice_index words k) (byte % 64)) at ∙ ap (λ w. bit_at w (byte % 64)) none ∙ bit_at-zero (byte % 64))
]

pub past_none : (words : List ℕ) → length words ≡ 4 → ((byte : ℕ) → byte < 256 → has_bit words byte ≡ false) → (byte : ℕ) → has_bit words byte ≡ false
past_none words whole below byte = elim (cases_lt byte 256) [
  | inl less ↦ below byte less
  | inr more ↦ ap (λ n. n == 1) (ap (λ w. bit_at w (byte % 64)) (get_or_past words (byte / 64) 0 (omega (arith, whole, more))) ∙ bit_at-zero (byte % 64))
]

module _ (words : List ℕ) (place : ℕ) (some : 0 < slice_index words place) (fits : slice_index words place < 2 ^ 64) (below : (byte : ℕ) → byte < 64 * place → has_bit words byte ≡ false) where
  abbrev found : (trailing_zeros w64 (slice_index words place) < 64) × (bit_at (slice_index words place) (trailing_zeros w64 (slice_index words place)) ≡ 1)
      × ((i : ℕ) → i < trailing_zeros w64 (slice_index words place) → bit_at (slice_index words place) i ≡ 0)
  found = bit_at-trailing_zeros w64 (slice_index words place) some fits

  abbrev least_byte : ℕ
  least_byte = 64 * place + trailing_zeros w64 (slice_index words place)

  pub least_has : has_bit words least_byte ≡ true
  least_has =
      let t = trailing_zeros w64 (slice_index words place) in
      let low : t < 64 = found.0 in
      let at : (64 * place + t) / 64 ≡ place = omega (arith, low) in
      let in_it : (64 * place + t) % 64 ≡ t = omega (arith, low) in
      ap (λ n. n == 1) (ap (λ k. bit_at (slice_index words k) ((64 * place + t) % 64)) at ∙ ap (bit_at (slice_index words place)) in_it ∙ found.1)

  pub least_lacks : (byte : ℕ) → byte < least_byte → has_bit words byte ≡ false
  least_lacks byte h = elim (cases_lt byte (64 * place)) [
    | inl less ↦ below byte less
    | inr more ↦
        let t = trailing_zeros w64 (slice_index words place) in
        let low : t < 64 = found.0 in
        let at : byte / 64 ≡ place = omega (arith, h, more, low) in
        let in_it : byte % 64 < t = omega (arith, h, more, low) in
        ap (λ n. n == 1) (ap (λ k. bit_at (slice_index words k) (byte % 64)) at ∙ found.2 (byte % 64) in_it)
  ]
