-- The lowest bit of two masks of lanes.
use Rattle.std.proofs.Common.{◌≡◌, ℕ, zero, suc, ◌^◌, ◌<◌, ◌≤◌, List, [], ◌∷◌, Bool, true, false, cond, not, eqb, leb, ltb, length, take, drop, get_or, ◌+◌, map, refl, sym, ap, subst, ◌∙◌, arith, w64, ◌⊎◌, inl, inr}
use Rattle.std.specs.Int.Bits.{bit_or}
use Rattle.std.specs.Int.{bit_at, trailing_zeros}
use Rattle.std.specs.Int.Count.{count_trailing_zeros}
use Rattle.std.specs.Simd.Lanes.{mask_l, zip2}
use Rattle.std.proofs.Math.Nat.{pow-le-pow_right}
use Rattle.std.proofs.lemmas.List.{get_or-take, get_or-drop, length-drop, get_or-map, length-map, length-take-le}
use Rattle.std.proofs.lemmas.Nat.{or_lt}
use Rattle.std.proofs.lemmas.Simd.{bit_mask_l, mask_l-lt, get_or-zip2, length-zip2}
use Rattle.std.proofs.lemmas.Bool.{eq-eqb, eqb-true, leb-true, leb-false, ltb-true, ltb-false, cases_lt, cases_eq, ne_eqb}
use Rattle.std.proofs.lemmas.Nat.Bits.{bit_at-trailing_zeros, bit_at_or, bit_at-zero}

-- the lanes that are a byte
abbrev pub mask_of : List ℕ → ℕ → ℕ
mask_of xs y = mask_l (map (λ z. eqb z y) xs)

read : (xs : List ℕ) (y k : ℕ) → k < length xs → get_or (map (λ z. eqb z y) xs) k false ≡ eqb (get_or xs k 0) y
read [] y k h = absurd (omega arith)
read (x ∷ xs) y zero h = refl
read (x ∷ xs) y (suc k) h = read xs y k (omega arith)

bit_is : (xs : List ℕ) (y k : ℕ) → k < length xs → bit_at (mask_of xs y) k ≡ cond (eqb (get_or xs k 0) y) 1 0
bit_is xs y k h = bit_mask_l (map (λ z. eqb z y) xs) k ∙ ap (λ b. cond b 1 0) (read xs y k h)

-- a bit that is set is a lane that is the byte
bit_set : (xs : List ℕ) (y k : ℕ) → k < length xs → get_or xs k 0 ≡ y → bit_at (mask_of xs y) k ≡ 1
bit_set xs y k h e = bit_is xs y k h ∙ ap (λ b. cond {A = ℕ} b 1 0) (eq-eqb (get_or xs k 0) y e)

bit_clear : (xs : List ℕ) (y k : ℕ) → k < length xs → (get_or xs k 0 ≡ y → ⊥) → bit_at (mask_of xs y) k ≡ 0
bit_clear xs y k h n = bit_is xs y k h ∙ ap (λ b. cond {A = ℕ} b 1 0) (ne_eqb (get_or xs k 0) y n)

length-read : (xs : List ℕ) (y : ℕ) → length (map (λ z. eqb z y) xs) ≡ length xs
length-read [] y = refl
length-read (x ∷ xs) y = ap suc (length-read xs y)

fits : (xs : List ℕ) (y : ℕ) → length xs ≤ 64 → mask_of xs y < 2 ^ 64
fits xs y h =
    let s = subst (λ n. mask_of xs y < 2 ^ n) (length-read xs y) (mask_l-lt (map (λ z. eqb z y) xs)) in
    let more : 2 ^ length xs ≤ 2 ^ 64 = pow-le-pow_right (omega arith) h in
    omega arith

no_bits : trailing_zeros w64 0 ≡ 64
unfolding count_trailing_zeros
no_bits = refl

module _ (xs : List ℕ) (y z : ℕ) (short : length xs ≤ 64) where
  abbrev pub both : ℕ
  both = bit_or (mask_of xs y) (mask_of xs z)

  both_fit : both < 2 ^ 64
  both_fit = or_lt 64 (mask_of xs y) (mask_of xs z) (fits xs y short) (fits xs z short)

  pub first_hit : trailing_zeros w64 both < length xs → (get_or xs (trailing_zeros w64 both) 0 ≡ y) ⊎ (get_or xs (trailing_zeros w64 both) 0 ≡ z)
  first_hit h =
      let k = trailing_zeros w64 both in
      elim (cases_lt 0 both) [
        | inl some ↦
            let set = (bit_at-trailing_zeros w64 both some both_fit).1 in
            elim (cases_eq (get_or xs k 0) y) [
              | inl same ↦ inl same
              | inr other ↦ elim (cases_eq (get_or xs k 0) z) [
                | inl same ↦ inr same
                | inr neither ↦
                    let a = bit_clear xs y k h other in
                    let b = bit_clear xs z k h neither in
                    let o = bit_at_or (mask_of xs y) (mask_of xs z) k in
                    absurd (omega (arith, a, b, o, set))
              ]
            ]
        | inr none ↦ let e : both ≡ 0 = omega arith in let f = ap (trailing_zeros w64) e ∙ no_bits in absurd (omega (arith, f, h, short))
      ]

  pub first_missed : (k : ℕ) → k < length xs → k < trailing_zeros w64 both → (get_or xs k 0 ≡ y → ⊥) × (get_or xs k 0 ≡ z → ⊥)
  first_missed k h before =
      let clear : bit_at both k ≡ 0 = elim (cases_lt 0 both) [
        | inl some ↦ (bit_at-trailing_zeros w64 both some both_fit).2 k before
        | inr none ↦ let e : both ≡ 0 = omega arith in ap (λ n. bit_at n k) e ∙ bit_at-zero k
      ] in
      let o = bit_at_or (mask_of xs y) (mask_of xs z) k in
      (λ e. (let a = bit_set xs y k h e in omega (arith, a, o, clear)), λ e. (let b = bit_set xs z k h e in omega (arith, b, o, clear)))

-- the first n of some bytes, as they are loaded
module _ (n : ℕ) (bytes : List ℕ) (y z : ℕ) (short : n ≤ 64) (long : n ≤ length bytes) where
  lanes_len : length (take n bytes) ≡ n
  lanes_len = length-take-le n bytes long

  pub lowest_hit : (a b : ℕ) → a ≡ mask_of (take n bytes) y → b ≡ mask_of (take n bytes) z
      → trailing_zeros w64 (bit_or a b) < n → (get_or bytes (trailing_zeros w64 (bit_or a b)) 0 ≡ y) ⊎ (get_or bytes (trailing_zeros w64 (bit_or a b)) 0 ≡ z)
  lowest_hit a b is_a is_b h =
      let k = trailing_zeros w64 (bit_or a b) in
      let e : trailing_zeros w64 (both (take n bytes) y z (omega (arith, lanes_len, short))) ≡ k = rw (is_a, is_b) refl in
      let same = get_or-take n bytes k 0 h in
      let hit = subst (λ j. j < length (take n bytes) → (get_or (take n bytes) j 0 ≡ y) ⊎ (get_or (take n bytes) j 0 ≡ z)) e (first_hit (take n bytes) y z (omega (arith, lanes_len, short))) (omega (arith, lanes_len, h)) in
      elim hit [
        | inl one ↦ inl (sym same ∙ one)
        | inr other ↦ inr (sym same ∙ other)
      ]

  pub lowest_missed : (a b : ℕ) → a ≡ mask_of (take n bytes) y → b ≡ mask_of (take n bytes) z
      → (k : ℕ) → k < n → k < trailing_zeros w64 (bit_or a b) → (get_or bytes k 0 ≡ y → ⊥) × (get_or bytes k 0 ≡ z → ⊥)
  lowest_missed a b is_a is_b k h before =
      let e : trailing_zeros w64 (bit_or a b) ≡ trailing_zeros w64 (both (take n bytes) y z (omega (arith, lanes_len, short))) = rw (is_a, is_b) refl in
      let same = get_or-take n bytes k 0 h in
      let missed = first_missed (take n bytes) y z (omega (arith, lanes_len, short)) k (omega (arith, lanes_len, h)) (subst (λ j. k < j) e before) in
      (λ f. missed.0 (same ∙ f), λ f. missed.1 (same ∙ f))

-- two masks of lanes that tests give: below the lowest bit of both, no test holds
module _ (ms ns : List Bool) (n : ℕ) (short : n ≤ 64) (ms_len : length ms ≡ n) (ns_len : length ns ≡ n) where
  abbrev either : ℕ
  either = bit_or (mask_l ms) (mask_l ns)

  mask_fits : (xs : List Bool) → length xs ≡ n → mask_l xs < 2 ^ 64
  mask_fits xs e =
      let s = subst (λ m. mask_l xs < 2 ^ m) e (mask_l-lt xs) in
      let more : 2 ^ n ≤ 2 ^ 64 = pow-le-pow_right (omega arith) short in
      omega arith

  either_fits : either < 2 ^ 64
  either_fits = or_lt 64 (mask_l ms) (mask_l ns) (mask_fits ms ms_len) (mask_fits ns ns_len)

  unset : (xs : List Bool) (k : ℕ) → bit_at (mask_l xs) k ≡ 0 → get_or xs k false ≡ false
  unset xs k e = by (get_or xs k false) (sym (bit_mask_l xs k) ∙ e)
    where
      by : (b : Bool) → cond {A = ℕ} b 1 0 ≡ 0 → b ≡ false
      by true e = absurd (omega (arith, e))
      by false e = refl

  none_set : (k : ℕ) → k < n → k < trailing_zeros w64 either → (get_or ms k false ≡ false) × (get_or ns k false ≡ false)
  none_set k h before =
      let clear : bit_at either k ≡ 0 = elim (cases_lt 0 either) [
        | inl some ↦ (bit_at-trailing_zeros w64 either some either_fits).2 k before
        | inr none ↦ let e : either ≡ 0 = omega arith in ap (λ n. bit_at n k) e ∙ bit_at-zero k
      ] in
      let o = bit_at_or (mask_l ms) (mask_l ns) k in
      (unset ms k (omega (arith, o, clear)), unset ns k (omega (arith, o, clear)))

-- a mask of lanes that a test gives: below its lowest bit the test holds nowhere, and there it holds
module _ (ms : List Bool) (n : ℕ) (short : n ≤ 64) (ms_len : length ms ≡ n) where
  one_fits : mask_l ms < 2 ^ 64
  one_fits =
      let s = subst (λ m. mask_l ms < 2 ^ m) ms_len (mask_l-lt ms) in
      let more : 2 ^ n ≤ 2 ^ 64 = pow-le-pow_right (omega arith) short in
      omega arith

  lane_of : (k : ℕ) → bit_at (mask_l ms) k ≡ cond {A = ℕ} (get_or ms k false) 1 0
  lane_of k = bit_mask_l ms k

  pub none_before : (k : ℕ) → k < trailing_zeros w64 (mask_l ms) → get_or ms k false ≡ false
  none_before k before = by (get_or ms k false) (sym (lane_of k) ∙ clear)
    where
      clear : bit_at (mask_l ms) k ≡ 0
      clear = elim (cases_lt 0 (mask_l ms)) [
        | inl some ↦ (bit_at-trailing_zeros w64 (mask_l ms) some one_fits).2 k before
        | inr none ↦ let e : mask_l ms ≡ 0 = omega arith in ap (λ m. bit_at m k) e ∙ bit_at-zero k
      ]

      by : (b : Bool) → cond {A = ℕ} b 1 0 ≡ 0 → b ≡ false
      by true e = absurd (omega (arith, e))
      by false e = refl

  pub one_there : trailing_zeros w64 (mask_l ms) < n → get_or ms (trailing_zeros w64 (mask_l ms)) false ≡ true
  one_there h = elim (cases_lt 0 (mask_l ms)) [
    | inl some ↦ by (get_or ms (trailing_zeros w64 (mask_l ms)) false) (sym (lane_of (trailing_zeros w64 (mask_l ms))) ∙ (bit_at-trailing_zeros w64 (mask_l ms) some one_fits).1)
    | inr none ↦ let e : mask_l ms ≡ 0 = omega arith in let f = ap (trailing_zeros w64) e ∙ no_bits in absurd (omega (arith, f, h, short))
  ]
    where
      by : (b : Bool) → cond {A = ℕ} b 1 0 ≡ 1 → b ≡ true
      by true e = refl
      by false e = absurd (omega (arith, e))

-- the lanes of two vectors of sixteen bytes, the other of which begins one byte later
module _ (bytes : List ℕ) (long : 17 ≤ length bytes) where
  abbrev stops : List Bool
  stops = zip2 (λ a b. leb a b) (take 16 (drop 1 bytes)) (take 16 bytes)

  here_len : length (take 16 bytes) ≡ 16
  here_len = length-take-le 16 bytes (omega arith)

  next_len : length (take 16 (drop 1 bytes)) ≡ 16
  next_len = (let gone = length-drop 1 bytes in length-take-le 16 (drop 1 bytes) (omega arith))

  pub stops_len : length stops ≡ 16
  stops_len = length-zip2 (λ a b. leb a b) (take 16 (drop 1 bytes)) (take 16 bytes) (next_len ∙ sym here_len) ∙ next_len

  lane_is : (k : ℕ) → k < 16 → get_or stops k false ≡ leb (get_or bytes (k + 1) 0) (get_or bytes k 0)
  lane_is k h =
      let here = get_or-take 16 bytes k 0 h in
      let step : 1 + k ≡ k + 1 = omega arith in
      let next = get_or-take 16 (drop 1 bytes) k 0 h ∙ get_or-drop 1 bytes k 0 ∙ ap (λ j. get_or bytes j 0) step in
      get_or-zip2 (λ a b. leb a b) (take 16 (drop 1 bytes)) (take 16 bytes) k 0 0 false (omega (arith, next_len, h)) (omega (arith, here_len, h)) ∙ (λ i. leb (next i) (here i))

  pub lowest_rises : (a : ℕ) → a ≡ mask_l stops → (k : ℕ) → k < 16 → k < trailing_zeros w64 a → get_or bytes k 0 < get_or bytes (k + 1) 0
  lowest_rises a is k h before = leb-false _ _ (sym (lane_is k h) ∙ none_before stops 16 (omega arith) stops_len k (subst (λ m. k < trailing_zeros w64 m) is before))

  pub lowest_stops : (a : ℕ) → a ≡ mask_l stops → trailing_zeros w64 a < 16 → get_or bytes (trailing_zeros w64 a + 1) 0 ≤ get_or bytes (trailing_zeros w64 a) 0
  lowest_stops a is h =
      let k = trailing_zeros w64 a in
      leb-true _ _ (sym (lane_is k h) ∙ subst (λ m. get_or stops (trailing_zeros w64 m) false ≡ true) (sym is) (one_there stops 16 (omega arith) stops_len (subst (λ m. trailing_zeros w64 m < 16) is h)))

-- sixteen bytes, of which some are 128 or more
module _ (bytes : List ℕ) (long : 16 ≤ length bytes) where
  abbrev pub lows : List Bool
  lows = map (λ a. ltb a 128) (take 16 bytes)

  lows_len : length lows ≡ 16
  lows_len = length-map (take 16 bytes) (λ a. ltb a 128) ∙ length-take-le 16 bytes long

  low_is : (k : ℕ) → k < 16 → get_or lows k false ≡ ltb (get_or bytes k 0) 128
  low_is k h = let there = length-take-le 16 bytes long in get_or-map (λ a. ltb a 128) (take 16 bytes) k 0 false (omega (arith, there, h)) ∙ ap (λ x. ltb x 128) (get_or-take 16 bytes k 0 h)

  pub lowest_high : (a : ℕ) → a ≡ mask_l lows → (k : ℕ) → k < 16 → k < trailing_zeros w64 a → 128 ≤ get_or bytes k 0
  lowest_high a is k h before = ltb-false _ _ (sym (low_is k h) ∙ none_before lows 16 (omega arith) lows_len k (subst (λ m. k < trailing_zeros w64 m) is before))

  pub lowest_low : (a : ℕ) → a ≡ mask_l lows → trailing_zeros w64 a < 16 → get_or bytes (trailing_zeros w64 a) 0 < 128
  lowest_low a is h =
      let k = trailing_zeros w64 a in
      ltb-true _ _ (sym (low_is k h) ∙ subst (λ m. get_or lows (trailing_zeros w64 m) false ≡ true) (sym is) (one_there lows 16 (omega arith) lows_len (subst (λ m. trailing_zeros w64 m < 16) is h)))

-- two vectors of sixteen lanes: below the lowest lane that differs or is from 128 on
module _ (bytes others : List ℕ) (long : 16 ≤ length bytes) (other_long : 16 ≤ length others) where
  abbrev differ : List Bool
  differ = zip2 (λ a b. not (eqb a b)) (take 16 bytes) (take 16 others)

  abbrev high : List Bool
  high = map (λ a. leb 128 a) (take 16 bytes)

  pub differ_len : length differ ≡ 16
  differ_len = length-zip2 (λ a b. not (eqb a b)) (take 16 bytes) (take 16 others) (length-take-le 16 bytes long ∙ sym (length-take-le 16 others other_long)) ∙ length-take-le 16 bytes long

  pub high_len : length high ≡ 16
  high_len = length-map (take 16 bytes) (λ a. leb 128 a) ∙ length-take-le 16 bytes long

  pub lowest_other : (a b : ℕ) → a ≡ mask_l differ → b ≡ mask_l high → (k : ℕ) → k < 16 → k < trailing_zeros w64 (bit_or a b)
      → (get_or bytes k 0 < 128) × (get_or bytes k 0 ≡ get_or others k 0)
  lowest_other a b is_a is_b k h before =
      let e : trailing_zeros w64 (bit_or a b) ≡ trailing_zeros w64 (bit_or (mask_l differ) (mask_l high)) = rw (is_a, is_b) refl in
      let clear = none_set differ high 16 (omega arith) differ_len high_len k h (subst (λ j. k < j) e before) in
      let same = get_or-take 16 bytes k 0 h in
      let other = get_or-take 16 others k 0 h in
      let there = length-take-le 16 bytes long in
      let other_there = length-take-le 16 others other_long in
      let low : leb 128 (get_or bytes k 0) ≡ false = ap (leb 128) (sym same) ∙ sym (get_or-map (λ a. leb 128 a) (take 16 bytes) k 0 false (omega (arith, there, h))) ∙ clear.1 in
      let equal : not (eqb (get_or bytes k 0) (get_or others k 0)) ≡ false =
      (λ i. not (eqb (sym same i) (sym other i))) ∙ sym (get_or-zip2 (λ a b. not (eqb a b)) (take 16 bytes) (take 16 others) k 0 0 false (omega (arith, there, h)) (omega (arith, other_there, h))) ∙ clear.0 in
      (leb-false 128 (get_or bytes k 0) low, eqb-true _ _ (sym (twice _) ∙ ap not equal))
    where
      twice : (b : Bool) → not (not b) ≡ b
      twice true = refl
      twice false = refl
