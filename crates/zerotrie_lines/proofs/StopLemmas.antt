-- The first place of one of three bytes among sixteen, by the lowest bit of masks of lanes.
use Rattle.std.proofs.Common.{◌≡◌, ℕ, zero, suc, ◌^◌, ◌<◌, ◌≤◌, List, [], ◌∷◌, Bool, true, false, cond, eqb, length, take, get_or, map, refl, sym, ap, subst, ◌∙◌, arith, w64, inl, inr}
use Rattle.std.specs.Prelude.{◌≢◌, ◌||◌, max}
use Rattle.std.specs.Int.Bits.{bit_or}
use Rattle.std.specs.Int.{bit_at, trailing_zeros}
use Rattle.std.specs.Simd.Lanes.{mask_l}
use Rattle.std.proofs.Math.Nat.{pow-le-pow_right}
use Rattle.std.proofs.lemmas.List.{get_or-take, length-take-le}
use Rattle.std.proofs.lemmas.Nat.{or_lt}
use Rattle.std.proofs.lemmas.Simd.{bit_mask_l, mask_l-lt}
use Rattle.std.proofs.lemmas.Bool.{cases_lt}
use Rattle.std.proofs.lemmas.Nat.Bits.{bit_at-trailing_zeros, bit_at_or}
use Rattle.memchr.specs.Find.{NoneBefore, Passes, is_byte3}

-- the lanes that are a byte
abbrev pub mask_of : List ℕ → ℕ → ℕ
mask_of xs y = mask_l (map (λ z. eqb z y) xs)

read : (xs : List ℕ) (y k : ℕ) → k < length xs → get_or (map (λ z. eqb z y) xs) k false ≡ eqb (get_or xs k 0) y
read [] y k h = absurd (omega arith)
read (x ∷ xs) y zero h = refl
read (x ∷ xs) y (suc k) h = read xs y k (omega arith)

read_far : (xs : List ℕ) (y k : ℕ) → length xs ≤ k → get_or (map (λ z. eqb z y) xs) k false ≡ false
read_far [] y k h = refl
read_far (x ∷ xs) y zero h = absurd (omega arith)
read_far (x ∷ xs) y (suc k) h = read_far xs y k (omega arith)

bit_is : (xs : List ℕ) (y k : ℕ) → k < length xs → bit_at (mask_of xs y) k ≡ cond {A = ℕ} (eqb (get_or xs k 0) y) 1 0
bit_is xs y k h = bit_mask_l (map (λ z. eqb z y) xs) k ∙ ap (λ b. cond {A = ℕ} b 1 0) (read xs y k h)

bit_far : (xs : List ℕ) (y k : ℕ) → length xs ≤ k → bit_at (mask_of xs y) k ≡ 0
bit_far xs y k h = bit_mask_l (map (λ z. eqb z y) xs) k ∙ ap (λ b. cond {A = ℕ} b 1 0) (read_far xs y k h)

length-read : (xs : List ℕ) (y : ℕ) → length (map (λ z. eqb z y) xs) ≡ length xs
length-read [] y = refl
length-read (x ∷ xs) y = ap suc (length-read xs y)

fits : (xs : List ℕ) (y : ℕ) → length xs ≤ 64 → mask_of xs y < 2 ^ 64
fits xs y h =
    let s = subst (λ n. mask_of xs y < 2 ^ n) (length-read xs y) (mask_l-lt (map (λ z. eqb z y) xs)) in
    let more : 2 ^ length xs ≤ 2 ^ 64 = pow-le-pow_right (omega arith) h in
    omega arith

joined : (p q r : Bool) → max (max (cond {A = ℕ} p 1 0) (cond {A = ℕ} q 1 0)) (cond {A = ℕ} r 1 0) ≡ cond {A = ℕ} (p || q || r) 1 0
joined true true true = refl
joined true true false = refl
joined true false true = refl
joined true false false = refl
joined false true true = refl
joined false true false = refl
joined false false true = refl
joined false false false = refl

told : (b : Bool) → cond {A = ℕ} b 1 0 ≡ 1 → b ≡ true
told true e = refl
told false e = absurd (omega (arith, e))

denied : (b : Bool) → cond {A = ℕ} b 1 0 ≡ 0 → b ≡ true → ⊥
denied true e t = omega (arith, e)
denied false e t = cc

module _ (xs : List ℕ) (x y z : ℕ) where
  abbrev pub any_of : ℕ
  any_of = bit_or (bit_or (mask_of xs x) (mask_of xs y)) (mask_of xs z)

  any_fits : length xs ≤ 64 → any_of < 2 ^ 64
  any_fits short = or_lt 64 (bit_or (mask_of xs x) (mask_of xs y)) (mask_of xs z) (or_lt 64 (mask_of xs x) (mask_of xs y) (fits xs x short) (fits xs y short)) (fits xs z short)

  any_bit : (k : ℕ) → bit_at any_of k ≡ max (max (bit_at (mask_of xs x) k) (bit_at (mask_of xs y) k)) (bit_at (mask_of xs z) k)
  any_bit k = bit_at_or (bit_or (mask_of xs x) (mask_of xs y)) (mask_of xs z) k ∙ ap (λ n. max n (bit_at (mask_of xs z) k)) (bit_at_or (mask_of xs x) (mask_of xs y) k)

  any_is : (k : ℕ) → k < length xs → bit_at any_of k ≡ cond {A = ℕ} (is_byte3 x y z (get_or xs k 0)) 1 0
  any_is k h = any_bit k ∙ rw (bit_is xs x k h, bit_is xs y k h, bit_is xs z k h) (joined (eqb (get_or xs k 0) x) (eqb (get_or xs k 0) y) (eqb (get_or xs k 0) z))

  any_far : (k : ℕ) → length xs ≤ k → bit_at any_of k ≡ 0
  any_far k h = let e = any_bit k in let f = bit_far xs x k h in let g = bit_far xs y k h in let i = bit_far xs z k h in omega (arith, e, f, g, i)

-- the first n bytes of a text, as they are loaded
module _ (n : ℕ) (text : List ℕ) (x y z : ℕ) (short : n ≤ 64) (long : n ≤ length text) where
  lanes_len : length (take n text) ≡ n
  lanes_len = length-take-le n text long

  lowest_stop : any_of (take n text) x y z ≢ 0
      → NoneBefore (Passes (is_byte3 x y z) text) 0 (length text) (trailing_zeros w64 (any_of (take n text) x y z)) × Passes (is_byte3 x y z) text (trailing_zeros w64 (any_of (take n text) x y z))
  lowest_stop some =
      let xs = take n text in
      let m = any_of xs x y z in
      let k = trailing_zeros w64 m in
      let more : 0 < m = elim (cases_lt 0 m) [
        | inl more ↦ more
        | inr none ↦ absurd (some (omega (arith, none)))
      ] in
      let lowest = bit_at-trailing_zeros w64 m more (any_fits xs x y z (omega (arith, lanes_len, short))) in
      let within : k < n = elim (cases_lt k n) [
        | inl near ↦ near
        | inr far ↦ let f = any_far xs x y z k (omega (arith, lanes_len, far)) in let s = lowest.1 in absurd (omega (arith, f, s))
      ] in
      let told_at : (j : ℕ) → j < n → bit_at m j ≡ cond {A = ℕ} (is_byte3 x y z (get_or text j 0)) 1 0 =
      λ j h. any_is xs x y z j (omega (arith, lanes_len, h)) ∙ ap (λ b. cond {A = ℕ} (is_byte3 x y z b) 1 0) (get_or-take n text j 0 h) in (
        record {
          low = omega arith;
          high = omega (arith, within, long);
          before = λ j _ before. denied (is_byte3 x y z (get_or text j 0)) (sym (told_at j (omega (arith, before, within))) ∙ lowest.2 j before);
        },
        told (is_byte3 x y z (get_or text k 0)) (sym (told_at k within) ∙ lowest.1),
      )

  -- the same of masks that are known to be those of the lanes
  pub first_stop_is : (a b c : ℕ) → a ≡ mask_of (take n text) x → b ≡ mask_of (take n text) y → c ≡ mask_of (take n text) z → bit_or (bit_or a b) c ≢ 0
      → NoneBefore (Passes (is_byte3 x y z) text) 0 (length text) (trailing_zeros w64 (bit_or (bit_or a b) c)) × Passes (is_byte3 x y z) text (trailing_zeros w64 (bit_or (bit_or a b) c))
  first_stop_is a b c is_a is_b is_c =
      let e : any_of (take n text) x y z ≡ bit_or (bit_or a b) c = rw (is_a, is_b, is_c) refl in
      subst (λ m. m ≢ 0 → NoneBefore (Passes (is_byte3 x y z) text) 0 (length text) (trailing_zeros w64 m) × Passes (is_byte3 x y z) text (trailing_zeros w64 m)) e lowest_stop
