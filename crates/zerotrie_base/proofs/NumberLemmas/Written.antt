-- Lemmas on the writing of numbers.
use Rattle.std.proofs.Common.{◌≡◌, ℕ, ◌+◌, ◌-◌, ◌*◌, ◌/◌, ◌%◌, ◌^◌, ◌<◌, ◌≤◌, List, [], ◌∷◌, length, ◌∙◌, ap, arith, inl, inr, lit<}
use Rattle.std.proofs.lemmas.Bool.{cases_lt}
use Rattle.std.proofs.Math.Nat.{pow-suc, mul-le-mul_right, pow-le-pow_right}
use Rattle.zerotrie_base.specs.Numbers.{IsTrail, base_128, latent, extender}
use Rattle.zerotrie_base.proofs.NumberLemmas.Numbers.{base_128-shift}

-- what is left of the number v, and the trail bytes so far
pub record Completes (L v left : ℕ) (trail : List ℕ) : Type 0 where
  pub is_trail : IsTrail trail
  pub short : length trail ≤ 9
  pub room : left * 128 ^ length trail < 2 ^ 64
  pub value : v ≡ base_128 left trail + latent L (length trail)

IsTrail-more : (low : ℕ) (ts : List ℕ) → low < 128 → IsTrail ts → IsTrail ((low + 128 * extender ts) ∷ ts)
IsTrail-more low [] h is = omega arith
IsTrail-more low (u ∷ us) h is = (omega arith, omega arith, is)

low_digit : (low e : ℕ) → low < 128 → (low + 128 * e) % 128 ≡ low
low_digit low e h = omega arith

few : (a n : ℕ) → 16 ≤ a → a * 128 ^ n < 2 ^ 64 → n ≤ 8
few a n h room =
    elim (cases_lt n 9) [
      | inl small ↦ omega arith
      | inr large ↦
          let power : 128 ^ 9 ≤ 128 ^ n = pow-le-pow_right (lit< tt) large in
          let times : 16 * 128 ^ n ≤ a * 128 ^ n = mul-le-mul_right (128 ^ n) h in
          absurd (omega arith)
    ]

still_room : (q a p : ℕ) → 128 * q ≤ a → a * p < 2 ^ 64 → q * (p * 128) < 2 ^ 64
still_room q a p h room = let le = mul-le-mul_right p h in omega (arith, le)

pub completes_more : (L v a : ℕ) (ts : List ℕ) → 16 ≤ L → L ≤ a → Completes L v a ts → Completes L v ((a - L) / 128) (((a - L) % 128 + 128 * extender ts) ∷ ts)
completes_more L v a ts big more c =
    let digit : (a - L) % 128 < 128 = omega arith in
    let again : 128 * ((a - L) / 128) + ((a - L) % 128 + 128 * extender ts) % 128 ≡ a - L = rw (low_digit ((a - L) % 128) (extender ts) digit) (omega arith) in
    let split : base_128 a ts ≡ base_128 (a - L) ts + L * 128 ^ length ts = ap (λ x. base_128 x ts) (let e : a ≡ a - L + L = omega arith in e) ∙ base_128-shift L (a - L) ts in
    record {
      is_trail = IsTrail-more ((a - L) % 128) ts digit c.is_trail;
      short = let n = few a (length ts) (omega arith) c.room in omega arith;
      room = rw (pow-suc 128 (length ts)) (still_room ((a - L) / 128) a (128 ^ length ts) (omega arith) c.room);
      value = c.value ∙ rw (split, again) (omega arith);
    }
