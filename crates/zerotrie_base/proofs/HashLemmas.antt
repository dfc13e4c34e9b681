-- Buckets and places.
use Rattle.std.proofs.Common.{◌≡◌, ℕ, zero, suc, ◌+◌, ◌-◌, ◌*◌, ◌/◌, ◌%◌, ◌<◌, ◌≤◌, refl, ap, arith}
use Rattle.std.specs.Prelude.{bit_xor}
use Rattle.std.specs.Int.Bits.{xor_zero_r}
use Rattle.zerotrie_base.specs.Hashes.{f1, f2, turned}

-- one turn more
pub turned_more : (q i r : ℕ) → i < q → turned (q - i) r ≡ turned (q - (i + 1)) (bit_xor (bit_xor r (r * 2 % 256)) (r / 2))
turned_more q i r h =
    let e : q - i ≡ suc (q - (i + 1)) = omega arith in
    ap (λ k. turned k r) e

pub f1_below : (b p n c : ℕ) → (n ≡ 0 → b < c) → n ≤ c → f1 b p n < c
f1_below b p zero c whole h = whole refl
f1_below b zero (suc n) c whole h = omega arith
f1_below b (suc p) (suc n) c whole h = omega arith

pub f2_below : (b q n c : ℕ) → (n ≡ 0 → b < c) → n ≤ c → f2 b q n < c
f2_below b q zero c whole h = whole refl
f2_below b q (suc n) c whole h = omega arith

-- with 0 for the parameter
pub f2_plain : (b n : ℕ) → 0 < n → f2 b 0 n ≡ b % n
f2_plain b zero h = absurd (omega arith)
f2_plain b (suc n) h = ap (λ r. r % suc n) (xor_zero_r b)
