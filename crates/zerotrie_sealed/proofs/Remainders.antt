-- Products of remainders with powers of x.
use Rattle.std.proofs.Common.{◌≡◌, ℕ, zero, suc, ◌+◌, ◌*◌, ◌/◌, ◌%◌, ◌^◌, ◌<◌, ◌==◌, if◌then◌else◌, bit_xor, Bool, true, false, refl, sym, ap, ◌∙◌, pow-suc, pow_pos, arith}
use Rattle.std.proofs.lemmas.Nat.{xor_comm, xor_shr, xor_mod, xor_lt}
use Rattle.std.specs.Int.Bits.{xor_assoc, xor_zero_r}
use lib.Bits.{xor_shifted}
use Rattle.zerotrie_sealed.specs.Checksum.{polynomial, times_x, times_power}

-- two sums, added term by term
pub swapped : (a b c d : ℕ) → bit_xor (bit_xor a b) (bit_xor c d) ≡ bit_xor (bit_xor a c) (bit_xor b d)
swapped a b c d =
    xor_assoc a b (bit_xor c d)
    ∙ ap (bit_xor a) (sym (xor_assoc b c d) ∙ ap (λ e. bit_xor e d) (xor_comm b c) ∙ xor_assoc c b d)
    ∙ sym (xor_assoc a c (bit_xor b d))

-- what is subtracted where this bit comes out
abbrev pub carried : ℕ → ℕ
carried b = if b == 0 then 0 else polynomial

carried-xor : (a b : ℕ) → a < 2 → b < 2 → carried (bit_xor a b) ≡ bit_xor (carried a) (carried b)
carried-xor zero zero p q = refl
carried-xor zero (suc zero) p q = refl
carried-xor (suc zero) zero p q = refl
carried-xor (suc zero) (suc zero) p q = refl
carried-xor zero (suc (suc b)) p q = absurd (omega arith)
carried-xor (suc zero) (suc (suc b)) p q = absurd (omega arith)
carried-xor (suc (suc a)) b p q = absurd (omega arith)

choice : (b : Bool) (half rest : ℕ) → (if b then half else bit_xor half rest) ≡ bit_xor half (if b then 0 else rest)
choice true half rest = sym (xor_zero_r half)
choice false half rest = refl

pub times_x-is : (r : ℕ) → times_x r ≡ bit_xor (r / 2) (carried (r % 2))
unfolding times_x
times_x-is r = choice (r % 2 == 0) (r / 2) polynomial

times_x-xor : (a b : ℕ) → times_x (bit_xor a b) ≡ bit_xor (times_x a) (times_x b)
times_x-xor a b =
    times_x-is (bit_xor a b)
    ∙ ap (λ h. bit_xor h (carried (bit_xor a b % 2))) (xor_shr a b 1)
    ∙ ap (bit_xor (bit_xor (a / 2) (b / 2))) (ap carried (xor_mod a b 1) ∙ carried-xor (a % 2) (b % 2) (omega arith) (omega arith))
    ∙ swapped (a / 2) (b / 2) (carried (a % 2)) (carried (b % 2))
    ∙ ap (λ e. bit_xor e (bit_xor (b / 2) (carried (b % 2)))) (sym (times_x-is a))
    ∙ ap (bit_xor (times_x a)) (sym (times_x-is b))

-- the product of a sum is the sum of the products
pub times_power-xor : (n a b : ℕ) → times_power n (bit_xor a b) ≡ bit_xor (times_power n a) (times_power n b)
unfolding times_power
times_power-xor zero a b = refl
times_power-xor (suc n) a b = ap (times_power n) (times_x-xor a b) ∙ times_power-xor n (times_x a) (times_x b)

-- one power after another
pub times_power-add : (m n r : ℕ) → times_power n (times_power m r) ≡ times_power (m + n) r
unfolding times_power
times_power-add zero n r = let e : zero + n ≡ n = omega arith in rw e refl
times_power-add (suc m) n r =
    let e : suc m + n ≡ suc (m + n) = omega arith in
    rw e (times_power-add m n (times_x r))

times_x-even : (y : ℕ) → times_x (2 * y) ≡ y
times_x-even y =
    let half : (2 * y) / 2 ≡ y = omega arith in
    let low : (2 * y) % 2 ≡ 0 = omega arith in
    times_x-is (2 * y) ∙ rw (half, low) (xor_zero_r y)

twice : (k y : ℕ) → y * 2 ^ suc k ≡ 2 * (y * 2 ^ k)
twice k y =
    let e : 2 ^ suc k ≡ 2 ^ k * 2 = pow-suc 2 k in
    rw e (grind arith)

-- bits that stand as much higher are moved down alone
pub times_power-high : (k y : ℕ) → times_power k (y * 2 ^ k) ≡ y
unfolding times_power
times_power-high zero y = let e : y * 2 ^ zero ≡ y = omega arith in e
times_power-high (suc k) y =
    let e : y * 2 ^ suc k ≡ 2 * (y * 2 ^ k) = twice k y in
    rw e (ap (times_power k) (times_x-even (y * 2 ^ k)) ∙ times_power-high k y)

pub times_power-zero : (k : ℕ) → times_power k 0 ≡ 0
times_power-zero k = let e : 0 * 2 ^ k ≡ 0 = omega arith in rw e at (times_power-high k 0)

pub joined : (k a b : ℕ) → a < 2 ^ k → bit_xor a (b * 2 ^ k) ≡ a + b * 2 ^ k
joined k a b low = xor_comm a (b * 2 ^ k) ∙ xor_shifted b k a low ∙ omega arith

-- the low bits of a number have all of the power, and the others what is left of it
pub times_power-split : (k n w : ℕ) → times_power (k + n) w ≡ bit_xor (times_power (k + n) (w % 2 ^ k)) (times_power n (w / 2 ^ k))
times_power-split k n w =
    let positive : 0 < 2 ^ k = pow_pos k in
    let low : w % 2 ^ k < 2 ^ k = omega arith in
    let whole : w % 2 ^ k + w / 2 ^ k * 2 ^ k ≡ w = omega arith in
    let parts : w ≡ bit_xor (w % 2 ^ k) (w / 2 ^ k * 2 ^ k) = sym (joined k (w % 2 ^ k) (w / 2 ^ k) low ∙ whole) in
    ap (times_power (k + n)) parts
    ∙ times_power-xor (k + n) (w % 2 ^ k) (w / 2 ^ k * 2 ^ k)
    ∙ ap (bit_xor (times_power (k + n) (w % 2 ^ k))) (sym (times_power-add k n (w / 2 ^ k * 2 ^ k)) ∙ ap (times_power n) (times_power-high k (w / 2 ^ k)))

carried-lt : (b : Bool) → (if b then 0 else polynomial) < 2 ^ 32
carried-lt true = omega arith
carried-lt false = omega arith

pub times_x-lt : (r : ℕ) → r < 2 ^ 32 → times_x r < 2 ^ 32
times_x-lt r low = rw (times_x-is r) (xor_lt 32 (r / 2) (carried (r % 2)) (omega arith) (carried-lt (r % 2 == 0)))

-- a product is a remainder
pub times_power-lt : (n r : ℕ) → r < 2 ^ 32 → times_power n r < 2 ^ 32
unfolding times_power
times_power-lt zero r low = low
times_power-lt (suc n) r low = times_power-lt n (times_x r) (times_x-lt r low)
