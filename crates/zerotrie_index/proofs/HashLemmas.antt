-- The parts of a hash.
use Rattle.std.specs.Prelude.{◌≡◌, ℕ, ◌+◌, ◌-◌, ◌*◌, ◌/◌, ◌%◌, ◌^◌, ◌<◌, ◌≤◌, List, [], ◌∷◌, length, drop, slice_index, bit_xor, suc}
use Rattle.std.specs.Int.{from_le_bytes, w32}
use Rattle.std.proofs.Common.{refl, ap, arith, get_or}
use Rattle.std.proofs.lemmas.List.{length-drop}
use Rattle.zerotrie_index.specs.Hash.{fold, eight_at, after_blocks}

-- fewer than four bytes as a number
pub few : (bytes : List ℕ) → length bytes < 4 → ((i : ℕ) → get_or bytes i 0 < 256)
    → slice_index bytes 0 + slice_index bytes 1 * 256 % 18446744073709551616 + slice_index bytes 2 * 65536 % 18446744073709551616 ≡ eight_at bytes 0
unfolding eight_at
few [] short small = refl
few (a ∷ []) short small = omega (arith, small 0)
few (a ∷ b ∷ []) short small = omega (arith, small 0, small 1)
few (a ∷ b ∷ c ∷ []) short small = omega (arith, small 0, small 1, small 2)
few (a ∷ b ∷ c ∷ d ∷ more) short small = absurd (omega arith)

-- four to seven bytes as a number: the first four, and what the last four have behind them
pub several : (bytes : List ℕ) → 4 ≤ length bytes → length bytes < 8 → ((i : ℕ) → get_or bytes i 0 < 256)
    → from_le_bytes w32 (drop 0 bytes) + from_le_bytes w32 (drop (length bytes - 4) bytes) / 2 ^ (64 - 8 * length bytes) * 4294967296 % 18446744073709551616 ≡ eight_at bytes 0
unfolding eight_at
several [] long short small = absurd (omega arith)
several (a ∷ []) long short small = absurd (omega arith)
several (a ∷ b ∷ []) long short small = absurd (omega arith)
several (a ∷ b ∷ c ∷ []) long short small = absurd (omega arith)
several (a ∷ b ∷ c ∷ d ∷ []) long short small = omega (arith, small 0, small 1, small 2, small 3)
several (a ∷ b ∷ c ∷ d ∷ e ∷ []) long short small = omega (arith, small 0, small 1, small 2, small 3, small 4)
several (a ∷ b ∷ c ∷ d ∷ e ∷ f ∷ []) long short small = omega (arith, small 0, small 1, small 2, small 3, small 4, small 5)
several (a ∷ b ∷ c ∷ d ∷ e ∷ f ∷ g ∷ []) long short small = omega (arith, small 0, small 1, small 2, small 3, small 4, small 5, small 6)
several (a ∷ b ∷ c ∷ d ∷ e ∷ f ∷ g ∷ h ∷ more) long short small = absurd (omega arith)

-- a block that more bytes follow
pub one_block : (factor state : ℕ) (bytes : List ℕ) → 16 < length bytes → after_blocks ((length bytes - 1) / 16) factor state bytes
    ≡ after_blocks ((length (drop 16 bytes) - 1) / 16) factor (fold (bit_xor (eight_at bytes 0) state) (bit_xor (eight_at bytes 8) factor)) (drop 16 bytes)
unfolding after_blocks
one_block factor state bytes more =
    let count : (length bytes - 1) / 16 ≡ suc ((length (drop 16 bytes) - 1) / 16) = omega (arith, length-drop 16 bytes) in
    ap (λ n. after_blocks n factor state bytes) count

-- sixteen bytes are left to the end
pub no_block : (factor state : ℕ) (bytes : List ℕ) → length bytes ≤ 16 → after_blocks ((length bytes - 1) / 16) factor state bytes ≡ state
unfolding after_blocks
no_block factor state bytes few =
    let none : (length bytes - 1) / 16 ≡ 0 = omega arith in
    ap (λ n. after_blocks n factor state bytes) none
