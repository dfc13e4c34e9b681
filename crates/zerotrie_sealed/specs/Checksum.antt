-- CRC-32C, the Castagnoli checksum, bit by bit.
--
-- A remainder is a polynomial over the bits, of a degree below 32. It is kept as a number of 32 bits whose lowest bit is
-- the coefficient of x^31.
use Rattle.std.specs.Prelude.{ℕ, zero, suc, ◌-◌, ◌/◌, ◌%◌, ◌^◌, ◌==◌, if◌then◌else◌, bit_xor, List, [], ◌∷◌}

-- the polynomial that is divided by, without its x^32:
-- x^28 + x^27 + x^26 + x^25 + x^23 + x^22 + x^20 + x^19 + x^18 + x^14 + x^13 + x^11 + x^10 + x^9 + x^8 + x^6 + 1
abbrev pub polynomial : ℕ
polynomial = 0x82F63B78

-- a remainder times x: if an x^32 comes out, it is subtracted with the rest of the polynomial
unfoldable pub times_x : ℕ → ℕ
times_x r = if r % 2 == 0 then r / 2 else bit_xor (r / 2) polynomial

-- a remainder times a power of x
unfoldable pub times_power : ℕ → ℕ → ℕ
times_power zero r = r
times_power (suc n) r = times_power n (times_x r)

-- the remainder after these bytes: each is added at the eight highest powers, and its bits are divided one after another
unfoldable pub after : ℕ → List ℕ → ℕ
after r [] = r
after r (byte ∷ bytes) = after (times_power 8 (bit_xor r byte)) bytes

-- all bits of a remainder inverted
abbrev pub inverted : ℕ → ℕ
inverted r = bit_xor r (2 ^ 32 - 1)

-- the checksum of bytes
abbrev pub crc32c : List ℕ → ℕ
crc32c bytes = inverted (after (2 ^ 32 - 1) bytes)
