-- The hash of a key, on which its bucket and its mark depend.
use Rattle.std.specs.Prelude.{ℕ, zero, suc, ◌-◌, ◌*◌, ◌/◌, ◌%◌, ◌^◌, List, length, drop, bit_xor}
use Rattle.std.specs.Int.{from_le_bytes, rotate_left, w64}

-- the first 64 bits of the fraction of pi
abbrev pub pi : ℕ
pi = 0x243F6A8885A308D3

-- the first 64 bits of the fraction of the golden ratio
abbrev pub golden : ℕ
golden = 0x9E3779B97F4A7C15

-- the two halves of a product of 128 bits, joined by exclusive or
unfoldable pub fold : ℕ → ℕ → ℕ
fold a b = bit_xor (a * b % 2 ^ 64) (a * b / 2 ^ 64)

-- the number in the eight bytes from a place on, the lowest first; bytes after the end are 0
unfoldable pub eight_at : List ℕ → ℕ → ℕ
eight_at bytes place = from_le_bytes w64 (drop place bytes)

-- the state after this many blocks of sixteen bytes
unfoldable pub after_blocks : ℕ → ℕ → ℕ → List ℕ → ℕ
after_blocks zero factor state bytes = state
after_blocks (suc count) factor state bytes =
    after_blocks count factor (fold (bit_xor (eight_at bytes 0) state) (bit_xor (eight_at bytes 8) factor)) (drop 16 bytes)

-- The hash of a key under a seed: blocks of sixteen bytes as long as more follow, and then the last
-- sixteen bytes. Of fewer than sixteen, the first eight and the last eight; of fewer than eight, twice
-- all of them.
unfoldable pub hash_of : ℕ → List ℕ → ℕ
hash_of seed key =
    let n = length key in
    let factor = bit_xor (bit_xor (rotate_left w64 seed 32) golden) n in
    let state = after_blocks ((n - 1) / 16) factor (bit_xor seed pi) key in
    fold (bit_xor (eight_at key (n - 16)) state) (bit_xor (eight_at key (n - 8)) factor)
