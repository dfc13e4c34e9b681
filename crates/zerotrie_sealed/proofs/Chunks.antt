-- The remainder after a chunk, from the words of the chunk.
use Rattle.std.proofs.Common.{◌≡◌, ℕ, zero, suc, ◌+◌, ◌*◌, ◌/◌, ◌%◌, ◌^◌, ◌-◌, ◌<◌, ◌≤◌, bit_xor, List, [], ◌∷◌, ◌++◌, length, take, drop, get_or, refl, sym, ap, ◌∙◌, add-one, drop-cons, arith}
use Rattle.std.proofs.lemmas.List.{length-drop, drop-drop, drop_all, get_or-drop}
use Rattle.std.proofs.lemmas.Nat.{xor_shr, xor_lt}
use Rattle.std.specs.Int.{w32, from_le_bytes}
use Rattle.std.specs.Int.Bits.{xor_assoc, xor_zero_r}
use Rattle.zerotrie_sealed.specs.Checksum.{times_power, after, crc32c}
use Rattle.zerotrie_sealed.proofs.Remainders.{times_power-xor, times_power-add, times_power-high, times_power-zero, times_power-split, times_power-lt, joined}

-- a number that is added after k bits may be added before them, k bits higher
added_before : (k n r b : ℕ) → times_power n (bit_xor (times_power k r) b) ≡ times_power (k + n) (bit_xor r (b * 2 ^ k))
added_before k n r b =
    ap (λ e. times_power n (bit_xor (times_power k r) e)) (sym (times_power-high k b))
    ∙ ap (times_power n) (sym (times_power-xor k r (b * 2 ^ k)))
    ∙ times_power-add k n (bit_xor r (b * 2 ^ k))

four_bytes : (r a b c d : ℕ) → a < 256 → b < 256 → c < 256
    → times_power 8 (bit_xor (times_power 8 (bit_xor (times_power 8 (bit_xor (times_power 8 (bit_xor r a)) b)) c)) d)
    ≡ times_power 32 (bit_xor r (a + b * 2 ^ 8 + c * 2 ^ 16 + d * 2 ^ 24))
four_bytes r a b c d p q s =
    let two : bit_xor (bit_xor r a) (b * 2 ^ 8) ≡ bit_xor r (a + b * 2 ^ 8) = xor_assoc r a (b * 2 ^ 8) ∙ ap (bit_xor r) (joined 8 a b p) in
    let three : bit_xor (bit_xor r (a + b * 2 ^ 8)) (c * 2 ^ 16) ≡ bit_xor r (a + b * 2 ^ 8 + c * 2 ^ 16) =
    xor_assoc r (a + b * 2 ^ 8) (c * 2 ^ 16) ∙ ap (bit_xor r) (joined 16 (a + b * 2 ^ 8) c (omega arith)) in
    let four : bit_xor (bit_xor r (a + b * 2 ^ 8 + c * 2 ^ 16)) (d * 2 ^ 24) ≡ bit_xor r (a + b * 2 ^ 8 + c * 2 ^ 16 + d * 2 ^ 24) =
    xor_assoc r (a + b * 2 ^ 8 + c * 2 ^ 16) (d * 2 ^ 24) ∙ ap (bit_xor r) (joined 24 (a + b * 2 ^ 8 + c * 2 ^ 16) d (omega arith)) in
    ap (λ e. times_power 8 (bit_xor (times_power 8 (bit_xor e c)) d)) (added_before 8 8 (bit_xor r a) b ∙ ap (times_power 16) two)
    ∙ ap (λ e. times_power 8 (bit_xor e d)) (added_before 16 8 (bit_xor r (a + b * 2 ^ 8)) c ∙ ap (times_power 24) three)
    ∙ added_before 24 8 (bit_xor r (a + b * 2 ^ 8 + c * 2 ^ 16)) d ∙ ap (times_power 32) four

-- the remainder after the first four bytes
after-word : (r : ℕ) (bs : List ℕ) → 4 ≤ length bs → ((i : ℕ) → get_or bs i 0 < 256)
    → after r bs ≡ after (times_power 32 (bit_xor r (from_le_bytes w32 bs))) (drop 4 bs)
unfolding after
after-word r [] long below = absurd (omega arith)
after-word r (a ∷ []) long below = absurd (omega arith)
after-word r (a ∷ b ∷ []) long below = absurd (omega arith)
after-word r (a ∷ b ∷ c ∷ []) long below = absurd (omega arith)
after-word r (a ∷ b ∷ c ∷ d ∷ rest) long below = ap (λ e. after e rest) (four_bytes r a b c d (below 0) (below 1) (below 2))

-- the words of a chunk, each with its power
four_words : (r w0 w1 w2 w3 : ℕ)
    → times_power 32 (bit_xor (times_power 32 (bit_xor (times_power 32 (bit_xor (times_power 32 (bit_xor r w0)) w1)) w2)) w3)
    ≡ bit_xor (times_power 128 (bit_xor r w0)) (bit_xor (times_power 96 w1) (bit_xor (times_power 64 w2) (times_power 32 w3)))
four_words r w0 w1 w2 w3 = simp (times_power-xor, times_power-add, xor_assoc) refl

-- the remainder after the four bytes at a place
after-at : (place r : ℕ) (bs : List ℕ) → place + 4 ≤ length bs → ((i : ℕ) → get_or bs i 0 < 256)
    → after r (drop place bs) ≡ after (times_power 32 (bit_xor r (from_le_bytes w32 (drop place bs)))) (drop (place + 4) bs)
after-at place r bs long below =
    let enough : 4 ≤ length (drop place bs) = omega (arith, length-drop place bs) in
    let bytes : (i : ℕ) → get_or (drop place bs) i 0 < 256 = λ i. rw get_or-drop (below (place + i)) in
    after-word r (drop place bs) enough bytes
    ∙ ap (after (times_power 32 (bit_xor r (from_le_bytes w32 (drop place bs))))) (drop-drop 4 place bs)

-- no bytes change nothing
pub after-none : (r : ℕ) (bs : List ℕ) → bs ≡ [] → after r bs ≡ r
unfolding after
after-none r bs none = rw none refl

pub after-chunk : (r : ℕ) (bs : List ℕ) → length bs ≡ 16 → ((i : ℕ) → get_or bs i 0 < 256)
    → bit_xor (times_power 128 (bit_xor r (from_le_bytes w32 bs)))
    (bit_xor (times_power 96 (from_le_bytes w32 (drop 4 bs))) (bit_xor (times_power 64 (from_le_bytes w32 (drop 8 bs))) (times_power 32 (from_le_bytes w32 (drop 12 bs)))))
    ≡ after r bs
after-chunk r bs long below =
    let next : ℕ → ℕ → ℕ = λ s place. times_power 32 (bit_xor s (from_le_bytes w32 (drop place bs))) in
    let s1 : ℕ = next r 0 in
    let s2 : ℕ = next s1 4 in
    let s3 : ℕ = next s2 8 in
    let s4 : ℕ = next s3 12 in
    sym (
    after-at 0 r bs (omega arith) below ∙ after-at 4 s1 bs (omega arith) below ∙ after-at 8 s2 bs (omega arith) below
    ∙ after-at 12 s3 bs (omega arith) below ∙ after-none s4 (drop 16 bs) (drop_all 16 bs (omega arith))
    ∙ four_words r (from_le_bytes w32 bs) (from_le_bytes w32 (drop 4 bs)) (from_le_bytes w32 (drop 8 bs)) (from_le_bytes w32 (drop 12 bs)))

-- the lowest byte of a number apart
byte_apart : (q w : ℕ) → times_power (8 * (q + 1)) w ≡ bit_xor (times_power (8 * (q + 1)) (w % 256)) (times_power (8 * q) (w / 256))
byte_apart q w = let e : 8 * (q + 1) ≡ 8 + 8 * q = omega arith in rw e (times_power-split 8 (8 * q) w)

four_apart : (q w : ℕ) → times_power (8 * (q + 1 + 1 + 1 + 1)) w
    ≡ bit_xor (times_power (8 * (q + 1 + 1 + 1 + 1)) (w % 256)) (bit_xor (times_power (8 * (q + 1 + 1 + 1)) (w / 256 % 256))
    (bit_xor (times_power (8 * (q + 1 + 1)) (w / 256 / 256 % 256)) (bit_xor (times_power (8 * (q + 1)) (w / 256 / 256 / 256 % 256)) (times_power (8 * q) (w / 256 / 256 / 256 / 256)))))
four_apart q w =
    byte_apart (q + 1 + 1 + 1) w
    ∙ ap (bit_xor (times_power (8 * (q + 1 + 1 + 1 + 1)) (w % 256))) (byte_apart (q + 1 + 1) (w / 256)
    ∙ ap (bit_xor (times_power (8 * (q + 1 + 1 + 1)) (w / 256 % 256))) (byte_apart (q + 1) (w / 256 / 256)
    ∙ ap (bit_xor (times_power (8 * (q + 1 + 1)) (w / 256 / 256 % 256))) (byte_apart q (w / 256 / 256 / 256))))

-- a word from the products of its bytes
pub word-powers : (p w : ℕ) → w < 2 ^ 32
    → bit_xor (bit_xor (times_power (8 * (p + 3 + 1)) (w % 256)) (times_power (8 * (p + 2 + 1)) (w / 2 ^ 8 % 256)))
    (bit_xor (times_power (8 * (p + 1 + 1)) (w / 2 ^ 16 % 256)) (times_power (8 * (p + 1)) (w / 2 ^ 24 % 256)))
    ≡ times_power (8 * (p + 4)) w
word-powers p w low =
    let q3 : p + 3 + 1 ≡ p + 1 + 1 + 1 + 1 = omega arith in
    let q2 : p + 2 + 1 ≡ p + 1 + 1 + 1 = omega arith in
    let q4 : p + 4 ≡ p + 1 + 1 + 1 + 1 = omega arith in
    let two : w / 65536 ≡ w / 256 / 256 = omega arith in
    let three : w / 16777216 ≡ w / 256 / 256 / 256 = omega arith in
    let none : w / 256 / 256 / 256 / 256 ≡ 0 = omega arith in
    let last : times_power (8 * p) (w / 256 / 256 / 256 / 256) ≡ 0 = rw none (times_power-zero (8 * p)) in
    let a : ℕ = times_power (8 * (p + 1 + 1 + 1 + 1)) (w % 256) in
    let b : ℕ = times_power (8 * (p + 1 + 1 + 1)) (w / 256 % 256) in
    let c : ℕ = times_power (8 * (p + 1 + 1)) (w / 256 / 256 % 256) in
    let d : ℕ = times_power (8 * (p + 1)) (w / 256 / 256 / 256 % 256) in
    let whole : bit_xor (bit_xor a b) (bit_xor c d) ≡ times_power (8 * (p + 1 + 1 + 1 + 1)) w =
    xor_assoc a b (bit_xor c d)
    ∙ ap (λ e. bit_xor a (bit_xor b (bit_xor c e))) (sym (xor_zero_r d) ∙ ap (bit_xor d) (sym last))
    ∙ sym (four_apart p w) in
    rw (q3, q2, q4, two, three) whole

-- bytes in two parts, one after the other
pub after-parts : (n r : ℕ) (bs : List ℕ) → after (after r (take n bs)) (drop n bs) ≡ after r bs
unfolding after
after-parts zero r bs = refl
after-parts (suc n) r [] = refl
after-parts (suc n) r (b ∷ bs) = after-parts n (times_power 8 (bit_xor r b)) bs

-- a single byte, from its product
byte_alone : (r b : ℕ) → b < 256 → bit_xor (times_power 8 (bit_xor r b % 256)) (r / 256) ≡ times_power 8 (bit_xor r b)
unfolding times_power
byte_alone r b low =
    let none : b / 256 ≡ 0 = omega arith in
    let high : bit_xor r b / 256 ≡ r / 256 = xor_shr r b 8 ∙ rw none (xor_zero_r (r / 256)) in
    sym (byte_apart 0 (bit_xor r b) ∙ ap (bit_xor (times_power 8 (bit_xor r b % 256))) high)

pub after-byte : (i r : ℕ) (bs : List ℕ) → i < length bs → get_or bs i 0 < 256
    → after (bit_xor (times_power 8 (bit_xor r (get_or bs i 0) % 256)) (r / 256)) (drop (i + 1) bs) ≡ after r (drop i bs)
unfolding after
after-byte i r bs within low =
    ap (λ e. after e (drop (i + 1) bs)) (byte_alone r (get_or bs i 0) low)
    ∙ rw (add-one, drop-cons bs i 0) refl

-- two lists of bytes, one after the other
pub after-append : (r : ℕ) (front behind : List ℕ) → after (after r front) behind ≡ after r (front ++ behind)
unfolding after
after-append r [] behind = refl
after-append r (b ∷ front) behind = after-append (times_power 8 (bit_xor r b)) front behind

-- a remainder has four bytes
pub after-lt : (r : ℕ) (bs : List ℕ) → r < 2 ^ 32 → ((i : ℕ) → get_or bs i 0 < 256) → after r bs < 2 ^ 32
unfolding after
after-lt r [] low below = low
after-lt r (b ∷ bs) low below =
    let first : b < 256 = below 0 in
    let sum : bit_xor r b < 2 ^ 32 = xor_lt 32 r b low (omega arith) in
    after-lt (times_power 8 (bit_xor r b)) bs (times_power-lt 8 (bit_xor r b) sum) (λ i. below (suc i))

-- a checksum has four bytes
pub crc32c-lt : (bs : List ℕ) → ((i : ℕ) → get_or bs i 0 < 256) → crc32c bs < 2 ^ 32
crc32c-lt bs below = xor_lt 32 (after (2 ^ 32 - 1) bs) (2 ^ 32 - 1) (after-lt (2 ^ 32 - 1) bs (omega arith) below) (omega arith)
