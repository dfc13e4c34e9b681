-- A sealed file in which one byte is another is not sealed.
use Rattle.std.proofs.Common.{◌≡◌, ℕ, zero, suc, ◌+◌, ◌-◌, ◌/◌, ◌%◌, ◌^◌, ◌<◌, ◌≤◌, bit_xor, ◌⊎◌, inl, inr, List, [], ◌∷◌, ◌++◌, length, take, drop, get_or, append_assoc, refl, sym, ap, ◌∙◌, arith}
use Rattle.std.proofs.lemmas.List.{length-drop, get_or-drop, get_or-take, take-append-le, drop-append-le}
use Rattle.std.proofs.Math.Seq.{take-append-add, drop-append-add, get_or-append_seam}
use Rattle.std.proofs.lemmas.Bool.{cases_lt}
use Rattle.std.specs.Int.{w32, to_le_bytes, from_le_bytes}
use Rattle.zerotrie_sealed.specs.Sealed.{IsSealedAs}
use Rattle.zerotrie_sealed.proofs.Headers.{bytes-append, bytes-take, bytes-drop}
use Rattle.std.proofs.lemmas.Nat.{xor_comm, xor_lt, from_le_bytes-to_le_bytes_4}
use Rattle.std.specs.Int.Bits.{xor_assoc, xor_self, xor_zero_l, xor_zero_r}
use Rattle.zerotrie_sealed.specs.Checksum.{times_x, times_power, after, crc32c}
use Rattle.zerotrie_sealed.proofs.Remainders.{carried, times_x-is, times_x-lt, times_power-xor, times_power-lt}
use Rattle.zerotrie_sealed.proofs.Chunks.{after-append, after-lt, crc32c-lt}

xor_none : (a b : ℕ) → bit_xor a b ≡ 0 → a ≡ b
xor_none a b e =
    sym (xor_zero_r a) ∙ ap (bit_xor a) (sym (xor_self b)) ∙ sym (xor_assoc a b b) ∙ ap (λ z. bit_xor z b) e ∙ xor_zero_l b

xor_left : (r b d : ℕ) → bit_xor r b ≡ bit_xor r d → b ≡ d
xor_left r b d e =
    sym (xor_zero_l b) ∙ ap (λ z. bit_xor z b) (sym (xor_self r)) ∙ xor_assoc r r b ∙ ap (bit_xor r) e
    ∙ sym (xor_assoc r r d) ∙ ap (λ z. bit_xor z d) (xor_self r) ∙ xor_zero_l d

xor_right : (r s b : ℕ) → bit_xor r b ≡ bit_xor s b → r ≡ s
xor_right r s b e = xor_left b r s (xor_comm b r ∙ e ∙ xor_comm s b)

halves : (m d : ℕ) → m ≡ d % 2 → d < 2 ^ 32 → d / 2 ≡ carried m → d ≡ 0
halves zero d low bound e = omega arith
halves (suc zero) d low bound e = absurd (omega arith)
halves (suc (suc m)) d low bound e = absurd (omega arith)

-- only nothing becomes nothing
times_x-none : (d : ℕ) → d < 2 ^ 32 → times_x d ≡ 0 → d ≡ 0
times_x-none d bound e = halves (d % 2) d refl bound (xor_none (d / 2) (carried (d % 2)) (sym (times_x-is d) ∙ e))

times_power-none : (n d : ℕ) → d < 2 ^ 32 → times_power n d ≡ 0 → d ≡ 0
unfolding times_power
times_power-none zero d bound e = e
times_power-none (suc n) d bound e = times_x-none d bound (times_power-none n (times_x d) (times_x-lt d bound) e)

times_power-one : (n r s : ℕ) → r < 2 ^ 32 → s < 2 ^ 32 → times_power n r ≡ times_power n s → r ≡ s
times_power-one n r s p q e =
    xor_none r s (times_power-none n (bit_xor r s) (xor_lt 32 r s p q)
    (times_power-xor n r s ∙ ap (λ z. bit_xor z (times_power n s)) e ∙ xor_self (times_power n s)))

summed-lt : (r b : ℕ) → r < 2 ^ 32 → b < 256 → bit_xor r b < 2 ^ 32
summed-lt r b p q = xor_lt 32 r b p (omega arith)

-- other remainders stay other ones
after-one : (r s : ℕ) (bs : List ℕ) → r < 2 ^ 32 → s < 2 ^ 32 → ((i : ℕ) → get_or bs i 0 < 256) → after r bs ≡ after s bs → r ≡ s
unfolding after
after-one r s [] p q below e = e
after-one r s (b ∷ bs) p q below e =
    let first : b < 256 = below 0 in
    let x : bit_xor r b < 2 ^ 32 = summed-lt r b p first in
    let y : bit_xor s b < 2 ^ 32 = summed-lt s b q first in
    xor_right r s b (times_power-one 8 (bit_xor r b) (bit_xor s b) x y
    (after-one (times_power 8 (bit_xor r b)) (times_power 8 (bit_xor s b)) bs (times_power-lt 8 (bit_xor r b) x) (times_power-lt 8 (bit_xor s b) y) (λ i. below (suc i)) e))

after-cons : (r b : ℕ) (bs : List ℕ) → after r (b ∷ bs) ≡ after (times_power 8 (bit_xor r b)) bs
unfolding after
after-cons r b bs = refl

-- another byte at one place makes another checksum
pub crc32c-one : (front behind : List ℕ) (b d : ℕ) → ((i : ℕ) → get_or front i 0 < 256) → ((i : ℕ) → get_or behind i 0 < 256) → b < 256 → d < 256
    → crc32c (front ++ (b ∷ behind)) ≡ crc32c (front ++ (d ∷ behind)) → b ≡ d
crc32c-one front behind b d ahead below p q e =
    let r : ℕ = after (2 ^ 32 - 1) front in
    let low : r < 2 ^ 32 = after-lt (2 ^ 32 - 1) front (omega arith) ahead in
    let x : bit_xor r b < 2 ^ 32 = summed-lt r b low p in
    let y : bit_xor r d < 2 ^ 32 = summed-lt r d low q in
    let same : after (2 ^ 32 - 1) (front ++ (b ∷ behind)) ≡ after (2 ^ 32 - 1) (front ++ (d ∷ behind)) = xor_right _ _ (2 ^ 32 - 1) e in
    let same_behind : after (times_power 8 (bit_xor r b)) behind ≡ after (times_power 8 (bit_xor r d)) behind =
    sym (after-cons r b behind) ∙ after-append (2 ^ 32 - 1) front (b ∷ behind) ∙ same ∙ sym (after-append (2 ^ 32 - 1) front (d ∷ behind)) ∙ after-cons r d behind in
    xor_left r b d (times_power-one 8 (bit_xor r b) (bit_xor r d) x y
    (after-one (times_power 8 (bit_xor r b)) (times_power 8 (bit_xor r d)) behind (times_power-lt 8 (bit_xor r b) x) (times_power-lt 8 (bit_xor r d) y) below same_behind))

-- ---- the checksum of a file covers all but itself

abbrev covered : List ℕ → List ℕ
covered file = take 20 file ++ drop 24 file

abbrev summed : List ℕ → List ℕ
summed file = take 4 (drop 20 file)

-- a sealed file has the checksum of what is covered
sum-is : (number : ℕ) (bytes file : List ℕ) → ((i : ℕ) → get_or file i 0 < 256) → IsSealedAs number bytes file → summed file ≡ to_le_bytes w32 (crc32c (covered file))
sum-is number bytes file below is =
    ap summed is.parts ∙ ap (λ f. to_le_bytes w32 (crc32c (covered f))) (sym is.parts)

covered-bytes : (file : List ℕ) → ((i : ℕ) → get_or file i 0 < 256) → (i : ℕ) → get_or (covered file) i 0 < 256
covered-bytes file below = bytes-append (take 20 file) (drop 24 file) (bytes-take 20 file below) (bytes-drop 24 file below)

pub same_crc : (x y : List ℕ) → ((i : ℕ) → get_or x i 0 < 256) → ((i : ℕ) → get_or y i 0 < 256)
    → to_le_bytes w32 (crc32c x) ≡ to_le_bytes w32 (crc32c y) → crc32c x ≡ crc32c y
same_crc x y p q e =
    sym (from_le_bytes-to_le_bytes_4 (crc32c x) (crc32c-lt x p)) ∙ ap (from_le_bytes w32) e ∙ from_le_bytes-to_le_bytes_4 (crc32c y) (crc32c-lt y q)

drop-cons_suc : (b n : ℕ) (behind : List ℕ) → drop (1 + n) (b ∷ behind) ≡ drop n behind
drop-cons_suc b n behind = let e : 1 + n ≡ suc n = omega arith in rw e refl

take-cons_suc : (b n : ℕ) (behind : List ℕ) → take (1 + n) (b ∷ behind) ≡ b ∷ take n behind
take-cons_suc b n behind = let e : 1 + n ≡ suc n = omega arith in rw e refl

-- what is behind the place of a byte, and what is before it
pub behind-place : (front behind : List ℕ) (b m n : ℕ) → m ≡ length front + (1 + n) → drop m (front ++ (b ∷ behind)) ≡ drop n behind
behind-place front behind b m n e = rw e (drop-append-add front (b ∷ behind) (1 + n) ∙ drop-cons_suc b n behind)

pub up_to-place : (front behind : List ℕ) (b m n : ℕ) → m ≡ length front + (1 + n) → take m (front ++ (b ∷ behind)) ≡ front ++ (b ∷ take n behind)
up_to-place front behind b m n e = rw e (take-append-add front (b ∷ behind) (1 + n) ∙ ap (λ l. front ++ l) (take-cons_suc b n behind))

at-place : (front behind : List ℕ) (b : ℕ) → get_or (front ++ (b ∷ behind)) (length front) 0 ≡ b
at-place front behind b = get_or-append_seam front b behind 0

pub front-bytes : (front behind : List ℕ) → ((i : ℕ) → get_or (front ++ behind) i 0 < 256) → (i : ℕ) → get_or front i 0 < 256
front-bytes [] behind p i = omega arith
front-bytes (x ∷ front) behind p zero = p 0
front-bytes (x ∷ front) behind p (suc i) = front-bytes front behind (λ j. p (suc j)) i

pub behind-bytes : (front behind : List ℕ) → ((i : ℕ) → get_or (front ++ behind) i 0 < 256) → (i : ℕ) → get_or behind i 0 < 256
behind-bytes [] behind p i = p i
behind-bytes (x ∷ front) behind p i = behind-bytes front behind (λ j. p (suc j)) i

-- ---- the byte is in front of the checksum, in it, or behind it

covered-early : (front behind : List ℕ) (b : ℕ) → length front < 20
    → covered (front ++ (b ∷ behind)) ≡ front ++ (b ∷ (take (19 - length front) behind ++ drop (23 - length front) behind))
covered-early front behind b early =
    let n : ℕ = 19 - length front in
    let m : ℕ = 23 - length front in
    let x : take 20 (front ++ (b ∷ behind)) ≡ front ++ (b ∷ take n behind) = up_to-place front behind b 20 n (omega arith) in
    let y : drop 24 (front ++ (b ∷ behind)) ≡ drop m behind = behind-place front behind b 24 m (omega arith) in
    ap (λ l. l ++ drop 24 (front ++ (b ∷ behind))) x ∙ ap (λ l. (front ++ (b ∷ take n behind)) ++ l) y ∙ append_assoc front (b ∷ take n behind) (drop m behind)

summed-early : (front behind : List ℕ) (b d : ℕ) → length front < 20 → summed (front ++ (b ∷ behind)) ≡ summed (front ++ (d ∷ behind))
summed-early front behind b d early =
    let n : ℕ = 19 - length front in
    ap (take 4) (behind-place front behind b 20 n (omega arith) ∙ sym (behind-place front behind d 20 n (omega arith)))

covered-late : (front behind : List ℕ) (b : ℕ) → 24 ≤ length front → covered (front ++ (b ∷ behind)) ≡ (take 20 front ++ drop 24 front) ++ (b ∷ behind)
covered-late front behind b late =
    ap (λ l. l ++ drop 24 (front ++ (b ∷ behind))) (take-append-le 20 front (b ∷ behind) (omega arith))
    ∙ ap (λ l. take 20 front ++ l) (drop-append-le 24 front (b ∷ behind) late) ∙ sym (append_assoc (take 20 front) (drop 24 front) (b ∷ behind))

summed-late : (front behind : List ℕ) (b d : ℕ) → 24 ≤ length front → summed (front ++ (b ∷ behind)) ≡ summed (front ++ (d ∷ behind))
summed-late front behind b d late =
    let long : 4 ≤ length (drop 20 front) = omega (arith, length-drop 20 front) in
    let side : (c : ℕ) → summed (front ++ (c ∷ behind)) ≡ take 4 (drop 20 front) =
    λ c. ap (take 4) (drop-append-le 20 front (c ∷ behind) (omega arith)) ∙ take-append-le 4 (drop 20 front) (c ∷ behind) long in
    side b ∙ sym (side d)

covered-middle : (front behind : List ℕ) (b d : ℕ) → 20 ≤ length front → length front < 24 → covered (front ++ (b ∷ behind)) ≡ covered (front ++ (d ∷ behind))
covered-middle front behind b d from below =
    let m : ℕ = 23 - length front in
    let side : (c : ℕ) → covered (front ++ (c ∷ behind)) ≡ take 20 front ++ drop m behind =
    λ c. ap (λ l. l ++ drop 24 (front ++ (c ∷ behind))) (take-append-le 20 front (c ∷ behind) from)
    ∙ ap (λ l. take 20 front ++ l) (behind-place front behind c 24 m (omega arith)) in
    side b ∙ sym (side d)

summed-middle : (front behind : List ℕ) (b : ℕ) → 20 ≤ length front → length front < 24 → get_or (summed (front ++ (b ∷ behind))) (length front - 20) 0 ≡ b
summed-middle front behind b from below =
    let file : List ℕ = front ++ (b ∷ behind) in
    let i : ℕ = length front - 20 in
    let e : 20 + i ≡ length front = omega arith in
    get_or-take 4 (drop 20 file) i 0 (omega arith) ∙ get_or-drop 20 file i 0 ∙ ap (λ k. get_or file k 0) e ∙ at-place front behind b

one_byte-at : (number other : ℕ) (bytes second front behind : List ℕ) (b d : ℕ)
    → ((i : ℕ) → get_or (front ++ (b ∷ behind)) i 0 < 256) → ((i : ℕ) → get_or (front ++ (d ∷ behind)) i 0 < 256)
    → IsSealedAs number bytes (front ++ (b ∷ behind)) → IsSealedAs other second (front ++ (d ∷ behind))
    → (length front < 20) ⊎ (20 ≤ length front) → (length front < 24) ⊎ (24 ≤ length front) → b ≡ d
one_byte-at number other bytes second front behind b d p q x y (inl early) _ =
    let sums : crc32c (covered (front ++ (b ∷ behind))) ≡ crc32c (covered (front ++ (d ∷ behind))) =
    same_crc _ _ (covered-bytes _ p) (covered-bytes _ q) (sym (sum-is number bytes _ p x) ∙ summed-early front behind b d early ∙ sum-is other second _ q y) in
    let tail : (i : ℕ) → get_or behind i 0 < 256 = λ i. behind-bytes front (b ∷ behind) p (suc i) in
    let n : ℕ = 19 - length front in
    let m : ℕ = 23 - length front in
    crc32c-one front (take n behind ++ drop m behind) b d (front-bytes front (b ∷ behind) p)
    (bytes-append (take n behind) (drop m behind) (bytes-take n behind tail) (bytes-drop m behind tail))
    (behind-bytes front (b ∷ behind) p 0) (behind-bytes front (d ∷ behind) q 0)
    (ap crc32c (sym (covered-early front behind b early)) ∙ sums ∙ ap crc32c (covered-early front behind d early))
one_byte-at number other bytes second front behind b d p q x y (inr from) (inl below) =
    sym (summed-middle front behind b from below)
    ∙ ap (λ l. get_or l (length front - 20) 0) (sum-is number bytes _ p x
    ∙ ap (λ l. to_le_bytes w32 (crc32c l)) (covered-middle front behind b d from below) ∙ sym (sum-is other second _ q y))
    ∙ summed-middle front behind d from below
one_byte-at number other bytes second front behind b d p q x y (inr from) (inr late) =
    let sums : crc32c (covered (front ++ (b ∷ behind))) ≡ crc32c (covered (front ++ (d ∷ behind))) =
    same_crc _ _ (covered-bytes _ p) (covered-bytes _ q) (sym (sum-is number bytes _ p x) ∙ summed-late front behind b d late ∙ sum-is other second _ q y) in
    crc32c-one (take 20 front ++ drop 24 front) behind b d
    (bytes-append (take 20 front) (drop 24 front) (bytes-take 20 front (front-bytes front (b ∷ behind) p)) (bytes-drop 24 front (front-bytes front (b ∷ behind) p)))
    (λ i. behind-bytes front (b ∷ behind) p (suc i))
    (behind-bytes front (b ∷ behind) p 0) (behind-bytes front (d ∷ behind) q 0)
    (ap crc32c (sym (covered-late front behind b late)) ∙ sums ∙ ap crc32c (covered-late front behind d late))

-- two sealed files that differ at one place at most do not differ
pub one_byte : (number other : ℕ) (bytes second front behind : List ℕ) (b d : ℕ)
    → ((i : ℕ) → get_or (front ++ (b ∷ behind)) i 0 < 256) → ((i : ℕ) → get_or (front ++ (d ∷ behind)) i 0 < 256)
    → IsSealedAs number bytes (front ++ (b ∷ behind)) → IsSealedAs other second (front ++ (d ∷ behind)) → b ≡ d
one_byte number other bytes second front behind b d p q x y =
    one_byte-at number other bytes second front behind b d p q x y (cases_lt (length front) 20) (cases_lt (length front) 24)
