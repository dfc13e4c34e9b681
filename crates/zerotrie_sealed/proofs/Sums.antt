-- The blocks of an index, and their checksums.
use Rattle.std.proofs.Common.{◌≡◌, ℕ, zero, suc, ◌+◌, ◌-◌, ◌*◌, ◌<◌, List, ◌++◌, length, take, drop, refl, sym, ap, ◌∙◌, arith}
use Rattle.std.proofs.lemmas.List.{length-drop, drop-drop}
use Rattle.std.proofs.Math.Seq.{drop-append-add}
use Rattle.std.specs.Int.{w32, to_le_bytes}
use Rattle.zerotrie_sealed.specs.Checksum.{crc32c}
use Rattle.zerotrie_sealed.specs.Sealed.{block_len, block_count, sums, sums_of, table_of}

-- the checksum of the first block
abbrev pub first_sum : List ℕ → List ℕ
first_sum bytes = to_le_bytes w32 (crc32c (take block_len bytes))

pub length-sums : (n : ℕ) (bytes : List ℕ) → length (sums n bytes) ≡ 4 * n
length-sums zero bytes = refl
length-sums (suc n) bytes = let e : length (sums n (drop block_len bytes)) ≡ 4 * n = length-sums n (drop block_len bytes) in omega arith

pub length-table : (index : List ℕ) → length (table_of index) ≡ 8 + 4 * block_count (length index)
length-table index = let e : length (sums_of index) ≡ 4 * block_count (length index) = length-sums (block_count (length index)) index in omega arith

-- the checksums of some bytes are that of their first block and those of the others
one_more : (n m : ℕ) (bytes : List ℕ) → n ≡ suc m → sums n bytes ≡ first_sum bytes ++ sums m (drop block_len bytes)
one_more n m bytes e = rw e refl

pub sums-first : (bytes : List ℕ) → 0 < length bytes → sums_of bytes ≡ first_sum bytes ++ sums_of (drop block_len bytes)
sums-first bytes some =
    let long : length (drop block_len bytes) ≡ length bytes - block_len = length-drop block_len bytes in
    let e : block_count (length bytes) ≡ suc (block_count (length (drop block_len bytes))) = rw long (omega arith) in
    one_more (block_count (length bytes)) (block_count (length (drop block_len bytes))) bytes e

-- the checksum at a place is that of the block of this number
pub sums-at : (i n : ℕ) (bytes : List ℕ) → i < n → take 4 (drop (4 * i) (sums n bytes)) ≡ to_le_bytes w32 (crc32c (take block_len (drop (block_len * i) bytes)))
sums-at i zero bytes within = absurd (omega arith)
sums-at zero (suc n) bytes within = refl
sums-at (suc i) (suc n) bytes within =
    let place : 4 * suc i ≡ length (first_sum bytes) + 4 * i = omega arith in
    let from : block_len + block_len * i ≡ block_len * suc i = omega arith in
    ap (λ k. take 4 (drop k (sums (suc n) bytes))) place
    ∙ ap (take 4) (drop-append-add (first_sum bytes) (sums n (drop block_len bytes)) (4 * i))
    ∙ sums-at i n (drop block_len bytes) (omega arith)
    ∙ ap (λ l. to_le_bytes w32 (crc32c (take block_len l))) (drop-drop (block_len * i) block_len bytes ∙ ap (λ k. drop k bytes) from)

-- what is behind the first block is shorter
pub shorter : (bytes behind : List ℕ) → 0 < length bytes → behind ≡ drop block_len bytes → length behind < length bytes
shorter bytes behind some is =
    let long : length behind ≡ length bytes - block_len = ap length is ∙ length-drop block_len bytes in
    omega arith

pub sums-parts : (bytes front behind : List ℕ) → 0 < length bytes → front ≡ take block_len bytes → behind ≡ drop block_len bytes
    → sums_of bytes ≡ to_le_bytes w32 (crc32c front) ++ sums_of behind
sums-parts bytes front behind some is and =
    sums-first bytes some ∙ ap (λ l. to_le_bytes w32 (crc32c l) ++ sums_of (drop block_len bytes)) (sym is)
    ∙ ap (λ l. to_le_bytes w32 (crc32c front) ++ sums_of l) (sym and)
