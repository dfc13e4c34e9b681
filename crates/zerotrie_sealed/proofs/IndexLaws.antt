-- One file is one sealed index, and stays none if it is changed.
use Rattle.std.proofs.Common.{◌≡◌, ℕ, suc, ◌+◌, ◌-◌, ◌*◌, ◌/◌, ◌%◌, ◌^◌, ◌<◌, ◌≤◌, ◌⊎◌, inl, inr, List, [], ◌∷◌, ◌++◌, length, take, drop, get_or, append_assoc, refl, sym, ap, subst, ◌∙◌, length-append, append-nil, arith}
use Rattle.std.proofs.lemmas.List.{length-drop, length-take-le, take-append-drop, take-append-le, drop-append-le}
use Rattle.std.proofs.lemmas.Bool.{cases_lt}
use Rattle.std.proofs.lemmas.Nat.{from_le_bytes-to_le_bytes_2, from_le_bytes-to_le_bytes_8}
use Rattle.std.proofs.Math.Seq.{take-append_seam}
use Rattle.std.specs.Int.{w16, w32, w64, to_le_bytes, from_le_bytes}
use Rattle.zerotrie_base.specs.Kind.{Kind, simple_ascii, ignore_case, perfect_hash, extended_capacity, tag}
use Rattle.zerotrie_sealed.specs.Checksum.{crc32c}
use Rattle.zerotrie_sealed.specs.Sealed.{index_number, blocks_number, block_len, block_count, header_as, sums_of, table_of, IsSealedAs, IsSealed, IsSealedInBlocks, IsSealedIndex, HasFront}
use Rattle.zerotrie_sealed.specs.Faults.{kind_in, length_in, table_in}
use Rattle.zerotrie_sealed.proofs.Headers.{bytes-take, bytes-drop, kind_in-header, length_in-header, tag-lt, length-sealed, one_content, nothing, none_longer}
use Rattle.zerotrie_sealed.proofs.Damage.{same_crc, crc32c-one, behind-place, up_to-place, front-bytes, behind-bytes, one_byte}
use Rattle.zerotrie_sealed.proofs.Sums.{length-table, sums-at}
use Rattle.zerotrie_sealed.proofs.InBlocks.{three-parts, stands, kind_in-whole, small-table}

-- ---- one index

no-tag : (kind : Kind) (number : ℕ) → 24 ≤ number → tag kind ≡ number → ⊥
no-tag simple_ascii number high e = omega arith
no-tag ignore_case number high e = omega arith
no-tag perfect_hash number high e = omega arith
no-tag extended_capacity number high e = omega arith

kind_in-trie : (kind : Kind) (trie file : List ℕ) → IsSealed kind trie file → kind_in file ≡ tag kind
kind_in-trie kind trie file is = ap kind_in is.parts ∙ kind_in-header (tag kind) trie trie (tag-lt kind)

pub one_index : (index file : List ℕ) → IsSealedIndex index file
    → ((second : List ℕ) → IsSealedIndex second file → index ≡ second) × ((kind : Kind) (trie : List ℕ) → IsSealed kind trie file → ⊥)
one_index index file (inl is) = (
  λ second other. elim other [
    | inl b ↦ (one_content index_number index_number index second file (omega arith) (omega arith) is b).1
    | inr b ↦ absurd (kind_in-whole index file is (stands second file b).kind)
  ],
  λ kind trie b. no-tag kind index_number (omega arith) (sym (kind_in-trie kind trie file b) ∙ ap kind_in is.parts ∙ kind_in-header index_number index index (omega arith)),
)
one_index index file (inr is) = (
  λ second other. elim other [
    | inl b ↦ absurd (kind_in-whole second file b (stands index file is).kind)
    | inr b ↦ sym (stands index file is).behind ∙ (stands second file b).behind
  ],
  λ kind trie b. no-tag kind blocks_number (omega arith) (sym (kind_in-trie kind trie file b) ∙ (stands index file is).kind),
)

-- ---- none longer

kind-more : (number : ℕ) (bytes rest more : List ℕ) → number < 2 ^ 16 → kind_in ((header_as number bytes ++ rest) ++ more) ≡ number
kind-more number bytes rest more low = from_le_bytes-to_le_bytes_2 number low

length-more : (number : ℕ) (bytes rest more : List ℕ) → length bytes < 2 ^ 64 → length_in ((header_as number bytes ++ rest) ++ more) ≡ length bytes
length-more number bytes rest more low = from_le_bytes-to_le_bytes_8 (length bytes) low

-- the table in front of an index is there whatever is behind it
table-more : (index file more : List ℕ) → IsSealedInBlocks index file → table_in (file ++ more) ≡ table_of index
table-more index file more is =
    let table : List ℕ = table_of index in
    let same : file ≡ header_as blocks_number table ++ (table ++ index) = three-parts index file is in
    let len : length_in (file ++ more) ≡ length table =
    ap (λ f. length_in (f ++ more)) same ∙ length-more blocks_number table (table ++ index) more (small-table index is.fits) in
    ap (λ n. take n (drop 24 (file ++ more))) len ∙ ap (λ f. take (length table) (drop 24 (f ++ more))) same
    ∙ ap (take (length table)) (append_assoc table index more) ∙ take-append_seam table (index ++ more)

same-lengths : (index second : List ℕ) → length index < 2 ^ 64 → length second < 2 ^ 64 → table_of index ≡ table_of second → length index ≡ length second
same-lengths index second low small e =
    sym (from_le_bytes-to_le_bytes_8 (length index) low) ∙ ap (λ l. from_le_bytes w64 (take 8 l)) e ∙ from_le_bytes-to_le_bytes_8 (length second) small

pub no_index_longer : (index second file more : List ℕ) → length (file ++ more) < 2 ^ 64 → IsSealedIndex index file → IsSealedIndex second (file ++ more) → more ≡ []
no_index_longer index second file more short (inl a) (inl b) = none_longer index_number index_number index second file more short a b
no_index_longer index second file more short (inl a) (inr b) =
    let k : kind_in (file ++ more) ≡ index_number = ap (λ f. kind_in (f ++ more)) a.parts ∙ kind-more index_number index index more (omega arith) in
    absurd (let other : kind_in (file ++ more) ≡ blocks_number = (stands second (file ++ more) b).kind in omega arith)
no_index_longer index second file more short (inr a) (inl b) =
    let k : kind_in (file ++ more) ≡ blocks_number =
    ap (λ f. kind_in (f ++ more)) (three-parts index file a) ∙ kind-more blocks_number (table_of index) (table_of index ++ index) more (omega arith) in
    absurd (kind_in-whole second (file ++ more) b k)
no_index_longer index second file more short (inr a) (inr b) =
    let tables : table_of index ≡ table_of second = sym (table-more index file more a) ∙ (stands second (file ++ more) b).table in
    let one : length file ≡ 24 + length (table_of index) + length index = (stands index file a).long in
    let two : length (file ++ more) ≡ 24 + length (table_of second) + length second = (stands second (file ++ more) b).long in
    let both : length (file ++ more) ≡ length file + length more = length-append file more in
    let lengths : length index ≡ length second = same-lengths index second a.fits b.fits tables in
    let table : length (table_of index) ≡ length (table_of second) = ap length tables in
    nothing more (omega arith)

-- ---- a byte that differs

-- a number of eight bytes has the lowest bits of what was written
word-of : (n : ℕ) → from_le_bytes w64 (to_le_bytes w64 n) ≡ n % 2 ^ 64
word-of n = omega arith

length-index : (index file : List ℕ) → IsSealedAs index_number index file → length_in file ≡ length index % 2 ^ 64
length-index index file is = ap length_in is.parts ∙ word-of (length index)

two-front : (l rest other : List ℕ) → 2 ≤ length l → from_le_bytes w16 (l ++ rest) ≡ from_le_bytes w16 (l ++ other)
two-front [] rest other long = absurd (omega arith)
two-front (x ∷ []) rest other long = absurd (omega arith)
two-front (x ∷ y ∷ l) rest other long = refl

-- as one byte differs, the number or the length in the header are the same
same-kind : (front behind : List ℕ) (b d : ℕ) → 12 ≤ length front → kind_in (front ++ (b ∷ behind)) ≡ kind_in (front ++ (d ∷ behind))
same-kind front behind b d far =
    ap (from_le_bytes w16) (drop-append-le 10 front (b ∷ behind) (omega arith))
    ∙ two-front (drop 10 front) (b ∷ behind) (d ∷ behind) (omega (arith, length-drop 10 front))
    ∙ ap (from_le_bytes w16) (sym (drop-append-le 10 front (d ∷ behind) (omega arith)))

same-length : (front behind : List ℕ) (b d : ℕ) → length front < 12 → length_in (front ++ (b ∷ behind)) ≡ length_in (front ++ (d ∷ behind))
same-length front behind b d near =
    let n : ℕ = 11 - length front in
    ap (from_le_bytes w64) (behind-place front behind b 12 n (omega arith) ∙ sym (behind-place front behind d 12 n (omega arith)))

as-long : (front behind : List ℕ) (b d : ℕ) → length (front ++ (b ∷ behind)) ≡ length (front ++ (d ∷ behind))
as-long front behind b d = length-append front (b ∷ behind) ∙ sym (length-append front (d ∷ behind))

-- an index in blocks that is empty is its table alone
alone : (index file : List ℕ) → length index ≡ 0 → IsSealedInBlocks index file → IsSealedAs blocks_number (table_of index) file
alone index file none is =
    let empty : index ≡ [] = nothing index none in
    let whole : file ≡ header_as blocks_number (table_of index) ++ (table_of index ++ index) = three-parts index file is in
    record { parts = whole ∙ ap (λ l. header_as blocks_number (table_of index) ++ l) (ap (λ l. table_of index ++ l) empty ∙ append-nil (table_of index)) }

mixed-at : (index second front behind : List ℕ) (b d : ℕ) → ((i : ℕ) → get_or (front ++ (b ∷ behind)) i 0 < 256) → ((i : ℕ) → get_or (front ++ (d ∷ behind)) i 0 < 256)
    → IsSealedAs index_number index (front ++ (b ∷ behind)) → IsSealedInBlocks second (front ++ (d ∷ behind)) → (length front < 12) ⊎ (12 ≤ length front) → b ≡ d
mixed-at index second front behind b d p q x y (inr far) = absurd (kind_in-whole index _ x (same-kind front behind b d far ∙ (stands second _ y).kind))
mixed-at index second front behind b d p q x y (inl near) =
    let one : length (front ++ (b ∷ behind)) ≡ 24 + length index = ap length x.parts ∙ length-sealed index_number index in
    let two : length (front ++ (d ∷ behind)) ≡ 24 + length (table_of second) + length second = (stands second _ y).long in
    let same : length (front ++ (b ∷ behind)) ≡ length (front ++ (d ∷ behind)) = as-long front behind b d in
    let len : length (table_of second) ≡ length index % 2 ^ 64 = sym (stands second _ y).len ∙ sym (same-length front behind b d near) ∙ length-index index _ x in
    let fits : length second < 2 ^ 64 = y.fits in
    let none : length second ≡ 0 = omega arith in
    one_byte index_number blocks_number index (table_of second) front behind b d p q x (alone second _ none y)

mixed : (index second front behind : List ℕ) (b d : ℕ) → ((i : ℕ) → get_or (front ++ (b ∷ behind)) i 0 < 256) → ((i : ℕ) → get_or (front ++ (d ∷ behind)) i 0 < 256)
    → IsSealedAs index_number index (front ++ (b ∷ behind)) → IsSealedInBlocks second (front ++ (d ∷ behind)) → b ≡ d
mixed index second front behind b d p q x y = mixed-at index second front behind b d p q x y (cases_lt (length front) 12)

-- what is in front of the index is sealed
front-sealed : (index file : List ℕ) (n : ℕ) → n ≡ 24 + length (table_of index) → IsSealedInBlocks index file → take n file ≡ header_as blocks_number (table_of index) ++ table_of index
front-sealed index file n e is =
    let table : List ℕ = table_of index in
    let front : List ℕ = header_as blocks_number table ++ table in
    let long : n ≡ length front = e ∙ omega arith in
    ap (take n) (three-parts index file is ∙ sym (append_assoc (header_as blocks_number table) table index))
    ∙ ap (λ k. take k (front ++ index)) long ∙ take-append_seam front index

-- the byte is in front of the index
in-front : (index second front behind : List ℕ) (b d n : ℕ) → ((i : ℕ) → get_or (front ++ (b ∷ behind)) i 0 < 256) → ((i : ℕ) → get_or (front ++ (d ∷ behind)) i 0 < 256)
    → IsSealedInBlocks index (front ++ (b ∷ behind)) → IsSealedInBlocks second (front ++ (d ∷ behind))
    → n ≡ 24 + length (table_of index) → n ≡ 24 + length (table_of second) → length front < n → b ≡ d
in-front index second front behind b d n p q x y e f near =
    let k : ℕ = n - (1 + length front) in
    let place : n ≡ length front + (1 + k) = omega arith in
    let one : take n (front ++ (b ∷ behind)) ≡ front ++ (b ∷ take k behind) = up_to-place front behind b n k place in
    let two : take n (front ++ (d ∷ behind)) ≡ front ++ (d ∷ take k behind) = up_to-place front behind d n k place in
    one_byte blocks_number blocks_number (table_of index) (table_of second) front (take k behind) b d
    (subst (λ l. (i : ℕ) → get_or l i 0 < 256) one (bytes-take n _ p)) (subst (λ l. (i : ℕ) → get_or l i 0 < 256) two (bytes-take n _ q))
    (record { parts = sym one ∙ front-sealed index _ n e x }) (record { parts = sym two ∙ front-sealed second _ n f y })

-- the block of a byte
block-of : (front behind : List ℕ) (b i k : ℕ) → block_len * i ≤ length front → block_len ≡ length (drop (block_len * i) front) + (1 + k)
    → take block_len (drop (block_len * i) (front ++ (b ∷ behind))) ≡ drop (block_len * i) front ++ (b ∷ take k behind)
block-of front behind b i k far e =
    ap (take block_len) (drop-append-le (block_len * i) front (b ∷ behind) far) ∙ up_to-place (drop (block_len * i) front) behind b block_len k e

-- two lists of bytes with the same checksums of blocks differ in no byte alone
same-sums : (front behind : List ℕ) (b d : ℕ) → ((i : ℕ) → get_or (front ++ (b ∷ behind)) i 0 < 256) → ((i : ℕ) → get_or (front ++ (d ∷ behind)) i 0 < 256)
    → sums_of (front ++ (b ∷ behind)) ≡ sums_of (front ++ (d ∷ behind)) → b ≡ d
same-sums front behind b d p q e =
    let i : ℕ = length front / block_len in
    let ahead : List ℕ = drop (block_len * i) front in
    let far : block_len * i ≤ length front = omega arith in
    let long : length ahead ≡ length front - block_len * i = length-drop (block_len * i) front in
    let k : ℕ = block_len - (1 + length ahead) in
    let place : block_len ≡ length ahead + (1 + k) = omega arith in
    let one : take block_len (drop (block_len * i) (front ++ (b ∷ behind))) ≡ ahead ++ (b ∷ take k behind) = block-of front behind b i k far place in
    let two : take block_len (drop (block_len * i) (front ++ (d ∷ behind))) ≡ ahead ++ (d ∷ take k behind) = block-of front behind d i k far place in
    let within : i < block_count (length (front ++ (b ∷ behind))) = let all : length (front ++ (b ∷ behind)) ≡ length front + length (b ∷ behind) = length-append front (b ∷ behind) in omega arith in
    let inside : i < block_count (length (front ++ (d ∷ behind))) = let all : length (front ++ (d ∷ behind)) ≡ length front + length (d ∷ behind) = length-append front (d ∷ behind) in omega arith in
    let words : to_le_bytes w32 (crc32c (ahead ++ (b ∷ take k behind))) ≡ to_le_bytes w32 (crc32c (ahead ++ (d ∷ take k behind))) =
    ap (λ l. to_le_bytes w32 (crc32c l)) (sym one) ∙ sym (sums-at i _ (front ++ (b ∷ behind)) within)
    ∙ ap (λ l. take 4 (drop (4 * i) l)) e ∙ sums-at i _ (front ++ (d ∷ behind)) inside ∙ ap (λ l. to_le_bytes w32 (crc32c l)) two in
    let left : (j : ℕ) → get_or (ahead ++ (b ∷ take k behind)) j 0 < 256 = subst (λ l. (j : ℕ) → get_or l j 0 < 256) one (bytes-take block_len _ (bytes-drop (block_len * i) _ p)) in
    let right : (j : ℕ) → get_or (ahead ++ (d ∷ take k behind)) j 0 < 256 = subst (λ l. (j : ℕ) → get_or l j 0 < 256) two (bytes-take block_len _ (bytes-drop (block_len * i) _ q)) in
    crc32c-one ahead (take k behind) b d (front-bytes ahead (b ∷ take k behind) left) (λ j. behind-bytes ahead (b ∷ take k behind) left (suc j))
    (behind-bytes ahead (b ∷ take k behind) left 0) (behind-bytes ahead (d ∷ take k behind) right 0)
    (same_crc _ _ left right words)

-- the byte is in the index
in-index : (index second front behind : List ℕ) (b d n : ℕ) → ((i : ℕ) → get_or (front ++ (b ∷ behind)) i 0 < 256) → ((i : ℕ) → get_or (front ++ (d ∷ behind)) i 0 < 256)
    → IsSealedInBlocks index (front ++ (b ∷ behind)) → IsSealedInBlocks second (front ++ (d ∷ behind))
    → n ≡ 24 + length (table_of index) → n ≡ 24 + length (table_of second) → n ≤ length front → b ≡ d
in-index index second front behind b d n p q x y e f far =
    let fronts : header_as blocks_number (table_of index) ++ table_of index ≡ header_as blocks_number (table_of second) ++ table_of second =
    sym (front-sealed index _ n e x) ∙ take-append-le n front (b ∷ behind) far ∙ sym (take-append-le n front (d ∷ behind) far) ∙ front-sealed second _ n f y in
    let tables : table_of index ≡ table_of second = ap (drop 24) fronts in
    let one : index ≡ drop n front ++ (b ∷ behind) =
    sym (stands index _ x).behind ∙ ap (λ m. drop m (front ++ (b ∷ behind))) (ap (λ m. 24 + m) (stands index _ x).len ∙ sym e) ∙ drop-append-le n front (b ∷ behind) far in
    let two : second ≡ drop n front ++ (d ∷ behind) =
    sym (stands second _ y).behind ∙ ap (λ m. drop m (front ++ (d ∷ behind))) (ap (λ m. 24 + m) (stands second _ y).len ∙ sym f) ∙ drop-append-le n front (d ∷ behind) far in
    let left : (i : ℕ) → get_or (drop n front ++ (b ∷ behind)) i 0 < 256 = subst (λ l. (i : ℕ) → get_or l i 0 < 256) (drop-append-le n front (b ∷ behind) far) (bytes-drop n _ p) in
    let right : (i : ℕ) → get_or (drop n front ++ (d ∷ behind)) i 0 < 256 = subst (λ l. (i : ℕ) → get_or l i 0 < 256) (drop-append-le n front (d ∷ behind) far) (bytes-drop n _ q) in
    same-sums (drop n front) behind b d left right (ap sums_of (sym one) ∙ ap (drop 8) tables ∙ ap sums_of two)

in-blocks-at : (index second front behind : List ℕ) (b d n : ℕ) → ((i : ℕ) → get_or (front ++ (b ∷ behind)) i 0 < 256) → ((i : ℕ) → get_or (front ++ (d ∷ behind)) i 0 < 256)
    → IsSealedInBlocks index (front ++ (b ∷ behind)) → IsSealedInBlocks second (front ++ (d ∷ behind))
    → n ≡ 24 + length (table_of index) → n ≡ 24 + length (table_of second) → (length front < n) ⊎ (n ≤ length front) → b ≡ d
in-blocks-at index second front behind b d n p q x y e f (inl near) = in-front index second front behind b d n p q x y e f near
in-blocks-at index second front behind b d n p q x y e f (inr far) = in-index index second front behind b d n p q x y e f far

in-blocks : (index second front behind : List ℕ) (b d : ℕ) → ((i : ℕ) → get_or (front ++ (b ∷ behind)) i 0 < 256) → ((i : ℕ) → get_or (front ++ (d ∷ behind)) i 0 < 256)
    → IsSealedInBlocks index (front ++ (b ∷ behind)) → IsSealedInBlocks second (front ++ (d ∷ behind)) → b ≡ d
in-blocks index second front behind b d p q x y =
    let one : length (front ++ (b ∷ behind)) ≡ 24 + length (table_of index) + length index = (stands index _ x).long in
    let two : length (front ++ (d ∷ behind)) ≡ 24 + length (table_of second) + length second = (stands second _ y).long in
    let t : length (table_of index) ≡ 8 + 4 * block_count (length index) = length-table index in
    let u : length (table_of second) ≡ 8 + 4 * block_count (length second) = length-table second in
    let same : length (front ++ (b ∷ behind)) ≡ length (front ++ (d ∷ behind)) = as-long front behind b d in
    let n : ℕ = 24 + length (table_of index) in
    let f : n ≡ 24 + length (table_of second) = omega arith in
    in-blocks-at index second front behind b d n p q x y refl f (cases_lt (length front) n)

-- two sealed indexes that differ at one place at most do not differ
pub one_byte_of_index : (index second front behind : List ℕ) (b d : ℕ) → ((i : ℕ) → get_or (front ++ (b ∷ behind)) i 0 < 256) → ((i : ℕ) → get_or (front ++ (d ∷ behind)) i 0 < 256)
    → IsSealedIndex index (front ++ (b ∷ behind)) → IsSealedIndex second (front ++ (d ∷ behind)) → b ≡ d
one_byte_of_index index second front behind b d p q (inl x) (inl y) = one_byte index_number index_number index second front behind b d p q x y
one_byte_of_index index second front behind b d p q (inl x) (inr y) = mixed index second front behind b d p q x y
one_byte_of_index index second front behind b d p q (inr x) (inl y) = sym (mixed second index front behind d b q p y x)
one_byte_of_index index second front behind b d p q (inr x) (inr y) = in-blocks index second front behind b d p q x y

-- ---- what is behind the front

-- the front of a file, and what is behind it
front-whole : (start : ℕ) (file : List ℕ) (has : HasFront start file) → file ≡ header_as blocks_number has.2 ++ (has.2 ++ drop start file)
front-whole start file has =
    sym (take-append-drop start file) ∙ ap (λ f. f ++ drop start file) has.3.parts ∙ append_assoc (header_as blocks_number has.2) has.2 (drop start file)

pub index_behind : (index file : List ℕ) (start : ℕ) → IsSealedIndex index file → HasFront start file
    → (drop start file ≡ index) × (drop 24 (take start file) ≡ table_of index) × (length index < 2 ^ 64)
index_behind index file start (inl is) has =
    absurd (kind_in-whole index file is (ap kind_in (front-whole start file has) ∙ kind_in-header blocks_number has.2 (has.2 ++ drop start file) (omega arith)))
index_behind index file start (inr is) has =
    let table : List ℕ = has.2 in
    let rest : List ℕ = drop start file in
    let long : 24 + length table ≡ start = sym (length-sealed blocks_number table) ∙ ap length (sym has.3.parts) ∙ length-take-le start file has.0 in
    let len : length_in file ≡ length table =
    ap length_in (front-whole start file has) ∙ length_in-header blocks_number table (table ++ rest) (let small = has.1 in omega (arith, long, small)) in
    let within : table_in file ≡ table =
    ap (λ n. take n (drop 24 file)) len ∙ ap (λ f. take (length table) (drop 24 f)) (front-whole start file has) ∙ take-append_seam table rest in (
      ap (λ n. drop n file) (sym long ∙ ap (λ n. 24 + n) (sym len)) ∙ (stands index file is).behind,
      ap (drop 24) has.3.parts ∙ sym within ∙ (stands index file is).table,
      is.fits,
    )
