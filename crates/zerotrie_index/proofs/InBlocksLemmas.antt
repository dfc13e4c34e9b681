-- A sealed index in blocks that is read at places.
use Rattle.std.proofs.Common.{◌≡◌, ℕ, ◌+◌, ◌-◌, ◌*◌, ◌/◌, ◌%◌, ◌^◌, ◌<◌, ◌≤◌, inl, inr, List, ◌++◌, length, take, drop, sym, subst, ap, ◌∙◌, arith}
use Rattle.std.specs.Prelude.{min}
use Rattle.zerotrie_sealed.specs.declared.reading.SealError.{SealError}
use Rattle.zerotrie_sealed.specs.declared.reading.SealError.TheVariants.{NoMagic, UnknownVersion, UnknownKind, CutShort, TooLong, Checksum}
use Rattle.std.specs.Int.{w64, to_le_bytes, from_le_bytes}
use Rattle.std.proofs.Common.{length-append}
use Rattle.std.proofs.Math.Seq.{take-append_seam}
use Rattle.std.proofs.lemmas.List.{drop_at, take_all, take_min, length-take, length-take-le, length-drop, take-take, drop-take, drop-drop}
use Rattle.zerotrie_sealed.specs.Sealed.{blocks_number, IsSealedAs, HasFront}
use Rattle.std.proofs.lemmas.Nat.{from_le_bytes-to_le_bytes_8}
use Rattle.zerotrie_sealed.specs.Laws.{IndexIsBehind}
use Rattle.zerotrie_index.specs.InBlocks.{HasItsBlocks, HasTableOf, IsRightBlock, MayBeIndex, block_of, IsCause, FailsInBlock, IsBlockFault, IsBlockFor, FailsInBlocks, IsPartFault}
use Rattle.zerotrie_index.specs.declared.in_blocks.Front.{Front}
use Rattle.zerotrie_index.specs.Placed.{HasPart, IsPart, MayStill, FailsNoMore}
use Rattle.zerotrie_index.proofs.PlacedLemmas.{joined}

-- the header and the table that were read are what a file begins with
begins : (file header table : List ℕ) → length header ≡ 24 → header ≡ take (length header) file → table ≡ take (length table) (drop 24 file) → header ++ table ≡ take (24 + length table) file
begins file header table long first second =
    joined header table file first (subst (λ n. table ≡ take (length table) (drop n file)) (sym long) second)
    ∙ ap (λ n. take n file) (length-append header table ∙ ap (λ n. n + length table) long)

pub front_read : (file header table : List ℕ) → length header ≡ 24 → header ≡ take (length header) file → table ≡ take (length table) (drop 24 file)
    → 24 + length table < 2 ^ 64 → IsSealedAs blocks_number table (header ++ table) → HasFront (24 + length table) file
front_read file header table long first second fits sealed =
    let whole : header ++ table ≡ take (24 + length table) file = begins file header table long first second in
    let count : length (header ++ table) ≡ 24 + length table = length-append header table ∙ ap (λ n. n + length table) long in
    let least : 24 + length table ≡ min (24 + length table) (length file) = sym count ∙ ap length whole ∙ length-take (24 + length table) file in
    (omega (arith, least), fits, table, subst (IsSealedAs blocks_number table) whole sealed)

pub table_read : (file header table : List ℕ) (index_len : ℕ) (sums : List ℕ) → length header ≡ 24 → header ≡ take (length header) file → table ≡ take (length table) (drop 24 file)
    → index_len < 2 ^ 64 → table ≡ to_le_bytes w64 index_len ++ sums → HasTableOf (24 + length table) index_len sums file
table_read file header table index_len sums long first second fits is =
    (fits, ap (drop 24) (sym (begins file header table long first second)) ∙ drop_at header table 24 long ∙ is)

shorter : (a b : ℕ) (xs : List ℕ) → take a (take b xs) ≡ take (min a b) xs
shorter a b xs =
    let l = length-take b xs in
    sym (take_min a (take b xs)) ∙ take-take (min a (length (take b xs))) b xs (omega (arith, l)) ∙ ap (λ n. take n xs) (omega (arith, l)) ∙ take_min (min a b) xs

-- what is read of a block is the block of the index in the file
is_block : (block file : List ℕ) (start len number : ℕ) → block ≡ take (length block) (drop (start + 65536 * number) file) → length block ≡ min 65536 (len - 65536 * number)
    → 65536 * number ≤ len → block ≡ block_of number (take len (drop start file))
is_block block file start len number is long within =
    let left = len - 65536 * number in
    let split : len ≡ 65536 * number + left = omega (arith, within) in
    let rest : drop (65536 * number) (drop start file) ≡ drop (start + 65536 * number) file = drop-drop (65536 * number) start file ∙ ap (λ n. drop n file) (omega arith) in
    is ∙ ap (λ n. take n (drop (start + 65536 * number) file)) long ∙ sym (shorter 65536 left (drop (start + 65536 * number) file))
    ∙ ap (λ r. take 65536 (take left r)) (sym rest) ∙ ap (take 65536) (sym (drop-take (65536 * number) left (drop start file)))
    ∙ ap (λ n. block_of number (take n (drop start file))) (sym split)

part_of : (block bytes : List ℕ) (number offset count : ℕ) → block ≡ block_of number bytes → count + offset ≤ 65536 → take count (drop offset block) ≡ take count (drop (65536 * number + offset) bytes)
part_of block bytes number offset count is within =
    let rest = drop (65536 * number) bytes in
    let left = 65536 - offset in
    let split : 65536 ≡ offset + left = omega (arith, within) in
    ap (λ b. take count (drop offset b)) (is ∙ ap (λ n. take n rest) split)
    ∙ ap (take count) (drop-take offset left rest)
    ∙ take-take count left (drop offset rest) (omega (arith, within))
    ∙ ap (take count) (drop-drop offset (65536 * number) bytes ∙ ap (λ n. drop n bytes) (omega arith))

-- a part of a block that is right is one of the index
pub block_part : (MayHold : List ℕ → Type 0) (block part : List ℕ) (front : Front) (place offset count : ℕ) → IsPart MayHold (front.start + 65536 * (place / 65536)) block
    → length block ≡ min 65536 (front.index_len - 65536 * (place / 65536)) → IsRightBlock front.sums.items (place / 65536) block → offset ≡ place % 65536 → 0 < count
    → count + offset ≤ length block → part ≡ take count (drop offset block) → length part ≡ count → IsPart (MayBeIndex MayHold front) place part
block_part MayHold block part front place offset count read whole right at some within is long = λ bytes may.
    let number = place / 65536 in
    let own : block ≡ block_of number (take front.index_len (drop front.start may.0)) = is_block block may.0 front.start front.index_len number (read may.0 may.1) whole (omega (arith, whole, some, within)) in
    let same : block ≡ block_of number bytes = own ∙ sym (may.3 front.index_len front.sums.items may.2 number (subst (IsRightBlock front.sums.items number) own right)) in
    is ∙ part_of block bytes number offset count same (omega (arith, whole, within))
    ∙ ap (λ n. take count (drop n bytes)) (omega (arith, at))
    ∙ ap (λ n. take n (drop place bytes)) (sym long)

pub long_part : (block : List ℕ) (offset count : ℕ) → count + offset ≤ length block → length (take count (drop offset block)) ≡ count
long_part block offset count within = length-take-le count (drop offset block) (let left = length-drop offset block in omega (arith, left, within))

-- what was read fills the room
pub filled_part : (MayHold : List ℕ → Type 0) (place start number len : ℕ) (room items : List ℕ) → IsPart MayHold place room → place ≡ start + 65536 * number → length room ≡ len
    → IsPart MayHold (start + 65536 * number) (take len (room ++ drop (length room) items))
filled_part MayHold place start number len room items read is long = λ bytes may.
    let all : take len (room ++ drop (length room) items) ≡ room = ap (λ n. take n (room ++ drop (length room) items)) (sym long) ∙ take-append_seam room (drop (length room) items) in
    subst (λ r. HasPart (start + 65536 * number) r bytes) (sym all) (subst (λ n. HasPart n room bytes) is (read bytes may))

-- ---- why a part is not read

-- a block whose checksum is wrong is so in each file that may be held
pub wrong_block : (MayHold : List ℕ → Type 0) (front : Front) (number : ℕ) (block : List ℕ) → IsPart MayHold (front.start + 65536 * number) block
    → length block ≡ min 65536 (front.index_len - 65536 * number) → 65536 * number ≤ front.index_len → (IsRightBlock front.sums.items number block → ⊥) → IsBlockFault MayHold front number Checksum
wrong_block MayHold front number block read long within wrong = λ file may right.
    wrong (subst (IsRightBlock front.sums.items number) (sym (is_block block file front.start front.index_len number (read file may) long within)) right)

pub block_cause : {E : Type 0} (MayHold : List ℕ → Type 0) (MayRefuse : ℕ → ℕ → E → Type 0) (IsMemory : E → Type 0) (IsTold : SealError → E → Type 0) (front : Front) (place count number : ℕ) (e : E)
    → IsBlockFor front place count number → IsCause (FailsInBlock MayRefuse front number) IsMemory IsTold (IsBlockFault MayHold front number) e
    → IsCause (FailsInBlocks MayRefuse front place count) IsMemory IsTold (IsPartFault MayHold front place count) e
block_cause MayHold MayRefuse IsMemory IsTold front place count number e has (inl refused) = inl (number, has, refused)
block_cause MayHold MayRefuse IsMemory IsTold front place count number e has (inr (inl memory)) = inr (inl memory)
block_cause MayHold MayRefuse IsMemory IsTold front place count number e has (inr (inr told)) = inr (inr (told.0, told.1, inr (number, has, told.2)))

block_before : (Before After : List ℕ → Type 0) (front : Front) (number : ℕ) (why : SealError) → MayStill Before After → IsBlockFault After front number why → IsBlockFault Before front number why
block_before Before After front number NoMagic same fault = fault
block_before Before After front number (UnknownVersion v) same fault = fault
block_before Before After front number (UnknownKind k) same fault = fault
block_before Before After front number CutShort same fault = fault
block_before Before After front number TooLong same fault = fault
block_before Before After front number Checksum same fault = λ file may. fault file (same file may)

-- a block that has some of a part of a part has some of that
wider : (front : Front) (place count next most number : ℕ) → place ≤ next → next + most ≡ place + count → IsBlockFor front next most number → IsBlockFor front place count number
wider front place count next most number from to has =
    let all = has.0 in let up = has.1 in let down = has.2 in (omega (arith, to, all), omega (arith, to, up), omega (arith, from, down))

part_before : (Before After : List ℕ → Type 0) (front : Front) (place count next most : ℕ) (why : SealError) → MayStill Before After → place ≤ next → next + most ≡ place + count
    → IsPartFault After front next most why → IsPartFault Before front place count why
part_before Before After front place count next most why same from to (inl cut) = inl (cut.0, let far = cut.1 in omega (arith, to, far))
part_before Before After front place count next most why same from to (inr wrong) =
    inr (wrong.0, wider front place count next most wrong.0 from to wrong.1, block_before Before After front wrong.0 why same wrong.2)

-- why a part of a part is not read is why that is not, also if something was read before
pub cause_before : {E : Type 0} (Before After : List ℕ → Type 0) (Could May : ℕ → ℕ → E → Type 0) (IsMemory : E → Type 0) (IsTold : SealError → E → Type 0) (front : Front) (place count next most : ℕ) (e : E)
    → MayStill Before After → FailsNoMore Could May → place ≤ next → next + most ≡ place + count
    → IsCause (FailsInBlocks May front next most) IsMemory IsTold (IsPartFault After front next most) e
    → IsCause (FailsInBlocks Could front place count) IsMemory IsTold (IsPartFault Before front place count) e
cause_before Before After Could May IsMemory IsTold front place count next most e same fewer from to (inl refused) =
    inl (refused.0, wider front place count next most refused.0 from to refused.1, fewer _ _ e refused.2)
cause_before Before After Could May IsMemory IsTold front place count next most e same fewer from to (inr (inl memory)) = inr (inl memory)
cause_before Before After Could May IsMemory IsTold front place count next most e same fewer from to (inr (inr told)) =
    inr (inr (told.0, told.1, part_before Before After front place count next most told.0 same from to told.2))

-- ---- a sealed index

pub its_blocks : IndexIsBehind → HasItsBlocks
its_blocks behind index file start is has = λ index_len sums table number right.
    let b = behind index file start is has in
    let len : index_len ≡ length index =
    sym (from_le_bytes-to_le_bytes_8 index_len table.0) ∙ ap (λ l. from_le_bytes w64 (take 8 l)) (sym table.1 ∙ b.1) ∙ from_le_bytes-to_le_bytes_8 (length index) b.2 in
    ap (block_of number) (sym (ap (take index_len) b.0 ∙ take_all index_len index (omega (arith, len))))
