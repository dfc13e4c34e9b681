-- A file that is sealed in blocks is not refused.
use Rattle.std.proofs.Common.{◌≡◌, ℕ, zero, suc, ◌+◌, ◌*◌, ◌^◌, ◌<◌, ◌≤◌, inl, inr, List, ◌++◌, length, take, drop, refl, sym, subst, ap, ◌∙◌, length-append, arith}
use Rattle.std.specs.Int.{w32, w64, to_le_bytes, from_le_bytes}
use Rattle.std.proofs.lemmas.List.{append_assoc, take_all, length-drop, drop-drop}
use Rattle.std.proofs.lemmas.Nat.{from_le_bytes-to_le_bytes_8}
use Rattle.zerotrie_sealed.specs.Checksum.{crc32c}
use Rattle.zerotrie_sealed.specs.Sealed.{blocks_number, block_count, header_as, sums, sums_of, table_of, HasFront, IsSealedInBlocks}
use Rattle.zerotrie_sealed.specs.Faults.{length_in}
use Rattle.zerotrie_sealed.specs.Laws.{IndexIsBehind}
use Rattle.zerotrie_sealed.specs.declared.reading.SealError.{SealError}
use Rattle.zerotrie_sealed.specs.declared.reading.SealError.TheVariants.{NoMagic, UnknownVersion, UnknownKind, CutShort, TooLong, Checksum}
use Rattle.zerotrie_index.specs.InBlocks.{HasTableOf, IsRightBlock, block_of, IsCause, FailsInFront, IsFrontFault, IsBlockFault, FailsInBlocks, IsPartFault}
use Rattle.zerotrie_index.specs.declared.in_blocks.Front.{Front}
use Rattle.zerotrie_uses.specs.declared.slices.SliceError.{SliceError}
use Rattle.zerotrie_uses.specs.declared.slices.SliceError.TheVariants.{Ended, NotSealed, OutOfMemory}

-- all of the table is there
sealed_fits : (index file : List ℕ) → IsSealedInBlocks index file → length file < 2 ^ 64 → 24 + length_in file ≤ length file
sealed_fits index file is short =
    let table : List ℕ = table_of index in
    let same : file ≡ header_as blocks_number table ++ (table ++ index) =
    is.parts ∙ ap (λ l. l ++ index) is.sealed.parts ∙ append_assoc (header_as blocks_number table) table index in
    let both : length (table ++ index) ≡ length table + length index = length-append table index in
    let long : length file ≡ 24 + length (table ++ index) = ap length same ∙ omega arith in
    let len : length_in file ≡ length table = ap length_in same ∙ from_le_bytes-to_le_bytes_8 (length table) (omega (arith, both, long, short)) in
    omega (arith, both, long, len)

-- why the front of a slice is refused
pub front_cause : (file index : List ℕ) (e : SliceError) → IsSealedInBlocks index file → length file < 2 ^ 64
    → IsCause (FailsInFront (λ bytes. file ≡ bytes) (λ place count e. (e ≡ Ended) × (length file < place + count))) (λ e. e ≡ OutOfMemory) (λ why e. e ≡ NotSealed why)
    (IsFrontFault (λ bytes. file ≡ bytes)) e
    → e ≡ OutOfMemory
front_cause file index e is short (inl fails) =
    absurd (let within = fails.2 file refl in let far = fails.3.1 in let fits = sealed_fits index file is short in omega (arith, within, far, fits))
front_cause file index e is short (inr (inl memory)) = memory
front_cause file index e is short (inr (inr told)) = absurd ((told.2 file refl short).1 index is)

-- ---- the blocks

sums_at : (count : ℕ) (bytes : List ℕ) (n : ℕ) → n < count → (more : List ℕ) × (drop (4 * n) (sums count bytes) ≡ to_le_bytes w32 (crc32c (take 65536 (drop (65536 * n) bytes))) ++ more)
sums_at zero bytes n within = absurd (omega arith)
sums_at (suc count) bytes zero within = (sums count (drop 65536 bytes), refl)
sums_at (suc count) bytes (suc n) within =
    let r = sums_at count (drop 65536 bytes) n (omega arith) in
    let e : 4 * suc n ≡ suc (suc (suc (suc (4 * n)))) = omega arith in
    let f : 65536 + 65536 * n ≡ 65536 * suc n = omega arith in (
      r.0,
      ap (λ k. drop k (sums (suc count) bytes)) e ∙ r.1
          ∙ ap (λ b. to_le_bytes w32 (crc32c (take 65536 b)) ++ r.0) (drop-drop (65536 * n) 65536 bytes ∙ ap (λ k. drop k bytes) f),
    )

-- What is known of a file that is an index in blocks, of which the front was read.
pub record Whole (index file : List ℕ) (front : Front) : Type 0 where
  pub len : front.index_len ≡ length index
  pub checksums : front.sums.items ≡ sums_of index
  pub behind : drop front.start file ≡ index
  pub ends : front.start + length index ≡ length file

pub whole : IndexIsBehind → (index file : List ℕ) (front : Front) → IsSealedInBlocks index file → HasFront front.start file → HasTableOf front.start front.index_len front.sums.items file
    → Whole index file front
whole law index file front is has table =
    let b = law index file front.start (inr is) has in
    let same = sym table.1 ∙ b.1 in
    let start = has.0 in
    let left = length-drop front.start file in
    let long = ap length b.0 in
    record {
      len = sym (from_le_bytes-to_le_bytes_8 front.index_len table.0) ∙ ap (λ l. from_le_bytes w64 (take 8 l)) same ∙ from_le_bytes-to_le_bytes_8 (length index) b.2;
      checksums = ap (drop 8) same;
      behind = b.0;
      ends = omega (arith, start, left, long);
    }

right : (index file : List ℕ) (front : Front) (number : ℕ) → Whole index file front → 65536 * number < length index
    → IsRightBlock front.sums.items number (block_of number (take front.index_len (drop front.start file)))
right index file front number w within =
    let len = w.len in
    let same : take front.index_len (drop front.start file) ≡ index = ap (take front.index_len) w.behind ∙ take_all front.index_len index (omega (arith, len)) in
    subst (λ b. IsRightBlock front.sums.items number (block_of number b)) (sym same)
    (subst (λ s. IsRightBlock s number (block_of number index)) (sym w.checksums) (sums_at (block_count (length index)) index number (omega (arith, within))))

no_fault : (MayHold : List ℕ → Type 0) (index file : List ℕ) (front : Front) (number : ℕ) (why : SealError) → MayHold file → Whole index file front → length file < 2 ^ 64
    → 65536 * number < length index → IsBlockFault MayHold front number why → ⊥
no_fault MayHold index file front number NoMagic may w short within fault = fault
no_fault MayHold index file front number (UnknownVersion v) may w short within fault = fault
no_fault MayHold index file front number (UnknownKind k) may w short within fault = fault
no_fault MayHold index file front number CutShort may w short within fault = let ends = w.ends in omega (arith, ends, short, within, fault)
no_fault MayHold index file front number TooLong may w short within fault = fault
no_fault MayHold index file front number Checksum may w short within fault = fault file may (right index file front number w within)

-- why a part is refused that the index has
pub part_cause : (MayHold : List ℕ → Type 0) (MayRefuse : ℕ → ℕ → SliceError → Type 0) (index file : List ℕ) (front : Front) (at n : ℕ) (e : SliceError) → MayHold file
    → ((place count : ℕ) (e : SliceError) → MayRefuse place count e → (e ≡ Ended) × (length file < place + count)) → Whole index file front → length file < 2 ^ 64 → at + n ≤ length index
    → IsCause (FailsInBlocks MayRefuse front at n) (λ e. e ≡ OutOfMemory) (λ why e. e ≡ NotSealed why) (IsPartFault MayHold front at n) e → e ≡ OutOfMemory
part_cause MayHold MayRefuse index file front at n e may fewer w short inside (inl fails) =
    absurd (let far = (fewer _ _ e fails.2).1 in let len = w.len in let ends = w.ends in let up = fails.1.1 in omega (arith, far, len, ends, up, inside))
part_cause MayHold MayRefuse index file front at n e may fewer w short inside (inr (inl memory)) = memory
part_cause MayHold MayRefuse index file front at n e may fewer w short inside (inr (inr (why, told, inl cut))) =
    absurd (let far = cut.1 in let len = w.len in omega (arith, far, len, inside))
part_cause MayHold MayRefuse index file front at n e may fewer w short inside (inr (inr (why, told, inr wrong))) =
    absurd (let up = wrong.1.1 in no_fault MayHold index file front wrong.0 why may w short (omega (arith, up, inside)) wrong.2)
