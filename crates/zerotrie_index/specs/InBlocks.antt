-- A sealed index in blocks that is read at places.
use Rattle.std.specs.Prelude.{◌≡◌, ◌⊎◌, ◌+◌, ◌-◌, ◌*◌, ◌<◌, ◌≤◌, ◌^◌, ℕ, List, ◌++◌, length, take, drop, min}
use Rattle.std.specs.Int.{w32, w64, to_le_bytes}
use Rattle.zerotrie_sealed.specs.Checksum.{crc32c}
use Rattle.zerotrie_index.specs.declared.in_blocks.Front.{Front}
use Rattle.zerotrie_sealed.specs.Faults.{length_in, table_in, IsTableFault, IsTableRightBefore}
use Rattle.zerotrie_sealed.specs.Sealed.{block_len, HasFront, IsSealedInBlocks, IsSealedIndex}
use Rattle.zerotrie_sealed.specs.declared.reading.SealError.{SealError}
use Rattle.zerotrie_sealed.specs.declared.reading.SealError.TheVariants.{NoMagic, UnknownVersion, UnknownKind, CutShort, TooLong, Checksum}

-- in the front of a file, behind its header, are this length and these checksums
abbrev pub HasTableOf : ℕ → ℕ → List ℕ → List ℕ → Type 0
HasTableOf start index_len sums file = (index_len < 2 ^ 64) × (drop 24 (take start file) ≡ to_le_bytes w64 index_len ++ sums)

-- the block of this number
abbrev pub block_of : ℕ → List ℕ → List ℕ
block_of number index = take block_len (drop (block_len * number) index)

-- the checksum of the block of this number, among those of all, is that of these bytes
abbrev pub IsRightBlock : List ℕ → ℕ → List ℕ → Type 0
IsRightBlock sums number block = (more : List ℕ) × (drop (4 * number) sums ≡ to_le_bytes w32 (crc32c block) ++ more)

-- these bytes have each block of the index in a file that is right by its checksum; those that are damaged may be any
abbrev pub HasRightBlocks : ℕ → List ℕ → List ℕ → Type 0
HasRightBlocks start file bytes = (index_len : ℕ) (sums : List ℕ) → HasTableOf start index_len sums file
    → (number : ℕ) → let block = block_of number (take index_len (drop start file)) in IsRightBlock sums number block → block_of number bytes ≡ block

-- these may be the bytes of the index behind the front of a file, which may hold any that have the right blocks
abbrev pub MayBeIndex : (List ℕ → Type 0) → Front → List ℕ → Type 0
MayBeIndex MayHold front bytes = (file : List ℕ) × MayHold file × HasTableOf front.start front.index_len front.sums.items file × HasRightBlocks front.start file bytes

-- an index that is sealed in blocks has those of its file
abbrev pub HasItsBlocks : Type 0
HasItsBlocks = (index file : List ℕ) (start : ℕ) → IsSealedIndex index file → HasFront start file → HasRightBlocks start file index

-- why a call failed that reads at places: a read did, or an allocation, or this is wrong with what is read
abbrev pub IsCause : {E : Type 0} → (IsRefused IsMemory : E → Type 0) → (IsTold : SealError → E → Type 0) → (IsWrong : SealError → Type 0) → E → Type 0
IsCause IsRefused IsMemory IsTold IsWrong e = IsRefused e ⊎ (IsMemory e ⊎ ((why : SealError) × IsTold why e × IsWrong why))

-- a read fails so of the front of each file that may be held
abbrev pub FailsInFront : {E : Type 0} → (MayHold : List ℕ → Type 0) → (MayRefuse : ℕ → ℕ → E → Type 0) → E → Type 0
FailsInFront MayHold MayRefuse e = (at : ℕ) × (n : ℕ) × ((file : List ℕ) → MayHold file → at + n ≤ 24 + length_in file) × MayRefuse at n e

-- this is wrong with the front of each file that may be held, what is looked at before is right, and none is an index in blocks
abbrev pub IsFrontFault : (List ℕ → Type 0) → SealError → Type 0
IsFrontFault MayHold why = (file : List ℕ) → MayHold file → length file < 2 ^ 64
    → (IsTableFault file (table_in file) why × IsTableRightBefore file (table_in file) why) × ((index : List ℕ) → IsSealedInBlocks index file → ⊥)

-- a read of the block of this number fails so
abbrev pub FailsInBlock : {E : Type 0} → (MayRefuse : ℕ → ℕ → E → Type 0) → Front → ℕ → E → Type 0
FailsInBlock MayRefuse front number e = MayRefuse (front.start + block_len * number) (min block_len (front.index_len - block_len * number)) e

-- this is wrong with the block of this number: it would be behind 2^64 bytes, or no file that may be held has it with its checksum
abbrev pub IsBlockFault : (List ℕ → Type 0) → Front → ℕ → SealError → Type 0
IsBlockFault MayHold front number NoMagic = ⊥
IsBlockFault MayHold front number (UnknownVersion version) = ⊥
IsBlockFault MayHold front number (UnknownKind kind) = ⊥
IsBlockFault MayHold front number CutShort = 2 ^ 64 ≤ front.start + block_len * number
IsBlockFault MayHold front number TooLong = ⊥
IsBlockFault MayHold front number Checksum = (file : List ℕ) → MayHold file
    → IsRightBlock front.sums.items number (block_of number (take front.index_len (drop front.start file))) → ⊥

-- the index has as many bytes from the place on, and some of them are in the block of this number
abbrev pub IsBlockFor : Front → ℕ → ℕ → ℕ → Type 0
IsBlockFor front place count number = (place + count ≤ front.index_len) × (block_len * number < place + count) × (place < block_len * number + block_len)

-- this is wrong with as many bytes of the index from the place on: it has not all of them, or a block that has some is wrong
abbrev pub IsPartFault : (List ℕ → Type 0) → Front → ℕ → ℕ → SealError → Type 0
IsPartFault MayHold front place count why = ((why ≡ CutShort) × (front.index_len < place + count))
    ⊎ ((number : ℕ) × IsBlockFor front place count number × IsBlockFault MayHold front number why)

-- a read of a block fails so that has some of as many bytes of the index from the place on
abbrev pub FailsInBlocks : {E : Type 0} → (MayRefuse : ℕ → ℕ → E → Type 0) → Front → ℕ → ℕ → E → Type 0
FailsInBlocks MayRefuse front place count e = (number : ℕ) × IsBlockFor front place count number × FailsInBlock MayRefuse front number e
