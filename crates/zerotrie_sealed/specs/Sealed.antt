-- Sealed files: a header, and then the bytes of a trie or of an index, or the table of an index, which is behind it.
use Rattle.std.specs.Prelude.{◌≡◌, ◌⊎◌, ℕ, zero, suc, ◌+◌, ◌/◌, ◌<◌, ◌≤◌, ◌^◌, List, [], ◌∷◌, ◌++◌, length, take, drop}
use Rattle.std.specs.Int.{w16, w32, w64, to_le_bytes}
use Rattle.zerotrie_base.specs.Kind.{Kind, tag}
use Rattle.zerotrie_sealed.specs.Checksum.{crc32c}

-- what each sealed file begins with: "ztri", two bytes that would be two values in a row, and the end of a line
abbrev pub magic : List ℕ
magic = 0x7A ∷ 0x74 ∷ 0x72 ∷ 0x69 ∷ 0x89 ∷ 0x8A ∷ 0x0D ∷ 0x0A ∷ []

-- the version of the format
abbrev pub version : ℕ
version = 1

-- the numbers of an index in the header, which no kind has: of an index as a whole, and of the table of one in blocks
abbrev pub index_number : ℕ
index_number = 24

abbrev pub blocks_number : ℕ
blocks_number = 25

abbrev pub IsIndexNumber : ℕ → Type 0
IsIndexNumber number = (number ≡ index_number) ⊎ (number ≡ blocks_number)

-- the header without its checksum: the magic, the version, the number of what is sealed, its length
abbrev pub front_as : ℕ → List ℕ → List ℕ
front_as number bytes = magic ++ to_le_bytes w16 version ++ to_le_bytes w16 number ++ to_le_bytes w64 (length bytes)

-- the header: what is in front, and the checksum of that and the bytes
abbrev pub header_as : ℕ → List ℕ → List ℕ
header_as number bytes = front_as number bytes ++ to_le_bytes w32 (crc32c (front_as number bytes ++ bytes))

-- the header of a trie of the kind
abbrev pub header : Kind → List ℕ → List ℕ
header kind trie = header_as (tag kind) trie

-- The file is the bytes, sealed by the number: the header, and then the bytes.
pub record IsSealedAs (number : ℕ) (bytes file : List ℕ) : Type 0 where
  pub parts : file ≡ header_as number bytes ++ bytes

-- the file is the trie of the kind, sealed
abbrev pub IsSealed : Kind → List ℕ → List ℕ → Type 0
IsSealed kind trie file = IsSealedAs (tag kind) trie file

-- the bytes of a block; the last one of an index may have fewer
abbrev pub block_len : ℕ
block_len = 65536

-- the number of blocks of as many bytes
abbrev pub block_count : ℕ → ℕ
block_count len = (len + 65535) / block_len

-- the checksums of as many blocks, one after another
abbrev pub sums : ℕ → List ℕ → List ℕ
sums zero bytes = []
sums (suc n) bytes = to_le_bytes w32 (crc32c (take block_len bytes)) ++ sums n (drop block_len bytes)

-- the checksums of all blocks
abbrev pub sums_of : List ℕ → List ℕ
sums_of bytes = sums (block_count (length bytes)) bytes

-- the table of an index in blocks: its length, and the checksums of its blocks
abbrev pub table_of : List ℕ → List ℕ
table_of index = to_le_bytes w64 (length index) ++ sums_of index

-- The file is an index in blocks: its table, sealed, and then the index.
pub record IsSealedInBlocks (index file : List ℕ) : Type 0 where
  pub front : List ℕ
  pub sealed : IsSealedAs blocks_number (table_of index) front
  pub parts : file ≡ front ++ index
  pub fits : length index < 2 ^ 64

-- The file begins with as many bytes of a header and of a table, sealed as that of an index in blocks. What is behind
-- them need not be that index.
abbrev pub HasFront : ℕ → List ℕ → Type 0
HasFront start file = (start ≤ length file) × (start < 2 ^ 64) × (table : List ℕ) × IsSealedAs blocks_number table (take start file)

-- the file is the bytes of an index, sealed as a whole or in blocks
abbrev pub IsSealedIndex : List ℕ → List ℕ → Type 0
IsSealedIndex index file = IsSealedAs index_number index file ⊎ IsSealedInBlocks index file
