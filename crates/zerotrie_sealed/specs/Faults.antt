-- Why a file is not taken for a sealed one.
use Rattle.std.specs.Prelude.{◌≡◌, ◌≢◌, ◌⊎◌, ℕ, ◌+◌, ◌*◌, ◌<◌, ◌≤◌, List, ◌++◌, length, take, drop}
use Rattle.std.specs.Int.{w16, w32, w64, from_le_bytes}
use Rattle.zerotrie_base.specs.Kinds.{IsTag}
use Rattle.zerotrie_sealed.specs.Checksum.{crc32c}
use Rattle.zerotrie_sealed.specs.Sealed.{magic, version, blocks_number, IsIndexNumber, block_count, table_of}
use Rattle.zerotrie_sealed.specs.declared.reading.SealError.{SealError}
use Rattle.zerotrie_sealed.specs.declared.reading.SealError.TheVariants.{NoMagic, UnknownVersion, UnknownKind, CutShort, TooLong, Checksum}

-- the numbers in the header of a file
abbrev pub version_in : List ℕ → ℕ
version_in file = from_le_bytes w16 (drop 8 file)

abbrev pub kind_in : List ℕ → ℕ
kind_in file = from_le_bytes w16 (drop 10 file)

abbrev pub length_in : List ℕ → ℕ
length_in file = from_le_bytes w64 (drop 12 file)

abbrev pub checksum_in : List ℕ → ℕ
checksum_in file = from_le_bytes w32 (drop 20 file)

-- the cause of an error, which is true of the file, where these numbers are known
abbrev pub IsFaultBy : (ℕ → Type 0) → List ℕ → SealError → Type 0
IsFaultBy IsKnown file NoMagic = take 8 file ≢ magic
IsFaultBy IsKnown file (UnknownVersion number) = (version_in file ≡ number) × (number ≢ version)
IsFaultBy IsKnown file (UnknownKind number) = (kind_in file ≡ number) × (IsKnown number → ⊥)
IsFaultBy IsKnown file CutShort = (length file < 24) ⊎ (length file < 24 + length_in file)
IsFaultBy IsKnown file TooLong = 24 + length_in file < length file
IsFaultBy IsKnown file Checksum = checksum_in file ≢ crc32c (take 20 file ++ drop 24 file)

-- what a file has in front: the magic and a header; the version, too; and a number that is known
abbrev pub HasHeader : List ℕ → Type 0
HasHeader file = (take 8 file ≡ magic) × (24 ≤ length file)

abbrev pub HasVersion : List ℕ → Type 0
HasVersion file = HasHeader file × (version_in file ≡ version)

abbrev pub HasKnown : (ℕ → Type 0) → List ℕ → Type 0
HasKnown IsKnown file = HasVersion file × IsKnown (kind_in file)

-- the parts that are looked at before those of an error are right; a file that is cut short may have no header
abbrev pub IsRightBefore : (ℕ → Type 0) → List ℕ → SealError → Type 0
IsRightBefore IsKnown file NoMagic = Unit {0}
IsRightBefore IsKnown file (UnknownVersion number) = HasHeader file
IsRightBefore IsKnown file (UnknownKind number) = HasVersion file
IsRightBefore IsKnown file CutShort = (take 8 file ≡ magic) × (24 ≤ length file → HasKnown IsKnown file)
IsRightBefore IsKnown file TooLong = HasKnown IsKnown file
IsRightBefore IsKnown file Checksum = HasKnown IsKnown file × (24 + length_in file ≡ length file)

-- the same of an error that says nothing of the number
abbrev pub IsFileFault : List ℕ → SealError → Type 0
IsFileFault file e = IsFaultBy (λ number. Unit {0}) file e

-- why a file is not taken for a trie, and what is right before
abbrev pub IsSealFault : List ℕ → SealError → Type 0
IsSealFault file e = IsFaultBy IsTag file e

abbrev pub IsSealRightBefore : List ℕ → SealError → Type 0
IsSealRightBefore file e = IsRightBefore IsTag file e

-- of an index in blocks: the table in a file, the length that it begins with, and what is behind it
abbrev pub table_in : List ℕ → List ℕ
table_in file = take (length_in file) (drop 24 file)

abbrev pub index_length_in : List ℕ → ℕ
index_length_in file = from_le_bytes w64 (table_in file)

abbrev pub index_in : List ℕ → List ℕ
index_in file = drop (24 + length_in file) file

-- the checksum in the header is that of the rest of the header and of these bytes
abbrev pub HasSumOf : List ℕ → List ℕ → Type 0
HasSumOf bytes file = checksum_in file ≡ crc32c (take 20 file ++ bytes)

-- The cause of an error, where the number is that of blocks: the file has not all bytes of the header, of the table or
-- of the index, or more; or if the checksum of the table is right, it is not the table of what is behind it.
abbrev pub IsBlocksFault : List ℕ → SealError → Type 0
IsBlocksFault file NoMagic = IsFaultBy IsIndexNumber file NoMagic
IsBlocksFault file (UnknownVersion number) = IsFaultBy IsIndexNumber file (UnknownVersion number)
IsBlocksFault file (UnknownKind number) = IsFaultBy IsIndexNumber file (UnknownKind number)
IsBlocksFault file CutShort = (length file < 24) ⊎ ((length file < 24 + length_in file) ⊎ (length file < 24 + length_in file + index_length_in file))
IsBlocksFault file TooLong = 24 + length_in file + index_length_in file < length file
IsBlocksFault file Checksum = HasSumOf (table_in file) file → table_in file ≢ table_of (index_in file)

-- a table is as long as that of an index of the length that it begins with
abbrev pub HasTableLen : List ℕ → Type 0
HasTableLen table = length table ≡ 8 + 4 * block_count (from_le_bytes w64 table)

-- all of a table is there, as long as it says, with its checksum
abbrev pub HasTable : List ℕ → Type 0
HasTable file = (24 + length_in file ≤ length file) × (HasSumOf (table_in file) file × HasTableLen (table_in file))

-- the table is looked at before the length of the index, and the checksums in it come last
abbrev pub IsBlocksRightBefore : List ℕ → SealError → Type 0
IsBlocksRightBefore file NoMagic = IsRightBefore IsIndexNumber file NoMagic
IsBlocksRightBefore file (UnknownVersion number) = IsRightBefore IsIndexNumber file (UnknownVersion number)
IsBlocksRightBefore file (UnknownKind number) = IsRightBefore IsIndexNumber file (UnknownKind number)
IsBlocksRightBefore file CutShort = IsRightBefore IsIndexNumber file CutShort × (24 + length_in file ≤ length file → HasTable file)
IsBlocksRightBefore file TooLong = HasKnown IsIndexNumber file × HasTable file
IsBlocksRightBefore file Checksum = HasKnown IsIndexNumber file
    × ((24 + length_in file ≤ length file) × (HasTable file → 24 + length_in file + index_length_in file ≡ length file))

-- why a file is not taken for an index, and what is right before, by the number in the file
abbrev pub IsIndexFault : List ℕ → SealError → Type 0
IsIndexFault file e = (kind_in file ≢ blocks_number → IsFaultBy IsIndexNumber file e) × (kind_in file ≡ blocks_number → IsBlocksFault file e)

abbrev pub IsIndexRightBefore : List ℕ → SealError → Type 0
IsIndexRightBefore file e = (kind_in file ≢ blocks_number → IsRightBefore IsIndexNumber file e) × (kind_in file ≡ blocks_number → IsBlocksRightBefore file e)

-- the file begins with this header, and with this table behind it
abbrev pub BeginsWithTable : List ℕ → List ℕ → List ℕ → Type 0
BeginsWithTable header table file = (take 24 file ≡ header) × (take (length_in header) (drop 24 file) ≡ table)

-- The cause of an error where only the header was read, and is to be that of an index in blocks.
abbrev pub IsHeaderFault : List ℕ → SealError → Type 0
IsHeaderFault header NoMagic = take 8 header ≢ magic
IsHeaderFault header (UnknownVersion number) = (version_in header ≡ number) × (number ≢ version)
IsHeaderFault header (UnknownKind number) = (kind_in header ≡ number) × (number ≢ blocks_number)
IsHeaderFault header CutShort = length header < 24
IsHeaderFault header TooLong = ⊥
IsHeaderFault header Checksum = ⊥

-- the same where the table was read, too
abbrev pub IsTableFault : List ℕ → List ℕ → SealError → Type 0
IsTableFault header table NoMagic = IsHeaderFault header NoMagic
IsTableFault header table (UnknownVersion number) = IsHeaderFault header (UnknownVersion number)
IsTableFault header table (UnknownKind number) = IsHeaderFault header (UnknownKind number)
IsTableFault header table CutShort = length table < length_in header
IsTableFault header table TooLong = length_in header < length table
IsTableFault header table Checksum = HasSumOf table header → HasTableLen table → ⊥

-- what is right of a header before an error of it, where its number is to be that of blocks
abbrev pub IsHeaderRightBefore : List ℕ → SealError → Type 0
IsHeaderRightBefore header e = IsRightBefore (λ number. number ≡ blocks_number) header e

-- the same where the table was read, too: all of the header is looked at first, then the length of the table
abbrev pub IsTableRightBefore : List ℕ → List ℕ → SealError → Type 0
IsTableRightBefore header table NoMagic = IsHeaderRightBefore header NoMagic
IsTableRightBefore header table (UnknownVersion number) = IsHeaderRightBefore header (UnknownVersion number)
IsTableRightBefore header table (UnknownKind number) = IsHeaderRightBefore header (UnknownKind number)
IsTableRightBefore header table CutShort = HasKnown (λ number. number ≡ blocks_number) header
IsTableRightBefore header table TooLong = HasKnown (λ number. number ≡ blocks_number) header
IsTableRightBefore header table Checksum = HasKnown (λ number. number ≡ blocks_number) header × (length table ≡ length_in header)
