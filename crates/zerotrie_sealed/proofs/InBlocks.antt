-- Files with an index in blocks.
use Rattle.std.proofs.Common.{◌≡◌, ◌≢◌, ℕ, ◌+◌, ◌-◌, ◌*◌, ◌^◌, ◌<◌, ◌≤◌, inl, inr, List, [], ◌++◌, length, take, drop, get_or, Result, Ok, Err, IfOk, IfErr, refl, sym, ap, subst, ◌∙◌, length-append, arith}
use Rattle.std.proofs.lemmas.List.{append_assoc, take-append-drop, length-drop, length-take-le, drop-drop, drop_all}
use Rattle.std.proofs.Math.Seq.{take-append_seam, drop-append_seam, drop-append-add}
use Rattle.std.proofs.lemmas.Nat.{from_le_bytes-to_le_bytes_8}
use Rattle.std.specs.Borrow.{Bor}
use Rattle.std.specs.Int.{w64, to_le_bytes, from_le_bytes}
use Rattle.zerotrie_sealed.specs.Checksum.{crc32c}
use Rattle.zerotrie_sealed.specs.Sealed.{magic, version, index_number, blocks_number, IsIndexNumber, block_count, front_as, header_as, sums_of, table_of, IsSealedAs, IsSealedInBlocks, IsSealedIndex}
use Rattle.zerotrie_sealed.specs.Faults.{version_in, kind_in, length_in, checksum_in, IsFileFault, HasKnown, table_in, index_length_in, index_in, HasSumOf, IsBlocksFault, HasTableLen, HasTable, IsIndexFault, IsHeaderFault, IsTableFault, BeginsWithTable}
use Rattle.zerotrie_sealed.specs.declared.reading.SealError.{SealError}
use Rattle.zerotrie_sealed.specs.declared.reading.SealError.TheVariants.{NoMagic, UnknownVersion, UnknownKind, CutShort, TooLong, Checksum}
use Rattle.zerotrie_sealed.proofs.Chunks.{crc32c-lt}
use Rattle.zerotrie_sealed.proofs.Headers.{bytes-append, bytes-take, bytes-drop, kind_in-header, length_in-header, checksum_in-header, header-agreed, IsSealed-agreed, no_fault, fault_by}
use Rattle.zerotrie_sealed.proofs.Sums.{length-table}

-- ---- what such a file has

pub small-table : (index : List ℕ) → length index < 2 ^ 64 → length (table_of index) < 2 ^ 64
small-table index fits = let long : length (table_of index) ≡ 8 + 4 * block_count (length index) = length-table index in omega arith

-- the header, the table and the index
pub three-parts : (index file : List ℕ) → IsSealedInBlocks index file → file ≡ header_as blocks_number (table_of index) ++ (table_of index ++ index)
three-parts index file is = is.parts ∙ ap (λ l. l ++ index) is.sealed.parts ∙ append_assoc (header_as blocks_number (table_of index)) (table_of index) index

length-whole : (table index : List ℕ) → length (header_as blocks_number table ++ (table ++ index)) ≡ 24 + length table + length index
length-whole table index = let both : length (table ++ index) ≡ length table + length index = length-append table index in omega arith

-- What the numbers in the file are.
pub record Stands (index file : List ℕ) : Type 0 where
  pub begins : take 8 file ≡ magic
  pub known : version_in file ≡ version
  pub kind : kind_in file ≡ blocks_number
  pub len : length_in file ≡ length (table_of index)
  pub table : table_in file ≡ table_of index
  pub behind : index_in file ≡ index
  pub index_len : index_length_in file ≡ length index
  pub long : length file ≡ 24 + length (table_of index) + length index

pub stands : (index file : List ℕ) → IsSealedInBlocks index file → Stands index file
stands index file is =
    let table : List ℕ = table_of index in
    let same : file ≡ header_as blocks_number table ++ (table ++ index) = three-parts index file is in
    let len : length_in file ≡ length table = ap length_in same ∙ length_in-header blocks_number table (table ++ index) (small-table index is.fits) in
    let there : table_in file ≡ table =
    ap (λ n. take n (drop 24 file)) len ∙ ap (λ f. take (length table) (drop 24 f)) same ∙ take-append_seam table index in
    record {
      begins = ap (take 8) same;
      known = ap version_in same;
      kind = ap kind_in same ∙ kind_in-header blocks_number table (table ++ index) (omega arith);
      len = len;
      table = there;
      behind = ap (λ n. drop (24 + n) file) len ∙ ap (drop (24 + length table)) same
          ∙ drop-append-add (header_as blocks_number table) (table ++ index) (length table) ∙ drop-append_seam table index;
      index_len = ap (from_le_bytes w64) there ∙ from_le_bytes-to_le_bytes_8 (length index) is.fits;
      long = ap length same ∙ length-whole table index;
    }

-- a table has the checksum in its header
summed : (table more : List ℕ) → ((i : ℕ) → get_or (front_as blocks_number table ++ table) i 0 < 256) → HasSumOf table (header_as blocks_number table ++ more)
summed table more below =
    checksum_in-header blocks_number table more (crc32c-lt (front_as blocks_number table ++ table) below)

ahead : (index file : List ℕ) → IsSealedInBlocks index file → take 20 file ++ table_in file ≡ front_as blocks_number (table_of index) ++ table_of index
ahead index file is =
    ap (λ l. l ++ table_in file) (ap (take 20) (three-parts index file is)) ∙ ap (λ l. front_as blocks_number (table_of index) ++ l) (stands index file is).table

bytes-front : (file : List ℕ) → ((i : ℕ) → get_or file i 0 < 256) → (i : ℕ) → get_or (take 20 file ++ table_in file) i 0 < 256
bytes-front file below = bytes-append (take 20 file) (table_in file) (bytes-take 20 file below) (bytes-take (length_in file) (drop 24 file) (bytes-drop 24 file below))

has-sum : (index file : List ℕ) → ((i : ℕ) → get_or file i 0 < 256) → IsSealedInBlocks index file → HasSumOf (table_in file) file
has-sum index file below is =
    let table : List ℕ = table_of index in
    let e : take 20 file ++ table_in file ≡ front_as blocks_number table ++ table = ahead index file is in
    let bytes : (i : ℕ) → get_or (front_as blocks_number table ++ table) i 0 < 256 = subst (λ l. (i : ℕ) → get_or l i 0 < 256) e (bytes-front file below) in
    ap checksum_in (three-parts index file is) ∙ summed table (table ++ index) bytes ∙ ap crc32c (sym e)

-- no cause of an error holds of it
no-blocks-fault : (index file : List ℕ) (e : SealError) → ((i : ℕ) → get_or file i 0 < 256) → IsBlocksFault file e → IsSealedInBlocks index file → ⊥
no-blocks-fault index file NoMagic below fault is = fault (stands index file is).begins
no-blocks-fault index file (UnknownVersion v) below fault is = fault.1 (sym fault.0 ∙ (stands index file is).known)
no-blocks-fault index file (UnknownKind n) below fault is = fault.1 (inr (sym fault.0 ∙ (stands index file is).kind))
no-blocks-fault index file CutShort below fault is =
    let s = stands index file is in
    let len = s.len in
    let index_len = s.index_len in
    let long = s.long in
    elim fault [ inl none ↦ omega arith | inr some ↦ elim some [ inl less ↦ omega arith | inr less ↦ omega arith ] ]
no-blocks-fault index file TooLong below fault is =
    let s = stands index file is in
    let len = s.len in
    let index_len = s.index_len in
    let long = s.long in
    omega arith
no-blocks-fault index file Checksum below fault is =
    let s = stands index file is in
    fault (has-sum index file below is) (s.table ∙ ap table_of (sym s.behind))

pub kind_in-whole : (index file : List ℕ) → IsSealedAs index_number index file → kind_in file ≢ blocks_number
kind_in-whole index file is k =
    let n : kind_in file ≡ index_number = ap kind_in is.parts ∙ kind_in-header index_number index index (omega arith) in
    omega arith

-- an error whose cause holds shows that the file is no index
pub none_indexed : (file : List ℕ) (e : SealError) → length file < 2 ^ 64 → ((i : ℕ) → get_or file i 0 < 256) → IsIndexFault file e → (index : List ℕ) → IsSealedIndex index file → ⊥
none_indexed file e short below fault index (inl is) =
    no_fault IsIndexNumber index_number index file e (inl refl) (omega arith) short below (fault.0 (kind_in-whole index file is)) is
none_indexed file e short below fault index (inr is) = no-blocks-fault index file e below (fault.1 (stands index file is).kind) is

pub no_index : {T : Type 0} (file : List ℕ) (result : Result T SealError) → length file < 2 ^ 64 → ((i : ℕ) → get_or file i 0 < 256)
    → IfErr result (IsIndexFault file) → IfErr result (λ _. (index : List ℕ) → IsSealedIndex index file → ⊥)
no_index file (Ok x) short below fault = tt
no_index file (Err e) short below fault = none_indexed file e short below fault

-- an error of a file of an index as a whole, and of one in blocks
pub whole_fault : {T : Type 0} (file : List ℕ) (result : Result T SealError) → kind_in file ≡ index_number → IfErr result (IsFileFault file) → IfErr result (IsIndexFault file)
whole_fault file (Ok x) kind fault = tt
whole_fault file (Err e) kind fault = (λ _. fault_by IsIndexNumber file e fault, λ other. absurd (omega arith))

pub blocks_fault : {T : Type 0} (file : List ℕ) (result : Result T SealError) → kind_in file ≡ blocks_number → IfErr result (IsBlocksFault file) → IfErr result (IsIndexFault file)
blocks_fault file (Ok x) kind fault = tt
blocks_fault file (Err e) kind fault = (λ other. absurd (other kind), λ _. fault)

-- ---- the parts of a table

-- the table of an index has the right length
pub table-long : (index table : List ℕ) → length index < 2 ^ 64 → table ≡ table_of index → HasTableLen table
table-long index table fits is =
    let word : from_le_bytes w64 table ≡ length index = ap (from_le_bytes w64) is ∙ from_le_bytes-to_le_bytes_8 (length index) fits in
    ap length is ∙ length-table index ∙ ap (λ n. 8 + 4 * block_count n) (sym word)

-- the parts of a table are those of the table of the index
pub parts-are : (index table sums : List ℕ) (n : ℕ) → n < 2 ^ 64 → length index < 2 ^ 64 → table ≡ to_le_bytes w64 n ++ sums → table ≡ table_of index → (n ≡ length index) × (sums ≡ sums_of index)
parts-are index table sums n low fits parts is =
    let same : to_le_bytes w64 n ++ sums ≡ table_of index = sym parts ∙ is in
    (sym (from_le_bytes-to_le_bytes_8 n low) ∙ ap (λ l. from_le_bytes w64 (take 8 l)) same ∙ from_le_bytes-to_le_bytes_8 (length index) fits, ap (drop 8) same)

-- ---- a file of which all parts agree

pub blocks-agreed : (index file : List ℕ) → 24 ≤ length file → length file < 2 ^ 64 → ((i : ℕ) → get_or file i 0 < 256) → take 8 file ≡ magic
    → version_in file ≡ version → kind_in file ≡ blocks_number → HasTable file → table_in file ≡ table_of index → index ≡ index_in file → IsSealedInBlocks index file
blocks-agreed index file long short below begins known kind has is behind =
    let table : List ℕ = table_in file in
    let all : 24 + length_in file ≤ length file = has.0 in
    let len : length_in file ≡ length table = sym (length-take-le (length_in file) (drop 24 file) (omega (arith, length-drop 24 file))) in
    let whole : file ≡ header_as blocks_number table ++ drop 24 file = header-agreed blocks_number table file long below begins known kind len has.1.0 in
    let rest : drop 24 file ≡ table ++ index =
    sym (take-append-drop (length_in file) (drop 24 file)) ∙ ap (λ l. table ++ l) (drop-drop (length_in file) 24 file ∙ sym behind) in
    let few : length index ≤ length file = let e : length index ≡ length file - (24 + length_in file) = ap length behind ∙ length-drop (24 + length_in file) file in omega arith in
    record {
      front = header_as blocks_number (table_of index) ++ table_of index;
      sealed = record { parts = refl };
      parts = whole ∙ ap (λ l. header_as blocks_number table ++ l) rest ∙ ap (λ t. header_as blocks_number t ++ (t ++ index)) is
          ∙ sym (append_assoc (header_as blocks_number (table_of index)) (table_of index) index);
      fits = omega arith;
    }

-- the same of an index that is returned
pub indexed : (file : List ℕ) (result : Result (Bor (List ℕ)) SealError) → 24 ≤ length file → length file < 2 ^ 64 → ((i : ℕ) → get_or file i 0 < 256) → take 8 file ≡ magic
    → version_in file ≡ version → kind_in file ≡ blocks_number → IfOk result (λ index. index.now ≡ index_in file)
    → IfOk result (λ index. HasTable file × (table_in file ≡ table_of index.now)) → IfOk result (λ index. IsSealedIndex index.now file)
indexed file (Ok index) long short below begins known kind behind table = inr (blocks-agreed index.now file long short below begins known kind table.0 table.1 behind)
indexed file (Err e) long short below begins known kind behind table = tt

pub indexed-whole : (file : List ℕ) (result : Result (Bor (List ℕ)) SealError) → 24 ≤ length file → ((i : ℕ) → get_or file i 0 < 256) → take 8 file ≡ magic
    → version_in file ≡ version → kind_in file ≡ index_number → IfOk result (λ index. index.now ≡ drop 24 file) → IfOk result (λ _. 24 + length_in file ≡ length file)
    → IfOk result (λ _. HasSumOf (drop 24 file) file) → IfOk result (λ index. IsSealedIndex index.now file)
indexed-whole file (Ok index) long below begins known kind bytes fits sum = inl (rw bytes (IsSealed-agreed index_number file long below begins known kind fits sum))
indexed-whole file (Err e) long below begins known kind bytes fits sum = tt

-- ---- a header and a table that are read apart

header-is : (index file header : List ℕ) → take 24 file ≡ header → IsSealedInBlocks index file → header ≡ header_as blocks_number (table_of index)
header-is index file header begins is = sym begins ∙ ap (take 24) (three-parts index file is)

pub table-is : (index file header table : List ℕ) → BeginsWithTable header table file → IsSealedInBlocks index file → table ≡ table_of index
table-is index file header table begins is =
    let len : length_in header ≡ length (table_of index) =
    ap length_in (header-is index file header begins.0 is) ∙ length_in-header blocks_number (table_of index) [] (small-table index is.fits) in
    sym begins.1 ∙ ap (λ n. take n (drop 24 file)) len ∙ ap (λ f. take (length (table_of index)) (drop 24 f)) (three-parts index file is) ∙ take-append_seam (table_of index) index

header-fault : (number : ℕ) (table : List ℕ) (e : SealError) → number ≡ blocks_number → IsHeaderFault (header_as number table) e → ⊥
header-fault number table NoMagic is fault = fault refl
header-fault number table (UnknownVersion v) is fault = fault.1 (sym fault.0)
header-fault number table (UnknownKind n) is fault = fault.1 (sym fault.0 ∙ kind_in-header number table [] (omega arith) ∙ is)
header-fault number table CutShort is fault = omega arith
header-fault number table TooLong is fault = fault
header-fault number table Checksum is fault = fault

-- a header with a fault is that of no index in blocks
pub no-header : (header : List ℕ) (e : SealError) → IsHeaderFault header e → (index file : List ℕ) → take 24 file ≡ header → IsSealedInBlocks index file → ⊥
no-header header e fault index file begins is =
    header-fault blocks_number (table_of index) e refl (let P : List ℕ → Type 0 = λ h. IsHeaderFault h e in subst P (header-is index file header begins is) fault)

table-fault : (index header table : List ℕ) (e : SealError) → length index < 2 ^ 64 → ((i : ℕ) → get_or header i 0 < 256) → ((i : ℕ) → get_or table i 0 < 256)
    → header ≡ header_as blocks_number (table_of index) → table ≡ table_of index → IsTableFault header table e → ⊥
table-fault index header table NoMagic fits below under h t fault = fault (ap (take 8) h)
table-fault index header table (UnknownVersion v) fits below under h t fault = fault.1 (sym fault.0 ∙ ap version_in h)
table-fault index header table (UnknownKind n) fits below under h t fault =
    fault.1 (sym fault.0 ∙ ap kind_in h ∙ kind_in-header blocks_number (table_of index) [] (omega arith))
table-fault index header table CutShort fits below under h t fault =
    let len : length_in header ≡ length (table_of index) = ap length_in h ∙ length_in-header blocks_number (table_of index) [] (small-table index fits) in
    let long : length table ≡ length (table_of index) = ap length t in
    omega arith
table-fault index header table TooLong fits below under h t fault =
    let len : length_in header ≡ length (table_of index) = ap length_in h ∙ length_in-header blocks_number (table_of index) [] (small-table index fits) in
    let long : length table ≡ length (table_of index) = ap length t in
    omega arith
table-fault index header table Checksum fits below under h t fault =
    let whole : List ℕ = table_of index in
    let e : take 20 header ++ table ≡ front_as blocks_number whole ++ whole = ap (λ l. l ++ table) (ap (take 20) h) ∙ ap (λ l. front_as blocks_number whole ++ l) t in
    let bytes : (i : ℕ) → get_or (front_as blocks_number whole ++ whole) i 0 < 256 =
    subst (λ l. (i : ℕ) → get_or l i 0 < 256) e (bytes-append (take 20 header) table (bytes-take 20 header below) under) in
    let sum : HasSumOf table header = ap checksum_in h ∙ summed whole [] bytes ∙ ap crc32c (sym e) in
    fault sum (table-long index table fits t)

-- a header and a table with a fault are those of no index in blocks
pub no-table : (header table : List ℕ) (e : SealError) → ((i : ℕ) → get_or header i 0 < 256) → ((i : ℕ) → get_or table i 0 < 256) → IsTableFault header table e
    → (index file : List ℕ) → BeginsWithTable header table file → IsSealedInBlocks index file → ⊥
no-table header table e below under fault index file begins is =
    table-fault index header table e is.fits below under (header-is index file header begins.0 is) (table-is index file header table begins is) fault

-- a header that is read apart, and its table, are a sealed table if they agree
pub front-agreed : (header table : List ℕ) → length header ≡ 24 → ((i : ℕ) → get_or header i 0 < 256) → HasKnown (λ number. number ≡ blocks_number) header
    → length_in header ≡ length table → HasSumOf table header → IsSealedAs blocks_number table (header ++ table)
front-agreed header table long below known len sum =
    let whole : header ≡ header_as blocks_number table ++ drop 24 header =
    header-agreed blocks_number table header (omega arith) below known.0.0.0 known.0.1 known.1 len sum in
    let alone : drop 24 header ≡ [] = drop_all 24 header (omega arith) in
    record { parts = ap (λ h. h ++ table) (whole ∙ ap (λ l. header_as blocks_number table ++ l) alone) }
