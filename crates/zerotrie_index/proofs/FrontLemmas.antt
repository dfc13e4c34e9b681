-- What is wrong with the front of a file, of which the header and the table were read.
use Rattle.std.proofs.Common.{◌≡◌, ℕ, ◌+◌, ◌^◌, ◌<◌, ◌≤◌, List, [], ◌∷◌, ◌++◌, inl, inr, length, take, drop, refl, sym, subst, ap, ◌∙◌, length-append, arith}
use Rattle.std.specs.Int.{w16, w32, w64, from_le_bytes}
use Rattle.std.proofs.lemmas.List.{append_assoc, take-append-drop, length-drop, length-take, drop-append-le, take-append-le}
use Rattle.std.proofs.lemmas.Nat.{from_le_bytes-to_le_bytes_8}
use Rattle.zerotrie_sealed.specs.Checksum.{crc32c}
use Rattle.zerotrie_sealed.specs.Sealed.{blocks_number, header_as, table_of, IsSealedInBlocks}
use Rattle.zerotrie_sealed.specs.Faults.{version_in, kind_in, length_in, checksum_in, table_in, HasKnown, HasTableLen, IsHeaderFault, IsHeaderRightBefore, IsTableFault, IsTableRightBefore, BeginsWithTable}
use Rattle.zerotrie_sealed.specs.declared.reading.SealError.{SealError}
use Rattle.zerotrie_sealed.specs.declared.reading.SealError.TheVariants.{NoMagic, UnknownVersion, UnknownKind, CutShort, TooLong, Checksum}
use Rattle.zerotrie_index.specs.Placed.{HasPart, IsPart, FailsNoMore, FailsWithin}
use Rattle.zerotrie_index.specs.InBlocks.{IsCause, FailsInFront, IsFrontFault}

-- a number is that of the bytes in front of others
of_2 : (a more : List ℕ) → 2 ≤ length a → from_le_bytes w16 (a ++ more) ≡ from_le_bytes w16 a
of_2 [] more long = absurd (omega arith)
of_2 (b0 ∷ []) more long = absurd (omega arith)
of_2 (b0 ∷ b1 ∷ a) more long = refl

of_4 : (a more : List ℕ) → 4 ≤ length a → from_le_bytes w32 (a ++ more) ≡ from_le_bytes w32 a
of_4 [] more long = absurd (omega arith)
of_4 (b0 ∷ []) more long = absurd (omega arith)
of_4 (b0 ∷ b1 ∷ []) more long = absurd (omega arith)
of_4 (b0 ∷ b1 ∷ b2 ∷ []) more long = absurd (omega arith)
of_4 (b0 ∷ b1 ∷ b2 ∷ b3 ∷ a) more long = refl

of_8 : (a more : List ℕ) → 8 ≤ length a → from_le_bytes w64 (a ++ more) ≡ from_le_bytes w64 a
of_8 [] more long = absurd (omega arith)
of_8 (b0 ∷ []) more long = absurd (omega arith)
of_8 (b0 ∷ b1 ∷ []) more long = absurd (omega arith)
of_8 (b0 ∷ b1 ∷ b2 ∷ []) more long = absurd (omega arith)
of_8 (b0 ∷ b1 ∷ b2 ∷ b3 ∷ []) more long = absurd (omega arith)
of_8 (b0 ∷ b1 ∷ b2 ∷ b3 ∷ b4 ∷ []) more long = absurd (omega arith)
of_8 (b0 ∷ b1 ∷ b2 ∷ b3 ∷ b4 ∷ b5 ∷ []) more long = absurd (omega arith)
of_8 (b0 ∷ b1 ∷ b2 ∷ b3 ∷ b4 ∷ b5 ∷ b6 ∷ []) more long = absurd (omega arith)
of_8 (b0 ∷ b1 ∷ b2 ∷ b3 ∷ b4 ∷ b5 ∷ b6 ∷ b7 ∷ a) more long = refl

-- What a file has that begins with a header.
pub record Begins (file header : List ℕ) : Type 0 where
  pub magic : take 8 file ≡ take 8 header
  pub version : version_in file ≡ version_in header
  pub kind : kind_in file ≡ kind_in header
  pub len : length_in file ≡ length_in header
  pub checksum : checksum_in file ≡ checksum_in header
  pub front : take 20 file ≡ take 20 header
  pub long : 24 ≤ length file
  pub own : length header ≡ 24

pub begins : (file header : List ℕ) → length header ≡ 24 → HasPart 0 header file → Begins file header
begins file header own at =
    let more = drop 24 file in
    let is : header ≡ take 24 file = at ∙ ap (λ n. take n file) own in
    let whole : file ≡ header ++ more = sym (take-append-drop 24 file) ∙ ap (λ l. l ++ more) (sym is) in
    let least = length-take 24 file in
    let there : length header ≡ length (take 24 file) = ap length is in
    record {
      magic = ap (take 8) whole ∙ take-append-le 8 header more (omega (arith, own));
      version = ap version_in whole ∙ ap (from_le_bytes w16) (drop-append-le 8 header more (omega (arith, own))) ∙ of_2 (drop 8 header) more (omega (arith, own, length-drop 8 header));
      kind = ap kind_in whole ∙ ap (from_le_bytes w16) (drop-append-le 10 header more (omega (arith, own))) ∙ of_2 (drop 10 header) more (omega (arith, own, length-drop 10 header));
      len = ap length_in whole ∙ ap (from_le_bytes w64) (drop-append-le 12 header more (omega (arith, own))) ∙ of_8 (drop 12 header) more (omega (arith, own, length-drop 12 header));
      checksum = ap checksum_in whole ∙ ap (from_le_bytes w32) (drop-append-le 20 header more (omega (arith, own))) ∙ of_4 (drop 20 header) more (omega (arith, own, length-drop 20 header));
      front = ap (take 20) whole ∙ take-append-le 20 header more (omega (arith, own));
      long = omega (arith, own, least, there);
      own = own;
    }

-- the number of blocks is known
known : (file header : List ℕ) → Begins file header → HasKnown (λ number. number ≡ blocks_number) header → HasKnown (λ number. number ≡ blocks_number) file
known file header b has = (((b.magic ∙ has.0.0.0, b.long), b.version ∙ has.0.1), b.kind ∙ has.1)

begun : (file header : List ℕ) → length header ≡ 24 → HasPart 0 header file → take 24 file ≡ header
begun file header own at = sym (at ∙ ap (λ n. take n file) own)

-- ---- of the header

header_fault : (file header : List ℕ) (why : SealError) → Begins file header → IsHeaderFault header why → IsTableFault file (table_in file) why
header_fault file header NoMagic b fault = λ is. fault (sym b.magic ∙ is)
header_fault file header (UnknownVersion v) b fault = (b.version ∙ fault.0, fault.1)
header_fault file header (UnknownKind k) b fault = (b.kind ∙ fault.0, fault.1)
header_fault file header CutShort b fault = absurd (let own = b.own in omega arith)
header_fault file header TooLong b fault = absurd fault
header_fault file header Checksum b fault = absurd fault

header_order : (file header : List ℕ) (why : SealError) → Begins file header → IsHeaderFault header why → IsHeaderRightBefore header why → IsTableRightBefore file (table_in file) why
header_order file header NoMagic b fault right = tt
header_order file header (UnknownVersion v) b fault right = (b.magic ∙ right.0, b.long)
header_order file header (UnknownKind k) b fault right = ((b.magic ∙ right.0.0, b.long), b.version ∙ right.1)
header_order file header CutShort b fault right = absurd (let own = b.own in omega arith)
header_order file header TooLong b fault right = absurd fault
header_order file header Checksum b fault right = absurd fault

pub header_told : (MayHold : List ℕ → Type 0) (header : List ℕ) (why : SealError) → length header ≡ 24 → IsPart MayHold 0 header → IsHeaderFault header why → IsHeaderRightBefore header why
    → ((index file : List ℕ) → take 24 file ≡ header → IsSealedInBlocks index file → ⊥) → IsFrontFault MayHold why
header_told MayHold header why own read fault right none = λ file may short.
    let b = begins file header own (read file may) in
    ((header_fault file header why b fault, header_order file header why b fault right), λ index is. none index file (begun file header own (read file may)) is)

-- ---- of the table

-- the table that was read is that in the file
own_table : (file header table : List ℕ) → Begins file header → HasPart 24 table file → length table ≡ length_in header → table_in file ≡ table
own_table file header table b at long = ap (λ n. take n (drop 24 file)) (b.len ∙ sym long) ∙ sym at

table_fault : (file header table : List ℕ) (why : SealError) → Begins file header → HasPart 24 table file → length table ≡ length_in header → IsTableFault header table why
    → IsTableFault file (table_in file) why
table_fault file header table NoMagic b at long fault = λ is. fault (sym b.magic ∙ is)
table_fault file header table (UnknownVersion v) b at long fault = (b.version ∙ fault.0, fault.1)
table_fault file header table (UnknownKind k) b at long fault = (b.kind ∙ fault.0, fault.1)
table_fault file header table CutShort b at long fault = absurd (omega arith)
table_fault file header table TooLong b at long fault = absurd (omega arith)
table_fault file header table Checksum b at long fault =
    let is : table_in file ≡ table = own_table file header table b at long in
    λ sum len. fault (sym b.checksum ∙ sum ∙ ap (λ l. crc32c (l ++ table_in file)) b.front ∙ ap (λ t. crc32c (take 20 header ++ t)) is) (subst HasTableLen is len)

table_order : (file header table : List ℕ) (why : SealError) → Begins file header → HasPart 24 table file → length table ≡ length_in header → IsTableFault header table why
    → IsTableRightBefore header table why → IsTableRightBefore file (table_in file) why
table_order file header table NoMagic b at long fault right = tt
table_order file header table (UnknownVersion v) b at long fault right = (b.magic ∙ right.0, b.long)
table_order file header table (UnknownKind k) b at long fault right = ((b.magic ∙ right.0.0, b.long), b.version ∙ right.1)
table_order file header table CutShort b at long fault right = known file header b right
table_order file header table TooLong b at long fault right = known file header b right
table_order file header table Checksum b at long fault right = (known file header b right.0, ap length (own_table file header table b at long) ∙ long ∙ sym b.len)

pub table_told : (MayHold : List ℕ → Type 0) (header table : List ℕ) (why : SealError) → length header ≡ 24 → IsPart MayHold 0 header → IsPart MayHold 24 table
    → length table ≡ length_in header → IsTableFault header table why → IsTableRightBefore header table why
    → ((index file : List ℕ) → BeginsWithTable header table file → IsSealedInBlocks index file → ⊥) → IsFrontFault MayHold why
table_told MayHold header table why own read and long fault right none = λ file may short.
    let b = begins file header own (read file may) in
    let has : BeginsWithTable header table file = (begun file header own (read file may), ap (λ n. take n (drop 24 file)) (sym long) ∙ sym (and file may)) in (
      (table_fault file header table why b (and file may) long fault, table_order file header table why b (and file may) long fault right),
      λ index is. none index file has is,
    )

-- a file that is sealed in blocks has all of its table
sealed_fits : (index file : List ℕ) → IsSealedInBlocks index file → length file < 2 ^ 64 → 24 + length_in file ≤ length file
sealed_fits index file is short =
    let table : List ℕ = table_of index in
    let same : file ≡ header_as blocks_number table ++ (table ++ index) =
    is.parts ∙ ap (λ l. l ++ index) is.sealed.parts ∙ append_assoc (header_as blocks_number table) table index in
    let both : length (table ++ index) ≡ length table + length index = length-append table index in
    let long : length file ≡ 24 + length (table ++ index) = ap length same ∙ omega arith in
    let len : length_in file ≡ length table = ap length_in same ∙ from_le_bytes-to_le_bytes_8 (length table) (omega (arith, both, long, short)) in
    omega (arith, both, long, len)

-- no file of fewer than 2^64 bytes has a table that is so long
pub cut_told : (MayHold : List ℕ → Type 0) (header : List ℕ) (why : SealError) → length header ≡ 24 → IsPart MayHold 0 header → HasKnown (λ number. number ≡ blocks_number) header
    → why ≡ CutShort → 2 ^ 64 ≤ 24 + length_in header → IsFrontFault MayHold why
cut_told MayHold header why own read has is far = λ file may short.
    let b = begins file header own (read file may) in
    let len = b.len in
    let least = length-take (length_in file) (drop 24 file) in
    let left = length-drop 24 file in
    let none : (index : List ℕ) → IsSealedInBlocks index file → ⊥ = λ index sealed. let fits = sealed_fits index file sealed short in omega (arith, len, short, far, fits) in
    (subst (λ w. IsTableFault file (table_in file) w × IsTableRightBefore file (table_in file) w) (sym is) (omega (arith, len, least, left, short, far), known file header b has), none)

-- what is read of the table is in the front of the file
pub in_front : (MayHold : List ℕ → Type 0) (header : List ℕ) (len at n : ℕ) → length header ≡ 24 → IsPart MayHold 0 header → len ≡ length_in header → at + n ≤ 24 + len
    → (file : List ℕ) → MayHold file → at + n ≤ 24 + length_in file
in_front MayHold header len at n own read is within = λ file may.
    let b = begins file header own (read file may) in let same = b.len in omega (arith, is, same, within)

pub table_cause : {E : Type 0} (MayHold : List ℕ → Type 0) (Could May : ℕ → ℕ → E → Type 0) (IsMemory : E → Type 0) (IsTold : SealError → E → Type 0) (header : List ℕ) (len : ℕ) (e : E)
    → length header ≡ 24 → IsPart MayHold 0 header → len ≡ length_in header → HasKnown (λ number. number ≡ blocks_number) header → FailsNoMore Could May
    → IsCause (FailsWithin May 24 len) IsMemory IsTold (λ why. (why ≡ CutShort) × (2 ^ 64 ≤ 24 + len)) e
    → IsCause (FailsInFront MayHold Could) IsMemory IsTold (IsFrontFault MayHold) e
table_cause MayHold Could May IsMemory IsTold header len e own read is has fewer (inl refused) =
    inl (refused.0, refused.1, in_front MayHold header len refused.0 refused.1 own read is refused.4, fewer _ _ e refused.5)
table_cause MayHold Could May IsMemory IsTold header len e own read is has fewer (inr (inl memory)) = inr (inl memory)
table_cause MayHold Could May IsMemory IsTold header len e own read is has fewer (inr (inr told)) =
    let far = told.2.1 in inr (inr (told.0, told.1, cut_told MayHold header told.0 own read has told.2.0 (omega (arith, is, far))))
