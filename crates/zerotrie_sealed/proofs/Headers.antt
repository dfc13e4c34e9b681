-- The headers of sealed files.
use Rattle.std.proofs.Common.{◌≡◌, ℕ, zero, suc, ◌+◌, ◌^◌, ◌<◌, ◌≤◌, inl, inr, List, [], ◌∷◌, ◌++◌, length, take, drop, get_or, Result, Ok, Err, IfErr, refl, sym, ap, subst, length-append, ◌∙◌, arith}
use Rattle.std.proofs.lemmas.List.{take-append-drop, length-drop, drop-drop, get_or-drop}
use Rattle.std.proofs.lemmas.Nat.{le_bytes_2, le_bytes_4, le_bytes_8, from_le_bytes-to_le_bytes_2, from_le_bytes-to_le_bytes_4, from_le_bytes-to_le_bytes_8}
use Rattle.std.specs.Int.{w16, w32, w64, to_le_bytes, from_le_bytes}
use Rattle.zerotrie_base.specs.Kind.{Kind, simple_ascii, ignore_case, perfect_hash, extended_capacity, tag}
use Rattle.zerotrie_base.specs.Kinds.{IsTag}
use Rattle.zerotrie_base.specs.declared.kind.TrieKind.TheVariants.{Simple, Ignore, Hash, Ext}
use Rattle.zerotrie_sealed.specs.Checksum.{crc32c}
use Rattle.zerotrie_sealed.specs.Sealed.{magic, version, front_as, header_as, IsSealedAs, IsSealed}
use Rattle.zerotrie_sealed.specs.Faults.{version_in, kind_in, length_in, checksum_in, HasSumOf, IsFaultBy, IsFileFault, IsSealFault}
use Rattle.zerotrie_sealed.specs.declared.reading.SealError.{SealError}
use Rattle.zerotrie_sealed.specs.declared.reading.SealError.TheVariants.{NoMagic, UnknownVersion, UnknownKind, CutShort, TooLong, Checksum}
use Rattle.zerotrie_sealed.proofs.Chunks.{crc32c-lt}

-- ---- lists of bytes

pub bytes-append : (xs ys : List ℕ) → ((i : ℕ) → get_or xs i 0 < 256) → ((i : ℕ) → get_or ys i 0 < 256) → (i : ℕ) → get_or (xs ++ ys) i 0 < 256
bytes-append [] ys p q i = q i
bytes-append (x ∷ xs) ys p q zero = p 0
bytes-append (x ∷ xs) ys p q (suc i) = bytes-append xs ys (λ j. p (suc j)) q i

pub bytes-take : (n : ℕ) (xs : List ℕ) → ((i : ℕ) → get_or xs i 0 < 256) → (i : ℕ) → get_or (take n xs) i 0 < 256
bytes-take zero xs p i = omega arith
bytes-take (suc n) [] p i = omega arith
bytes-take (suc n) (x ∷ xs) p zero = p 0
bytes-take (suc n) (x ∷ xs) p (suc i) = bytes-take n xs (λ j. p (suc j)) i

pub bytes-drop : (n : ℕ) (xs : List ℕ) → ((i : ℕ) → get_or xs i 0 < 256) → (i : ℕ) → get_or (drop n xs) i 0 < 256
bytes-drop n xs p i = rw get_or-drop (p (n + i))

-- ---- the first bytes of a list are those of the number in them

written_2 : (s : List ℕ) → 2 ≤ length s → ((i : ℕ) → get_or s i 0 < 256) → take 2 s ≡ to_le_bytes w16 (from_le_bytes w16 s)
written_2 [] long below = absurd (omega arith)
written_2 (a ∷ []) long below = absurd (omega arith)
written_2 (a ∷ b ∷ rest) long below =
    sym (le_bytes_2 (a ∷ b ∷ []) (from_le_bytes w16 (a ∷ b ∷ [])) refl (bytes-take 2 (a ∷ b ∷ rest) below) refl)

written_4 : (s : List ℕ) → 4 ≤ length s → ((i : ℕ) → get_or s i 0 < 256) → take 4 s ≡ to_le_bytes w32 (from_le_bytes w32 s)
written_4 [] long below = absurd (omega arith)
written_4 (a ∷ []) long below = absurd (omega arith)
written_4 (a ∷ b ∷ []) long below = absurd (omega arith)
written_4 (a ∷ b ∷ c ∷ []) long below = absurd (omega arith)
written_4 (a ∷ b ∷ c ∷ d ∷ rest) long below =
    sym (le_bytes_4 (a ∷ b ∷ c ∷ d ∷ []) (from_le_bytes w32 (a ∷ b ∷ c ∷ d ∷ [])) refl (bytes-take 4 (a ∷ b ∷ c ∷ d ∷ rest) below) refl)

written_8 : (s : List ℕ) → 8 ≤ length s → ((i : ℕ) → get_or s i 0 < 256) → take 8 s ≡ to_le_bytes w64 (from_le_bytes w64 s)
written_8 [] long below = absurd (omega arith)
written_8 (a ∷ []) long below = absurd (omega arith)
written_8 (a ∷ b ∷ []) long below = absurd (omega arith)
written_8 (a ∷ b ∷ c ∷ []) long below = absurd (omega arith)
written_8 (a ∷ b ∷ c ∷ d ∷ []) long below = absurd (omega arith)
written_8 (a ∷ b ∷ c ∷ d ∷ e ∷ []) long below = absurd (omega arith)
written_8 (a ∷ b ∷ c ∷ d ∷ e ∷ f ∷ []) long below = absurd (omega arith)
written_8 (a ∷ b ∷ c ∷ d ∷ e ∷ f ∷ g ∷ []) long below = absurd (omega arith)
written_8 (a ∷ b ∷ c ∷ d ∷ e ∷ f ∷ g ∷ h ∷ rest) long below =
    sym (le_bytes_8 (a ∷ b ∷ c ∷ d ∷ e ∷ f ∷ g ∷ h ∷ []) (from_le_bytes w64 (a ∷ b ∷ c ∷ d ∷ e ∷ f ∷ g ∷ h ∷ [])) refl (bytes-take 8 (a ∷ b ∷ c ∷ d ∷ e ∷ f ∷ g ∷ h ∷ rest) below) refl)

-- ---- a file of which all parts agree is sealed

-- the bytes at a place, and those behind them
cut : (place n m : ℕ) (file : List ℕ) → place + n ≡ m → drop place file ≡ take n (drop place file) ++ drop m file
cut place n m file e =
    sym (take-append-drop n (drop place file)) ∙ ap (λ l. take n (drop place file) ++ l) (drop-drop n place file ∙ ap (λ k. drop k file) e)

fields : (file : List ℕ) → 24 ≤ length file → ((i : ℕ) → get_or file i 0 < 256) → take 8 file ≡ magic
    → file ≡ magic ++ (to_le_bytes w16 (version_in file) ++ (to_le_bytes w16 (kind_in file) ++ (to_le_bytes w64 (length_in file) ++ (to_le_bytes w32 (checksum_in file) ++ drop 24 file))))
fields file long below begins =
    let p8 : take 2 (drop 8 file) ≡ to_le_bytes w16 (version_in file) = written_2 (drop 8 file) (omega (arith, length-drop 8 file)) (bytes-drop 8 file below) in
    let p10 : take 2 (drop 10 file) ≡ to_le_bytes w16 (kind_in file) = written_2 (drop 10 file) (omega (arith, length-drop 10 file)) (bytes-drop 10 file below) in
    let p12 : take 8 (drop 12 file) ≡ to_le_bytes w64 (length_in file) = written_8 (drop 12 file) (omega (arith, length-drop 12 file)) (bytes-drop 12 file below) in
    let p20 : take 4 (drop 20 file) ≡ to_le_bytes w32 (checksum_in file) = written_4 (drop 20 file) (omega (arith, length-drop 20 file)) (bytes-drop 20 file below) in
    cut 0 8 8 file refl ∙ ap (λ l. l ++ drop 8 file) begins
    ∙ ap (λ l. magic ++ l) (cut 8 2 10 file refl ∙ ap (λ l. l ++ drop 10 file) p8
    ∙ ap (λ l. to_le_bytes w16 (version_in file) ++ l) (cut 10 2 12 file refl ∙ ap (λ l. l ++ drop 12 file) p10
    ∙ ap (λ l. to_le_bytes w16 (kind_in file) ++ l) (cut 12 8 20 file refl ∙ ap (λ l. l ++ drop 20 file) p12
    ∙ ap (λ l. to_le_bytes w64 (length_in file) ++ l) (cut 20 4 24 file refl ∙ ap (λ l. l ++ drop 24 file) p20))))

headed : (number : ℕ) (bytes file : List ℕ) → 24 ≤ length file → ((i : ℕ) → get_or file i 0 < 256) → take 8 file ≡ magic
    → version_in file ≡ version → kind_in file ≡ number → length_in file ≡ length bytes
    → file ≡ front_as number bytes ++ (to_le_bytes w32 (checksum_in file) ++ drop 24 file)
headed number bytes file long below begins known has fits =
    fields file long below begins
    ∙ ap (λ v. magic ++ (to_le_bytes w16 v ++ (to_le_bytes w16 (kind_in file) ++ (to_le_bytes w64 (length_in file) ++ (to_le_bytes w32 (checksum_in file) ++ drop 24 file))))) known
    ∙ ap (λ k. magic ++ (to_le_bytes w16 version ++ (to_le_bytes w16 k ++ (to_le_bytes w64 (length_in file) ++ (to_le_bytes w32 (checksum_in file) ++ drop 24 file))))) has
    ∙ ap (λ m. magic ++ (to_le_bytes w16 version ++ (to_le_bytes w16 number ++ (to_le_bytes w64 m ++ (to_le_bytes w32 (checksum_in file) ++ drop 24 file))))) fits

-- a file begins with the header of bytes of which its parts speak
pub header-agreed : (number : ℕ) (bytes file : List ℕ) → 24 ≤ length file → ((i : ℕ) → get_or file i 0 < 256) → take 8 file ≡ magic
    → version_in file ≡ version → kind_in file ≡ number → length_in file ≡ length bytes → HasSumOf bytes file → file ≡ header_as number bytes ++ drop 24 file
header-agreed number bytes file long below begins known has fits sum =
    let whole : file ≡ front_as number bytes ++ (to_le_bytes w32 (checksum_in file) ++ drop 24 file) = headed number bytes file long below begins known has fits in
    let ahead : take 20 file ≡ front_as number bytes = ap (take 20) whole in
    let same : checksum_in file ≡ crc32c (front_as number bytes ++ bytes) = sum ∙ ap (λ l. crc32c (l ++ bytes)) ahead in
    whole ∙ ap (λ c. front_as number bytes ++ (to_le_bytes w32 c ++ drop 24 file)) same

pub IsSealed-agreed : (number : ℕ) (file : List ℕ) → 24 ≤ length file → ((i : ℕ) → get_or file i 0 < 256) → take 8 file ≡ magic
    → version_in file ≡ version → kind_in file ≡ number → 24 + length_in file ≡ length file
    → HasSumOf (drop 24 file) file → IsSealedAs number (drop 24 file) file
IsSealed-agreed number file long below begins known has fits sum =
    record { parts = header-agreed number (drop 24 file) file long below begins known has (omega (arith, length-drop 24 file)) sum }

-- ---- a sealed file has no fault

pub tag-lt : (kind : Kind) → tag kind < 2 ^ 16
tag-lt simple_ascii = omega arith
tag-lt ignore_case = omega arith
tag-lt perfect_hash = omega arith
tag-lt extended_capacity = omega arith

IsTag-tag : (kind : Kind) → IsTag (tag kind)
IsTag-tag simple_ascii = (Simple, refl)
IsTag-tag ignore_case = (Ignore, refl)
IsTag-tag perfect_hash = (Hash, refl)
IsTag-tag extended_capacity = (Ext, refl)

pub kind_in-header : (number : ℕ) (bytes more : List ℕ) → number < 2 ^ 16 → kind_in (header_as number bytes ++ more) ≡ number
kind_in-header number bytes more low = from_le_bytes-to_le_bytes_2 number low

pub length_in-header : (number : ℕ) (bytes more : List ℕ) → length bytes < 2 ^ 64 → length_in (header_as number bytes ++ more) ≡ length bytes
length_in-header number bytes more low = from_le_bytes-to_le_bytes_8 (length bytes) low

pub checksum_in-header : (number : ℕ) (bytes more : List ℕ) → crc32c (front_as number bytes ++ bytes) < 2 ^ 32
    → checksum_in (header_as number bytes ++ more) ≡ crc32c (front_as number bytes ++ bytes)
checksum_in-header number bytes more low = from_le_bytes-to_le_bytes_4 (crc32c (front_as number bytes ++ bytes)) low

pub length-sealed : (number : ℕ) (bytes : List ℕ) → length (header_as number bytes ++ bytes) ≡ 24 + length bytes
length-sealed number bytes = omega arith

faultless : (IsKnown : ℕ → Type 0) (number : ℕ) (bytes : List ℕ) (e : SealError) → IsKnown number → number < 2 ^ 16 → 24 + length bytes < 2 ^ 64 → crc32c (front_as number bytes ++ bytes) < 2 ^ 32
    → IsFaultBy IsKnown (header_as number bytes ++ bytes) e → ⊥
faultless IsKnown number bytes NoMagic known small short low fault = fault refl
faultless IsKnown number bytes (UnknownVersion v) known small short low fault = fault.1 (sym fault.0)
faultless IsKnown number bytes (UnknownKind n) known small short low fault = fault.1 (subst IsKnown (sym (kind_in-header number bytes bytes small) ∙ fault.0) known)
faultless IsKnown number bytes CutShort known small short low fault =
    let n : length_in (header_as number bytes ++ bytes) ≡ length bytes = length_in-header number bytes bytes (omega arith) in
    let all : length (header_as number bytes ++ bytes) ≡ 24 + length bytes = length-sealed number bytes in
    elim fault [ inl less ↦ omega arith | inr less ↦ omega arith ]
faultless IsKnown number bytes TooLong known small short low fault =
    let n : length_in (header_as number bytes ++ bytes) ≡ length bytes = length_in-header number bytes bytes (omega arith) in
    let all : length (header_as number bytes ++ bytes) ≡ 24 + length bytes = length-sealed number bytes in
    omega arith
faultless IsKnown number bytes Checksum known small short low fault = fault (checksum_in-header number bytes bytes low)

-- no cause of an error holds of a file that is sealed by a known number
pub no_fault : (IsKnown : ℕ → Type 0) (number : ℕ) (bytes file : List ℕ) (e : SealError) → IsKnown number → number < 2 ^ 16 → length file < 2 ^ 64 → ((i : ℕ) → get_or file i 0 < 256)
    → IsFaultBy IsKnown file e → IsSealedAs number bytes file → ⊥
no_fault IsKnown number bytes file e known small short below fault is =
    let long : length file ≡ 24 + length bytes = ap length is.parts ∙ length-sealed number bytes in
    let covered : take 20 file ++ drop 24 file ≡ front_as number bytes ++ bytes = ap (λ f. take 20 f ++ drop 24 f) is.parts in
    let sum : crc32c (take 20 file ++ drop 24 file) < 2 ^ 32 =
    crc32c-lt (take 20 file ++ drop 24 file) (bytes-append (take 20 file) (drop 24 file) (bytes-take 20 file below) (bytes-drop 24 file below)) in
    let low : crc32c (front_as number bytes ++ bytes) < 2 ^ 32 = rw covered at sum in
    faultless IsKnown number bytes e known small (omega arith) low (let P : List ℕ → Type 0 = λ f. IsFaultBy IsKnown f e in subst P is.parts fault)

-- an error whose cause holds shows that the file is not sealed
pub no_trie : (file : List ℕ) (e : SealError) → length file < 2 ^ 64 → ((i : ℕ) → get_or file i 0 < 256) → IsSealFault file e → (kind : Kind) (trie : List ℕ) → IsSealed kind trie file → ⊥
no_trie file e short below fault kind trie is = no_fault IsTag (tag kind) trie file e (IsTag-tag kind) (tag-lt kind) short below fault is

pub no_seal : {T : Type 0} (file : List ℕ) (result : Result T SealError) → length file < 2 ^ 64 → ((i : ℕ) → get_or file i 0 < 256)
    → IfErr result (IsSealFault file) → IfErr result (λ _. (kind : Kind) (trie : List ℕ) → IsSealed kind trie file → ⊥)
no_seal file (Ok x) short below fault = tt
no_seal file (Err e) short below fault = no_trie file e short below fault

-- an error that says nothing of the number is one whatever numbers are known
pub fault_by : (IsKnown : ℕ → Type 0) (file : List ℕ) (e : SealError) → IsFileFault file e → IsFaultBy IsKnown file e
fault_by IsKnown file NoMagic fault = fault
fault_by IsKnown file (UnknownVersion v) fault = fault
fault_by IsKnown file (UnknownKind n) fault = absurd (fault.1 tt)
fault_by IsKnown file CutShort fault = fault
fault_by IsKnown file TooLong fault = fault
fault_by IsKnown file Checksum fault = fault

pub seal_fault : {T : Type 0} (file : List ℕ) (result : Result T SealError) → IfErr result (IsFileFault file) → IfErr result (IsSealFault file)
seal_fault file (Ok x) fault = tt
seal_fault file (Err e) fault = fault_by IsTag file e fault

-- ---- one file is the seal of one list of bytes

tag_one : (kind other : Kind) → tag kind ≡ tag other → kind ≡ other
tag_one simple_ascii simple_ascii e = refl
tag_one ignore_case ignore_case e = refl
tag_one perfect_hash perfect_hash e = refl
tag_one extended_capacity extended_capacity e = refl
tag_one kind other e = absurd (omega arith)

pub one_content : (number other : ℕ) (bytes second file : List ℕ) → number < 2 ^ 16 → other < 2 ^ 16
    → IsSealedAs number bytes file → IsSealedAs other second file → (number ≡ other) × (bytes ≡ second)
one_content number other bytes second file low small a b =
    let both : header_as number bytes ++ bytes ≡ header_as other second ++ second = sym a.parts ∙ b.parts in
    (sym (kind_in-header number bytes bytes low) ∙ ap kind_in both ∙ kind_in-header other second second small, ap (drop 24) both)

pub one_trie : (kind other : Kind) (trie second file : List ℕ) → IsSealed kind trie file → IsSealed other second file → (kind ≡ other) × (trie ≡ second)
one_trie kind other trie second file a b =
    let one = one_content (tag kind) (tag other) trie second file (tag-lt kind) (tag-lt other) a b in
    (tag_one kind other one.0, one.1)

length_in-more : (number : ℕ) (bytes more : List ℕ) → length bytes < 2 ^ 64 → length_in ((header_as number bytes ++ bytes) ++ more) ≡ length bytes
length_in-more number bytes more low = from_le_bytes-to_le_bytes_8 (length bytes) low

pub nothing : (more : List ℕ) → length more ≡ 0 → more ≡ []
nothing [] e = refl
nothing (x ∷ more) e = absurd (omega arith)

-- the length in the header of a file is that of the bytes in it, and no other
pub none_longer : (number other : ℕ) (bytes second file more : List ℕ) → length (file ++ more) < 2 ^ 64
    → IsSealedAs number bytes file → IsSealedAs other second (file ++ more) → more ≡ []
none_longer number other bytes second file more short a b =
    let both : length (file ++ more) ≡ length file + length more = length-append file more in
    let one : length file ≡ 24 + length bytes = ap length a.parts ∙ length-sealed number bytes in
    let two : length (file ++ more) ≡ 24 + length second = ap length b.parts ∙ length-sealed other second in
    let n : length_in (file ++ more) ≡ length bytes =
    ap (λ f. length_in (f ++ more)) a.parts ∙ length_in-more number bytes more (omega arith) in
    let m : length_in (file ++ more) ≡ length second = ap length_in b.parts ∙ length_in-header other second second (omega arith) in
    let same : length bytes ≡ length second = sym n ∙ m in
    nothing more (omega arith)
