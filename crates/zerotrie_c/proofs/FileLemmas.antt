-- Files that are sealed or tagged.
use Rattle.std.proofs.Common.{◌≡◌, ℕ, ◌+◌, ◌-◌, ◌≤◌, ◌<◌, inl, inr, List, ◌++◌, length, take, drop, get_or, refl, sym, ap, subst, ◌∙◌, length-append, arith}
use Rattle.std.proofs.lemmas.List.{take_all}
use Rattle.std.proofs.lemmas.Bool.{cases_eq}
use Rattle.std.proofs.Math.Seq.{drop-append_seam}
use Rattle.zerotrie_core.specs.Kind.{Kind, simple_ascii, ignore_case, perfect_hash, extended_capacity}
use Rattle.zerotrie_any.specs.Tagged.{tagged}
use Rattle.zerotrie_sealed.specs.Sealed.{magic, index_number, blocks_number, IsIndexNumber, header, header_as, IsSealed, IsSealedIndex}
use Rattle.zerotrie_sealed.specs.Faults.{kind_in, IsFaultBy, IsRightBefore, IsSealFault, IsSealRightBefore, IsBlocksFault, IsBlocksRightBefore, IsIndexFault, IsIndexRightBefore}
use Rattle.zerotrie_sealed.specs.declared.reading.SealError.{SealError}
use Rattle.zerotrie_sealed.specs.declared.reading.SealError.TheVariants.{NoMagic, UnknownVersion, UnknownKind, CutShort, TooLong, Checksum}
use Rattle.zerotrie_c.specs.Files.{seal_status_of, IsNoFile, IsFileFault, IsIndexFileFault}

-- ---- a sealed file

length-header : (kind : Kind) (trie : List ℕ) → length (header kind trie ++ trie) ≡ 24 + length trie
length-header kind trie = omega arith

-- the file is as long as its header and its trie, and the trie is the rest of it
pub sealed_len : (kind : Kind) (trie file : List ℕ) → IsSealed kind trie file → 24 + length trie ≤ length file
sealed_len kind trie file is = let e : length file ≡ 24 + length trie = ap length is.parts ∙ length-header kind trie in omega arith

pub sealed_part : (kind : Kind) (trie file : List ℕ) → IsSealed kind trie file → IsSealed kind (take (length trie) (drop 24 file)) file
sealed_part kind trie file is =
    let part : take (length trie) (drop 24 file) ≡ trie = ap (take (length trie)) (ap (drop 24) is.parts) ∙ take_all (length trie) trie (omega arith) in
    rw part is

-- ---- tagged bytes

low_no_magic : (first : ℕ) → first < 100 → first ≡ 122 → ⊥
low_no_magic first low e = omega arith

tag_no_magic : (kind : Kind) (trie : List ℕ) → take 8 (tagged kind trie) ≡ magic → ⊥
tag_no_magic simple_ascii trie e = low_no_magic 0 (omega arith) (ap (λ l. get_or l 0 0) e)
tag_no_magic ignore_case trie e = low_no_magic 8 (omega arith) (ap (λ l. get_or l 0 0) e)
tag_no_magic perfect_hash trie e = low_no_magic 3 (omega arith) (ap (λ l. get_or l 0 0) e)
tag_no_magic extended_capacity trie e = low_no_magic 7 (omega arith) (ap (λ l. get_or l 0 0) e)

-- ---- what is no file

pub no_sealed_file : (file : List ℕ) → take 8 file ≡ magic → ((kind : Kind) (trie : List ℕ) → IsSealed kind trie file → ⊥) → IsNoFile file
no_sealed_file file begins none kind trie is = elim is [
  | inl sealed ↦ none kind trie sealed
  | inr t ↦ tag_no_magic kind trie (sym (ap (take 8) t) ∙ begins)
]

-- the first cause of an error, where the file begins as a sealed one
pub seal_fault : (file : List ℕ) (e : SealError) → take 8 file ≡ magic → IsSealFault file e → IsSealRightBefore file e → IsFileFault file (seal_status_of e)
seal_fault file NoMagic begins fault before = absurd (fault begins)
seal_fault file (UnknownVersion number) begins fault before = inr (inl (begins, refl, before.1, λ same. fault.1 (sym fault.0 ∙ same)))
seal_fault file (UnknownKind number) begins fault before = inl (begins, refl, λ long. before.1)
seal_fault file CutShort begins fault before = inl (begins, refl, λ long. (before.1 long).0.1)
seal_fault file TooLong begins fault before = inl (begins, refl, λ long. before.0.1)
seal_fault file Checksum begins fault before = inl (begins, refl, λ long. before.0.0.1)

-- ---- the file of an index

-- the index is behind what is in front of it
pub front_of : (index file : List ℕ) → IsSealedIndex index file → (front : List ℕ) × (file ≡ front ++ index)
front_of index file (inl is) = (header_as index_number index, is.parts)
front_of index file (inr is) = (is.front, is.parts)

pub index_fits : (index file : List ℕ) → IsSealedIndex index file → length index ≤ length file
index_fits index file is =
    let front = front_of index file is in
    let e : length file ≡ length front.0 + length index = ap length front.1 ∙ length-append front.0 index in
    omega arith

-- as many bytes at the end of the file are the index
pub index_part : (index file : List ℕ) → IsSealedIndex index file → IsSealedIndex (take (length index) (drop (length file - length index) file)) file
index_part index file is =
    let front = front_of index file is in
    let e : length file ≡ length front.0 + length index = ap length front.1 ∙ length-append front.0 index in
    let start : length file - length index ≡ length front.0 = omega arith in
    let behind : drop (length file - length index) file ≡ index = ap (λ n. drop n file) start ∙ ap (drop (length front.0)) front.1 ∙ drop-append_seam front.0 index in
    let part : take (length index) (drop (length file - length index) file) ≡ index = ap (take (length index)) behind ∙ take_all (length index) index (omega arith) in
    subst (λ l. IsSealedIndex l file) (sym part) is

-- the first cause of an error, by the number in the file
whole_index_fault : (file : List ℕ) (e : SealError) → IsFaultBy IsIndexNumber file e → IsRightBefore IsIndexNumber file e → IsIndexFileFault file (seal_status_of e)
whole_index_fault file NoMagic fault before = inl (refl, λ begins. absurd (fault begins))
whole_index_fault file (UnknownVersion number) fault before = inr (before.0, refl, before.1, λ same. fault.1 (sym fault.0 ∙ same))
whole_index_fault file (UnknownKind number) fault before = inl (refl, λ begins long. before.1)
whole_index_fault file CutShort fault before = inl (refl, λ begins long. (before.1 long).0.1)
whole_index_fault file TooLong fault before = inl (refl, λ begins long. before.0.1)
whole_index_fault file Checksum fault before = inl (refl, λ begins long. before.0.0.1)

blocks_index_fault : (file : List ℕ) (e : SealError) → IsBlocksFault file e → IsBlocksRightBefore file e → IsIndexFileFault file (seal_status_of e)
blocks_index_fault file NoMagic fault before = inl (refl, λ begins. absurd (fault begins))
blocks_index_fault file (UnknownVersion number) fault before = inr (before.0, refl, before.1, λ same. fault.1 (sym fault.0 ∙ same))
blocks_index_fault file (UnknownKind number) fault before = inl (refl, λ begins long. before.1)
blocks_index_fault file CutShort fault before = inl (refl, λ begins long. (before.0.1 long).0.1)
blocks_index_fault file TooLong fault before = inl (refl, λ begins long. before.0.0.1)
blocks_index_fault file Checksum fault before = inl (refl, λ begins long. before.0.0.1)

pub index_fault : (file : List ℕ) (e : SealError) → IsIndexFault file e → IsIndexRightBefore file e → IsIndexFileFault file (seal_status_of e)
index_fault file e fault before = elim (cases_eq (kind_in file) blocks_number) [
  | inl is ↦ blocks_index_fault file e (fault.1 is) (before.1 is)
  | inr other ↦ whole_index_fault file e (fault.0 other) (before.0 other)
]
