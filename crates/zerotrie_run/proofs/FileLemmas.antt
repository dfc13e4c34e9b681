-- A file has one trie at most, and what is opened is not refused.
use Rattle.std.proofs.Common.{◌≡◌, ◌++◌, ℕ, List, [], ◌∷◌, Option, Some, None, refl, sym, subst, ap, ◌∙◌, inl, inr, arith, take, drop, take-append-drop, true}
use Rattle.zerotrie_core.specs.Kind.{Kind, simple_ascii, ignore_case, perfect_hash, extended_capacity, tag}
use Rattle.zerotrie_core.specs.WellFormed.{IsWellFormed}
use Rattle.zerotrie_core.specs.Kinds.{kind_of, IsTag}
use Rattle.zerotrie_core.specs.declared.TrieKind.{TrieKind}
use Rattle.zerotrie_core.specs.declared.TrieKind.TheVariants.{Simple, Ignore, Hash, Ext}
use Rattle.zerotrie_any.specs.Tagged.{tagged, IsTagFault}
use Rattle.zerotrie_any.specs.declared.bytes.TagError.{TagError}
use Rattle.zerotrie_sealed.specs.Sealed.{IsSealedAs, IsSealedIndex, IsIndexNumber, index_number}
use Rattle.zerotrie_sealed.specs.Faults.{IsIndexFault}
use Rattle.zerotrie_sealed.specs.declared.reading.SealError.TheVariants.{UnknownKind}
use Rattle.zerotrie_sealed.specs.Laws.{OneTrie, OneIndex}
use Rattle.zerotrie_sealed.specs.declared.reading.SealError.{SealError}
use Rattle.zerotrie_queries.specs.Files.{Holds, HoldsUnsealed, HoldsSealed, HasMagic, HasNoKind, IsDamaged}
use Rattle.zerotrie_queries.specs.declared.file.OpenError.{OpenError}
use Rattle.zerotrie_queries.specs.declared.file.OpenError.TheVariants as unopened
use Rattle.zerotrie_run.specs.Runs.{Opens, OpensBy, IsDamagedIndex, IsUnasked, IsUnopened, IsUnopenedBy, asks_index}
use Rattle.zerotrie_run.specs.declared.command.Question.{Question}
use Rattle.zerotrie_run.specs.declared.command.TrieFile.{TrieFile}
use Rattle.zerotrie_run.specs.declared.command.Check.{Check}
use Rattle.zerotrie_run.specs.declared.command.Check.TheVariants as check

-- no two kinds have one number
tag_injective : (j k : Kind) → tag j ≡ tag k → j ≡ k
tag_injective simple_ascii simple_ascii is = refl
tag_injective simple_ascii ignore_case is = absurd (omega (arith, is))
tag_injective simple_ascii perfect_hash is = absurd (omega (arith, is))
tag_injective simple_ascii extended_capacity is = absurd (omega (arith, is))
tag_injective ignore_case simple_ascii is = absurd (omega (arith, is))
tag_injective ignore_case ignore_case is = refl
tag_injective ignore_case perfect_hash is = absurd (omega (arith, is))
tag_injective ignore_case extended_capacity is = absurd (omega (arith, is))
tag_injective perfect_hash simple_ascii is = absurd (omega (arith, is))
tag_injective perfect_hash ignore_case is = absurd (omega (arith, is))
tag_injective perfect_hash perfect_hash is = refl
tag_injective perfect_hash extended_capacity is = absurd (omega (arith, is))
tag_injective extended_capacity simple_ascii is = absurd (omega (arith, is))
tag_injective extended_capacity ignore_case is = absurd (omega (arith, is))
tag_injective extended_capacity perfect_hash is = absurd (omega (arith, is))
tag_injective extended_capacity extended_capacity is = refl

-- each kind has a name
pub named : (kind : Kind) → (k : TrieKind) × (kind_of k ≡ kind)
named simple_ascii = (Simple, refl)
named ignore_case = (Ignore, refl)
named perfect_hash = (Hash, refl)
named extended_capacity = (Ext, refl)

abbrev first_of : List ℕ → ℕ
first_of [] = 0
first_of (b ∷ bytes) = b

-- what a sealed file begins with is the number of no kind
no_tag : (k : Kind) → 0x7A ≡ tag k → ⊥
no_tag simple_ascii is = omega (arith, is)
no_tag ignore_case is = omega (arith, is)
no_tag perfect_hash is = omega (arith, is)
no_tag extended_capacity is = omega (arith, is)

sealed_magic : (number : ℕ) (a file : List ℕ) → IsSealedAs number a file → HasMagic file
sealed_magic number a file sealed = ap (take 8) sealed.parts

tagged_magic : (k : Kind) (b file : List ℕ) → file ≡ tagged k b → HasMagic file → ⊥
tagged_magic k b file is has = no_tag k (ap first_of (ap (λ m. m ++ drop 8 file) (sym has) ∙ take-append-drop 8 file ∙ is))

-- no file is sealed and has the number of a kind in front
apart : (named : Option TrieKind) (file : List ℕ) (j k : TrieKind) (a b : List ℕ) → HoldsSealed named file j a → HoldsUnsealed named file k b → ⊥
apart None file j k a b sealed is = tagged_magic (kind_of k) b file is (sealed_magic (tag (kind_of j)) a file sealed)
apart (Some n) file j k a b sealed is = sealed

same_unsealed : (named : Option TrieKind) (file : List ℕ) (j k : TrieKind) (a b : List ℕ) → HoldsUnsealed named file j a → HoldsUnsealed named file k b → (kind_of j ≡ kind_of k) × (a ≡ b)
same_unsealed None file j k a b h i =
    let both : tagged (kind_of j) a ≡ tagged (kind_of k) b = sym h ∙ i in
    (tag_injective (kind_of j) (kind_of k) (cc), cc)
same_unsealed (Some n) file j k a b h i = (ap kind_of (h.0 ∙ sym i.0), h.1 ∙ sym i.1)

same_sealed : OneTrie → (named : Option TrieKind) (file : List ℕ) (j k : TrieKind) (a b : List ℕ) → HoldsSealed named file j a → HoldsSealed named file k b → (kind_of j ≡ kind_of k) × (a ≡ b)
same_sealed one None file j k a b h i = one (kind_of j) (kind_of k) a b file h i
same_sealed one (Some n) file j k a b h i = absurd h

-- a file has bytes of one kind
pub held_once : OneTrie → (named : Option TrieKind) (file : List ℕ) (j k : TrieKind) (a b : List ℕ) → Holds named file j a → Holds named file k b → (kind_of j ≡ kind_of k) × (a ≡ b)
held_once one named file j k a b (inl h) (inl i) = same_sealed one named file j k a b h i
held_once one named file j k a b (inl h) (inr i) = absurd (apart named file j k a b h i)
held_once one named file j k a b (inr h) (inl i) = absurd (apart named file k j b a i h)
held_once one named file j k a b (inr h) (inr i) = same_unsealed named file j k a b h i

-- an index begins as a sealed file does
index_magic : (index file : List ℕ) → IsSealedIndex index file → HasMagic file
index_magic index file (inl whole) = sealed_magic index_number index file whole
index_magic index file (inr blocks) = ap (take 8) (blocks.parts ∙ ap (λ front. front ++ index) blocks.sealed.parts)

-- the file of an index has no trie
pub no_trie : OneIndex → (file : List ℕ) (k : TrieKind) (index b : List ℕ) → IsSealedIndex index file → Holds None file k b → ⊥
no_trie one file k index b is (inl sealed) = (one index file is).1 (kind_of k) b sealed
no_trie one file k index b is (inr bare) = tagged_magic (kind_of k) b file bare (index_magic index file is)

-- what is opened of a file it has
pub holds_of : (by : Check) (named : Option TrieKind) (file : List ℕ) (k : TrieKind) (b : List ℕ) → OpensBy by named file k b → Holds named file k b
holds_of check.Skip named file k b h = h
holds_of check.Usual named file k b (inl sealed) = inl sealed
holds_of check.Usual named file k b (inr both) = inr both.0
holds_of check.Full named file k b h = h.0

-- bytes that mean a map are opened, however they are tested
pub opens_of : (by : Check) (named : Option TrieKind) (file : List ℕ) (k : TrieKind) (b : List ℕ) → Holds named file k b → IsWellFormed (kind_of k) b → OpensBy by named file k b
opens_of check.Skip named file k b h good = h
opens_of check.Usual named file k b (inl sealed) good = inl sealed
opens_of check.Usual named file k b (inr bare) good = inr (bare, good)
opens_of check.Full named file k b h good = (h, good)

-- a file that has bytes of a kind has a known kind
has_kind : (named : Option TrieKind) (file : List ℕ) (k : TrieKind) (b : List ℕ) (why : TagError) → HasNoKind named file why → Holds named file k b → ⊥
has_kind None file k b why none (inl sealed) = none.0 (sealed_magic (tag (kind_of k)) b file sealed)
has_kind None file k b why none (inr is) =
    let told : IsTagFault IsTag (tagged (kind_of k) b) why = subst (λ f. IsTagFault IsTag f why) is none.1 in
    told.1 (k, refl)
has_kind (Some n) file k b why none h = none

-- and is not damaged
not_damaged : (named : Option TrieKind) (file : List ℕ) (k : TrieKind) (b : List ℕ) (why : SealError) → IsDamaged named file why → Holds named file k b → ⊥
not_damaged None file k b why bad (inl sealed) = bad.2 k b sealed
not_damaged None file k b why bad (inr is) = tagged_magic (kind_of k) b file is bad.0
not_damaged (Some n) file k b why bad h = bad

-- nor as an index
not_damaged_index : (named : Option TrieKind) (file : List ℕ) (k : TrieKind) (b : List ℕ) (why : OpenError) → IsDamagedIndex named file why → Holds named file k b → ⊥
not_damaged_index None file k b (unopened.BadTag why) bad h = bad
not_damaged_index None file k b (unopened.Damaged why) bad (inl sealed) = bad.3 k b sealed
not_damaged_index None file k b (unopened.Damaged why) bad (inr is) = tagged_magic (kind_of k) b file is bad.0
not_damaged_index None file k b (unopened.NotWellFormed j f) bad h = bad
not_damaged_index None file k b unopened.OutOfMemory bad h = bad
not_damaged_index (Some n) file k b why bad h = bad

-- nor are its bytes malformed if they mean a map
not_unsound : OneTrie → (named : Option TrieKind) (file : List ℕ) (j k : TrieKind) (a b : List ℕ) → Holds named file j a → (IsWellFormed (kind_of j) a → ⊥) → Holds named file k b → IsWellFormed (kind_of k) b → ⊥
not_unsound one named file j k a b held bad h good =
    let both = held_once one named file j k a b held h in
    bad (subst (λ bytes. IsWellFormed (kind_of j) bytes) (sym both.1) (subst (λ kind. IsWellFormed kind b) (sym both.0) good))

not_malformed : OneTrie → (named : Option TrieKind) (file : List ℕ) (j k : TrieKind) (a b : List ℕ) → HoldsUnsealed named file j a → (IsWellFormed (kind_of j) a → ⊥) → OpensBy check.Usual named file k b → ⊥
not_malformed one named file j k a b held bad (inl sealed) = apart named file k j b a sealed held
not_malformed one named file j k a b held bad (inr both) = not_unsound one named file j k a b (inr held) bad (inr both.0) both.1

-- what is opened is not refused
pub opened : OneTrie → (by : Check) (named : Option TrieKind) (file : List ℕ) (why : OpenError) (k : TrieKind) (b : List ℕ) → IsUnopenedBy by named file why → OpensBy by named file k b → ⊥
opened one check.Skip named file (unopened.BadTag why) k b none h = has_kind named file k b why none h
opened one check.Skip named file (unopened.Damaged why) k b none h = not_damaged named file k b why none h
opened one check.Skip named file (unopened.NotWellFormed j f) k b none h = none
opened one check.Skip named file unopened.OutOfMemory k b none h = none
opened one check.Usual named file (unopened.BadTag why) k b none h = has_kind named file k b why none (holds_of check.Usual named file k b h)
opened one check.Usual named file (unopened.Damaged why) k b none h = not_damaged named file k b why none (holds_of check.Usual named file k b h)
opened one check.Usual named file (unopened.NotWellFormed j f) k b none h = not_malformed one named file j k none.0 b none.1.0 none.1.1 h
opened one check.Usual named file unopened.OutOfMemory k b none h = not_malformed one named file none.0 k none.1 b none.2.0 none.2.1 h
opened one check.Full named file (unopened.BadTag why) k b none h = has_kind named file k b why none h.0
opened one check.Full named file (unopened.Damaged why) k b none h = not_damaged named file k b why none h.0
opened one check.Full named file (unopened.NotWellFormed j f) k b none h = not_unsound one named file j k none.0 b none.1.0 none.1.1 h.0 h.1
opened one check.Full named file unopened.OutOfMemory k b none h = not_unsound one named file none.0 k none.1 b none.2.0 none.2.1 h.0 h.1

pub opened_asked : OneTrie → (file : TrieFile) (q : Question) (held : List ℕ) (why : OpenError) (k : TrieKind) (b : List ℕ) → IsUnasked file q held why → Opens file held k b → ⊥
opened_asked one file q held why k b (inl none) h = opened one file.check file.bare held why k b none h
opened_asked one file q held why k b (inr bad) h = not_damaged_index file.bare held k b why bad.1 (holds_of file.check file.bare held k b h)

-- what is wrong with the seal of an index is why a question to one has no answer
pub index_unasked : (file : TrieFile) (q : Question) (held : List ℕ) (why : OpenError) (number : ℕ) (fault : SealError) → why ≡ unopened.Damaged (UnknownKind number) → IsIndexNumber number
    → asks_index q ≡ true → IsUnopened file held why → IsIndexFault held fault → IsUnasked file q held (unopened.Damaged fault)
index_unasked file q held why number fault is known asks h damage = inr (asks, by file.check file.bare (subst (λ w. IsUnopenedBy file.check file.bare held w) is h))
  where
    by : (c : Check) (named : Option TrieKind) → IsUnopenedBy c named held (unopened.Damaged (UnknownKind number)) → IsDamagedIndex named held (unopened.Damaged fault)
    by check.Skip None h = (h.0, subst IsIndexNumber (sym h.1.0) known, damage, h.2)
    by check.Usual None h = (h.0, subst IsIndexNumber (sym h.1.0) known, damage, h.2)
    by check.Full None h = (h.0, subst IsIndexNumber (sym h.1.0) known, damage, h.2)
    by check.Skip (Some n) h = h
    by check.Usual (Some n) h = h
    by check.Full (Some n) h = h
