-- The trie in a file, and why it has none.
use Rattle.std.specs.Prelude.{◌≡◌, ◌⊎◌, ℕ, List, take, Option, Some, None}
use Rattle.zerotrie_core.specs.WellFormed.{IsWellFormed}
use Rattle.zerotrie_core.specs.Faults.{IsFirstFault}
use Rattle.zerotrie_any.specs.Tagged.{tagged, IsTagFault}
use Rattle.zerotrie_any.specs.declared.bytes.TagError.{TagError}
use Rattle.zerotrie_sealed.specs.Sealed.{magic, IsSealed}
use Rattle.zerotrie_sealed.specs.Faults.{IsSealFault}
use Rattle.zerotrie_sealed.specs.declared.reading.SealError.{SealError}
use Rattle.zerotrie_core.specs.Kinds.{kind_of, IsTag}
use Rattle.zerotrie_core.specs.declared.TrieKind.{TrieKind}
use Rattle.zerotrie_queries.specs.declared.file.OpenError.{OpenError}
use Rattle.zerotrie_queries.specs.declared.file.OpenError.TheVariants.{BadTag, Damaged, NotWellFormed, OutOfMemory}

-- the file is these bytes of this kind, sealed; none is if a kind was named, since all of it is bare bytes then
abbrev pub HoldsSealed : Option TrieKind → List ℕ → TrieKind → List ℕ → Type 0
HoldsSealed None file kind bytes = IsSealed (kind_of kind) bytes file
HoldsSealed (Some named) file kind bytes = ⊥

-- the file has these bytes of this kind unsealed: all of it if the kind was named, and else what is after the number of the kind
abbrev pub HoldsUnsealed : Option TrieKind → List ℕ → TrieKind → List ℕ → Type 0
HoldsUnsealed None file kind bytes = file ≡ tagged (kind_of kind) bytes
HoldsUnsealed (Some named) file kind bytes = (kind ≡ named) × (bytes ≡ file)

-- the file has these bytes of this kind
abbrev pub Holds : Option TrieKind → List ℕ → TrieKind → List ℕ → Type 0
Holds named file kind bytes = HoldsSealed named file kind bytes ⊎ HoldsUnsealed named file kind bytes

-- the file has these bytes of this kind, and either they were sealed or they mean a map
abbrev pub IsOpened : Option TrieKind → List ℕ → TrieKind → List ℕ → Type 0
IsOpened named file kind bytes = HoldsSealed named file kind bytes ⊎ (HoldsUnsealed named file kind bytes × IsWellFormed (kind_of kind) bytes)

-- the file begins as a sealed one
abbrev pub HasMagic : List ℕ → Type 0
HasMagic file = take 8 file ≡ magic

-- it is read as one: no kind was named
abbrev pub BeginsSealed : Option TrieKind → List ℕ → Type 0
BeginsSealed None file = HasMagic file
BeginsSealed (Some named) file = ⊥

-- why the kind of a file is not known: none was named, the file does not begin as a sealed one, and it does not begin with the number of a kind
abbrev pub HasNoKind : Option TrieKind → List ℕ → TagError → Type 0
HasNoKind None file why = (HasMagic file → ⊥) × IsTagFault IsTag file why
HasNoKind (Some named) file why = ⊥

-- why a file is damaged: none was named, it begins as a sealed one, and it is the seal of no bytes of any kind
abbrev pub IsDamaged : Option TrieKind → List ℕ → SealError → Type 0
IsDamaged None file why = HasMagic file × IsSealFault file why × ((kind : TrieKind) (bytes : List ℕ) → IsSealed (kind_of kind) bytes file → ⊥)
IsDamaged (Some named) file why = ⊥

-- the file has bytes of this kind unsealed that are malformed
abbrev pub IsMalformed : Option TrieKind → List ℕ → TrieKind → List ℕ → Type 0
IsMalformed named file kind bytes = HoldsUnsealed named file kind bytes × (IsWellFormed (kind_of kind) bytes → ⊥)

-- why a file is not opened without a test: its kind is not known, or it is damaged
abbrev pub IsUnknown : Option TrieKind → List ℕ → OpenError → Type 0
IsUnknown named file (BadTag why) = HasNoKind named file why
IsUnknown named file (Damaged why) = IsDamaged named file why
IsUnknown named file (NotWellFormed kind fault) = ⊥
IsUnknown named file OutOfMemory = ⊥

-- why a file has no trie: its kind is not known, it is damaged, or it has bytes unsealed that are malformed, and this is
-- their first fault, if memory for its search was there
abbrev pub Explains : Option TrieKind → List ℕ → OpenError → Type 0
Explains named file (BadTag why) = HasNoKind named file why
Explains named file (Damaged why) = IsDamaged named file why
Explains named file (NotWellFormed kind fault) = (bytes : List ℕ) × IsMalformed named file kind bytes × IsFirstFault (kind_of kind) bytes fault
Explains named file OutOfMemory = (kind : TrieKind) × (bytes : List ℕ) × IsMalformed named file kind bytes
