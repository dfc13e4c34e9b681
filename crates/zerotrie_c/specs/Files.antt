-- Files, which are sealed or tagged bytes, as C is told of them.
use Rattle.std.specs.Prelude.{◌≡◌, ◌≢◌, ℕ, ◌+◌, ◌≤◌, ◌⊎◌, List, length, take, drop}
use Rattle.zerotrie_core.specs.declared.ZeroTrieBuildError.TheVariants.{OutOfMemory}
use Rattle.zerotrie_core.specs.Kind.{Kind, tag}
use Rattle.zerotrie_any.specs.Tagged.{tagged}
use Rattle.zerotrie_sealed.specs.Sealed.{magic, version, IsSealed, IsSealedInBlocks, IsSealedIndex}
use Rattle.zerotrie_sealed.specs.Faults.{version_in}
use Rattle.zerotrie_sealed.specs.declared.reading.SealError.{SealError}
use Rattle.zerotrie_sealed.specs.declared.reading.SealError.TheVariants.{NoMagic, UnknownVersion, UnknownKind, CutShort, TooLong, Checksum}
use Rattle.zerotrie_c.specs.Statuses.{done, status_of, damaged, unknown_version}
use Rattle.zerotrie_c.specs.Tags.{IsNotTagged}
use Rattle.zerotrie_c.specs.Builds.{IsHandedOut}

-- the file is the trie of the kind, sealed or tagged
abbrev pub IsFileOf : Kind → List ℕ → List ℕ → Type 0
IsFileOf kind trie file = IsSealed kind trie file ⊎ (file ≡ tagged kind trie)

-- the file is none of any trie
abbrev pub IsNoFile : List ℕ → Type 0
IsNoFile file = (kind : Kind) (trie : List ℕ) → IsFileOf kind trie file → ⊥

-- an error of a file that begins as a sealed one, by its number
abbrev pub seal_status_of : SealError → ℕ
seal_status_of NoMagic = damaged
seal_status_of (UnknownVersion number) = unknown_version
seal_status_of (UnknownKind number) = damaged
seal_status_of CutShort = damaged
seal_status_of TooLong = damaged
seal_status_of Checksum = damaged

-- the file has the version that is known, or is too short to have one
abbrev pub HasNoOtherVersion : List ℕ → Type 0
HasNoOtherVersion file = 24 ≤ length file → version_in file ≡ version

-- why a file is refused, by the first cause: it begins as a sealed one, and has another version; or it has the known one,
-- and its parts do not agree; or it begins otherwise, and is not tagged
abbrev pub IsFileFault : List ℕ → ℕ → Type 0
IsFileFault file status =
    ((take 8 file ≡ magic) × (status ≡ damaged) × HasNoOtherVersion file)
    ⊎ ((take 8 file ≡ magic) × (status ≡ unknown_version) × (24 ≤ length file) × (version_in file ≢ version))
    ⊎ ((take 8 file ≢ magic) × IsNotTagged file status)

-- What is told of a file: the number of its kind, and where in it the trie is and how long it is. Or the file is
-- refused, and nothing is written.
abbrev pub IsOpened : List ℕ → ℕ → ℕ → ℕ → ℕ → ℕ → ℕ → ℕ → Type 0
IsOpened file status old_number number old_at at old_len len =
    ((status ≡ done) × (at + len ≤ length file) × (kind : Kind) × (number ≡ tag kind) × IsFileOf kind (take len (drop at file)) file)
    ⊎ (IsNoFile file × IsFileFault file status × (number ≡ old_number) × (at ≡ old_at) × (len ≡ old_len))

-- the file is that of no index
abbrev pub IsNoIndexFile : List ℕ → Type 0
IsNoIndexFile file = (index : List ℕ) → IsSealedIndex index file → ⊥

-- why a file is not opened as that of an index: it begins as a sealed one, and has another version; or it is damaged, is
-- the file of a trie, or begins otherwise
abbrev pub IsIndexFileFault : List ℕ → ℕ → Type 0
IsIndexFileFault file status =
    ((status ≡ damaged) × (take 8 file ≡ magic → HasNoOtherVersion file))
    ⊎ ((take 8 file ≡ magic) × (status ≡ unknown_version) × (24 ≤ length file) × (version_in file ≢ version))

-- What is told of the file of an index: where in it the index is, up to its end, and how long it is. Or the file is
-- refused, and nothing is written.
abbrev pub IsIndexOpened : List ℕ → ℕ → ℕ → ℕ → ℕ → ℕ → Type 0
IsIndexOpened file status old_at at old_len len =
    ((status ≡ done) × (at + len ≡ length file) × IsSealedIndex (take len (drop at file)) file)
    ⊎ (IsNoIndexFile file × IsIndexFileFault file status × (at ≡ old_at) × (len ≡ old_len))

-- What is told of the file of an index in blocks, which is handed out. Or there is no memory for it, and nothing is written.
abbrev pub IsIndexSealed : List ℕ → ℕ → ℕ → ℕ → List ℕ → List ℕ → Type 0
IsIndexSealed index status old_len len old out =
    ((file : List ℕ) × IsSealedInBlocks index file × IsHandedOut file status len old out)
    ⊎ ((status ≡ status_of OutOfMemory) × (len ≡ old_len) × (out ≡ old))
