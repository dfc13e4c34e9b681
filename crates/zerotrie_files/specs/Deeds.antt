-- What a disk did with the bytes of a file: which files it filled and moved, and what its streams got.
use Rattle.std.specs.Prelude.{◌≡◌, ◌⊎◌, ℕ, Bool, true, false, List, [], ◌∷◌, ◌++◌, Option, Some, None, Result, MatchBool, MatchResult}
use Rattle.std.specs.IoError.{error_kind}
use Rattle.std.specs.declared.io.Error.{Error}
use Rattle.std.specs.declared.io.ErrorKind.TheVariants as kind
use Rattle.zerotrie_files.specs.Disks.{Known}
use Rattle.zerotrie_files.specs.Faults.{IsOutOfMemory}
use Rattle.zerotrie_files.specs.Stores.{IsBeside, names_open_file}
use Rattle.zerotrie_files.specs.declared.found.Mode.{Mode}
use Rattle.zerotrie_files.specs.declared.found.Found.{Found}
use Rattle.zerotrie_files.specs.declared.found.Found.TheVariants.{Nothing, File, Folder, Stream}

-- What one call did.
pub data Deed : Type 0 where
  -- the new file of this path has this mode, if there is one, and these bytes
  filled : List ℕ → Option Mode → List ℕ → Deed
  -- the file of the first path took the second
  moved : List ℕ → List ℕ → Deed
  -- the device, the pipe or the open file of this path got these bytes
  appended : List ℕ → List ℕ → Deed

-- a disk did this since, if anything is known of what it does
abbrev pub Did : List Deed → Option (List Deed) → Option (List Deed) → Type 0
Did deeds old new = Known old new (λ before after. after ≡ before ++ deeds)

-- a call did this, or it failed and did nothing
abbrev pub DoesOrFails : {T E : Type 0} → Deed → Result T E → Option (List Deed) → Option (List Deed) → Type 0
DoesOrFails deed result old new = MatchResult result (λ _. Did (deed ∷ []) old new) (λ _. Did [] old new)

-- a stream got nothing, or a beginning of the bytes
abbrev pub GetsPart : List ℕ → List ℕ → Option (List Deed) → Option (List Deed) → Type 0
GetsPart path bytes old new = Did [] old new ⊎ ((part : List ℕ) × (rest : List ℕ) × (bytes ≡ part ++ rest) × Did (appended path part ∷ []) old new)

-- a stream got the bytes; or it failed, and the stream got a beginning of them at most
abbrev pub Gets : {T E : Type 0} → List ℕ → List ℕ → Result T E → Option (List Deed) → Option (List Deed) → Type 0
Gets path bytes result old new = MatchResult result (λ _. Did (appended path bytes ∷ []) old new) (λ _. GetsPart path bytes old new)

-- the file of the path beside got the mode and the bytes and took the path; or it failed, and took none
abbrev pub FillsAndMoves : {T E : Type 0} → (path beside : List ℕ) → Option Mode → List ℕ → Result T E → Option (List Deed) → Option (List Deed) → Type 0
FillsAndMoves path beside mode bytes result old new =
    MatchResult result (λ _. Did (filled beside mode bytes ∷ moved beside path ∷ []) old new) (λ _. Did [] old new ⊎ Did (filled beside mode bytes ∷ []) old new)

-- the same if the path beside was free, and else nothing
abbrev pub FillsAndMovesIf : {E : Type 0} → (path beside : List ℕ) → Option Mode → List ℕ → Result Bool E → Option (List Deed) → Option (List Deed) → Type 0
FillsAndMovesIf path beside mode bytes result old new =
    MatchResult result (λ free. MatchBool free (Did (filled beside mode bytes ∷ moved beside path ∷ []) old new) (Did [] old new))
    (λ _. Did [] old new ⊎ Did (filled beside mode bytes ∷ []) old new)

-- a new file beside that of the path got the mode and the bytes, and took the path
abbrev pub Places : List ℕ → Option Mode → List ℕ → Option (List Deed) → Option (List Deed) → Type 0
Places path mode bytes old new = (beside : List ℕ) × IsBeside path beside × Did (filled beside mode bytes ∷ moved beside path ∷ []) old new

-- no file took a path, and at most a new one was filled
abbrev pub PlacesNone : List ℕ → Option (List Deed) → Option (List Deed) → Type 0
PlacesNone bytes old new = Did [] old new ⊎ ((beside : List ℕ) × (mode : Option Mode) × Did (filled beside mode bytes ∷ []) old new)

-- Where bytes go, by what the path leads to.
pub data Reaches (Leads : Found → Type 0) (IsReal : List ℕ → Type 0) (path bytes : List ℕ) (old new : Option (List Deed)) : Type 0 where
  -- to the open file that the path names
  to_open : names_open_file path ≡ true → Did (appended path bytes ∷ []) old new → Reaches Leads IsReal path bytes old new
  -- to the device or the pipe
  to_stream : names_open_file path ≡ false → Leads Stream → Did (appended path bytes ∷ []) old new → Reaches Leads IsReal path bytes old new
  -- where nothing is, to a new file at the path
  to_new : names_open_file path ≡ false → Leads Nothing → Places path None bytes old new → Reaches Leads IsReal path bytes old new
  -- to a new file with the mode of the old one, at the path that it has without links
  to_file : names_open_file path ≡ false → (mode : Mode) → (real : List ℕ) → Leads (File mode) → IsReal real → Places real (Some mode) bytes old new
      → Reaches Leads IsReal path bytes old new

-- the bytes went nowhere: at most a beginning of them to a stream, or all to a new file that took no path
abbrev pub ReachesNone : List ℕ → List ℕ → Option (List Deed) → Option (List Deed) → Type 0
ReachesNone path bytes old new = GetsPart path bytes old new ⊎ PlacesNone bytes old new

-- why no file took the path: a call failed, an allocation did, or a name beside it is taken
abbrev pub IsPlaceFault : (IsFault : Error → Type 0) → (IsTaken : List ℕ → Type 0) → List ℕ → Error → Type 0
IsPlaceFault IsFault IsTaken path e =
    IsFault e ⊎ IsOutOfMemory e ⊎ ((error_kind e ≡ kind.AlreadyExists) × (beside : List ℕ) × IsBeside path beside × IsTaken beside)

-- why the bytes went nowhere: the same, of the path or the one without links, or it leads to a folder
abbrev pub IsWriteFault : (IsFault : Error → Type 0) → (IsTaken : List ℕ → Type 0) → (Leads : Found → Type 0) → (IsReal : List ℕ → Type 0) → List ℕ → Error → Type 0
IsWriteFault IsFault IsTaken Leads IsReal path e =
    IsPlaceFault IsFault IsTaken path e ⊎ ((real : List ℕ) × IsReal real × IsPlaceFault IsFault IsTaken real e) ⊎ ((error_kind e ≡ kind.IsADirectory) × Leads Folder)
