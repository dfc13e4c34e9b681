-- A disk from moment to moment, and what the calls that replace a file do to it.
use Rattle.std.specs.Prelude.{◌≡◌, ◌≢◌, ◌⊎◌, ℕ, ◌+◌, ◌<◌, Bool, true, false, List, ◌++◌, length, take, drop, All, Option, Some, None, Result, MatchBool, MatchResult, OnOk}
use Rattle.std.specs.declared.io.Error.{Error}
use Rattle.zerotrie_files.specs.Faults.{IsOutOfMemory}
use Rattle.zerotrie_files.specs.declared.found.Found.{Found}
use Rattle.zerotrie_files.specs.declared.found.Found.TheVariants.{Nothing, File, Folder, Stream}

-- what the file of each path holds, if there is one; each path is a file of its own, so links are left out
abbrev pub Files : Type 0
Files = List ℕ → Option (List ℕ)

-- What the files of a disk hold, what they held at each moment up to now, and whether a removal failed.
pub record Story : Type 0 where
  pub now : Files
  pub moments : List Files
  pub unremoved : Bool

-- the fact holds of a disk, or of its files, before a call and after it, if anything is known of it
abbrev pub Known : {A : Type 0} → Option A → Option A → (A → A → Type 0) → Type 0
Known None new Fact = Unit {0}
Known (Some old) None Fact = ⊥
Known (Some old) (Some new) Fact = Fact old new

-- Time passes for the disk, and at each moment up to the last the fact holds of its files.
pub record Passes (Fact : Files → Type 0) (old new : Story) : Type 0 where
  pub between : List Files
  pub is : new.moments ≡ old.moments ++ between
  pub each : All Fact between
  pub ends : Fact new.now

-- the files of all other paths are as they were
abbrev pub SameBeside : List ℕ → Files → Files → Type 0
SameBeside path old new = (other : List ℕ) → other ≢ path → new other ≡ old other

-- all files are as they were
abbrev pub Same : Files → Files → Type 0
Same old new = (path : List ℕ) → new path ≡ old path

-- no file changes at any moment
abbrev pub Stays : Story → Story → Type 0
Stays old new = Passes (Same old.now) old new

-- A file has another path, and those of all others are as they were.
pub record Moved (from to : List ℕ) (old new : Files) : Type 0 where
  pub there : new to ≡ old from
  pub gone : from ≢ to → new from ≡ None
  pub others : (other : List ℕ) → other ≢ from → other ≢ to → new other ≡ old other

-- if there was a file at the path, no file changes
abbrev pub Spares : List ℕ → Story → Story → Type 0
Spares path old new = old.now path ≢ None → Stays old new

-- there is a file at the path, and no file changes
abbrev pub IsTaken : List ℕ → Story → Story → Type 0
IsTaken path old new = (old.now path ≢ None) × Stays old new

-- an empty file is made: other files stay at each moment; if the path was free, there was no file at it; else there is one, and no
-- file changes, nor does one change if it fails
abbrev pub Makes : {E : Type 0} → List ℕ → Result Bool E → Story → Story → Type 0
Makes path result old new = Passes (SameBeside path old.now) old new
    × MatchResult result (λ free. MatchBool free (old.now path ≡ None) (IsTaken path old new)) (λ _. Stays old new)

-- a file is filled: other files stay at each moment, and if all went well it holds the bytes
abbrev pub Fills : {T E : Type 0} → List ℕ → List ℕ → Result T E → Story → Story → Type 0
Fills path bytes result old new = Passes (SameBeside path old.now) old new × OnOk result (new.now path ≡ Some bytes)

-- a file is given another path, with no moment between before and after
abbrev pub Renames : {T E : Type 0} → List ℕ → List ℕ → Result T E → Story → Story → Type 0
Renames from to result old new = Passes (λ files. Same old.now files ⊎ Moved from to old.now files) old new
    × MatchResult result (λ _. Moved from to old.now new.now) (λ _. Same old.now new.now)

-- a file is removed: other files stay at each moment; if all went well there is none at the path, else a removal failed
abbrev pub Removes : {T E : Type 0} → List ℕ → Result T E → Story → Story → Type 0
Removes path result old new = Passes (SameBeside path old.now) old new
    × MatchResult result (λ _. new.now path ≡ None) (λ _. new.unremoved ≡ true)

-- there is no file at the path any more, and those of all others are as they were
abbrev pub Gone : List ℕ → Files → Files → Type 0
Gone path old new = (new path ≡ None) × SameBeside path old new

-- a file that is held is removed, with no moment between before and after
abbrev pub RemovesHeld : {T E : Type 0} → List ℕ → Result T E → Story → Story → Type 0
RemovesHeld path result old new = Passes (λ files. Same old.now files ⊎ Gone path old.now files) old new
    × MatchResult result (λ _. Gone path old.now new.now) (λ _. Same old.now new.now)

-- all files are as they were, unless a removal failed
abbrev pub Restores : Story → Story → Type 0
Restores old new = new.unremoved ≡ false → Same old.now new.now

-- The file of the path holds what it held or all of the bytes, and the files of other paths are as they were, but for
-- the path beside it.
pub record IsWhole (path beside bytes : List ℕ) (old new : Files) : Type 0 where
  pub whole : (new path ≡ old path) ⊎ (new path ≡ Some bytes)
  pub others : (other : List ℕ) → other ≢ path → other ≢ beside → new other ≡ old other

-- the file of the path holds the bytes, and the files of all other paths what they held
abbrev pub Holds : List ℕ → List ℕ → Files → Files → Type 0
Holds path bytes old new = (new path ≡ Some bytes) × SameBeside path old new

-- a new file is filled and takes the path: it is whole at each moment; if all went well, the file of the path holds the bytes, and there
-- is none beside it; else it holds what it held
abbrev pub TakesPath : {T E : Type 0} → List ℕ → List ℕ → List ℕ → Result T E → Story → Story → Type 0
TakesPath path beside bytes result old new = Passes (IsWhole path beside bytes old.now) old new
    × MatchResult result (λ _. (new.now path ≡ Some bytes) × (new.now beside ≡ None)) (λ _. new.now path ≡ old.now path)

-- a file is replaced: it is whole at each moment; if the path beside it was free, the file holds the bytes, and all others what
-- they held; else there is a file beside it, and no file changes; if it fails, all files hold what they held, unless a removal
-- failed, and the file of the path does so even then; and if there is a file beside it, no file changes
abbrev pub Replaces : {E : Type 0} → List ℕ → List ℕ → List ℕ → Result Bool E → Story → Story → Type 0
Replaces path beside bytes result old new = Passes (IsWhole path beside bytes old.now) old new
    × MatchResult result
    (λ free. MatchBool free ((old.now beside ≡ None) × Holds path bytes old.now new.now) (IsTaken beside old new))
    (λ _. (new.now path ≡ old.now path) × Restores old new × Spares beside old new)

-- what a path leads to, by what its file holds: to nothing if there is none
abbrev pub IsFound : Option (List ℕ) → Found → Type 0
IsFound held Nothing = held ≡ None
IsFound held (File mode) = held ≢ None
IsFound held Folder = held ≢ None
IsFound held Stream = held ≢ None

-- these are the first 8 bytes of the file, or all if it has fewer
abbrev pub IsFront : List ℕ → List ℕ → Story → Type 0
IsFront path front known = (bytes : List ℕ) × (known.now path ≡ Some bytes) × (front ≡ take 8 bytes)

-- the file of the path is open, and it is known what it has
abbrev pub IsOpen : (path : List ℕ) → (held : Option (List ℕ)) → Story → Type 0
IsOpen path held known = (bytes : List ℕ) × (known.now path ≡ Some bytes) × (held ≡ Some bytes)

-- why a file is not opened: there is none, or it is out of memory
abbrev pub IsUnread : List ℕ → Error → Story → Type 0
IsUnread path e known = (known.now path ≡ None) ⊎ IsOutOfMemory e

-- these are as many of the bytes from the place on
abbrev pub IsPartFrom : (place : ℕ) → (part bytes : List ℕ) → Type 0
IsPartFrom place part bytes = part ≡ take (length part) (drop place bytes)

-- why this many of the bytes are not read from the place on: they are fewer, or it is out of memory
abbrev pub IsPartUnread : (place count : ℕ) → Error → (bytes : List ℕ) → Type 0
IsPartUnread place count e bytes = (length bytes < place + count) ⊎ IsOutOfMemory e

-- there is no stream: it fails, and no file changes
abbrev pub HasNoStream : {T E : Type 0} → Result T E → Story → Story → Type 0
HasNoStream result old new = OnOk result ⊥ × Stays old new
