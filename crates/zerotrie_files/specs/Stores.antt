-- What files hold before and after one of them is replaced.
use Rattle.std.specs.Prelude.{◌≡◌, ◌≢◌, ◌⊎◌, ℕ, List, [], ◌++◌, length, take, Option, Some, None, Result, MatchResult, Bool, false, ◌||◌, eqb, codes, decimal}
use Rattle.std.specs.List.{starts_with}
use Rattle.std.specs.Path.{slash}
use Rattle.std.specs.Str.Iter.{LacksByte}
use Rattle.zerotrie_sealed.specs.Sealed.{magic}
use Rattle.zerotrie_files.specs.Disks.{Files, Story, Passes, Same, Gone}

-- the name of a new file, which only the program gives: `.NAME.zerotrie-PROCESS-NUMBER`
abbrev pub own_name : List ℕ → ℕ → ℕ → List ℕ
own_name name process number = codes "." ++ name ++ codes ".zerotrie-" ++ decimal process ++ codes "-" ++ decimal number

-- The other path is in the folder of the path, and has such a name, by the name of the file of the path.
pub record IsOwnPath (path : List ℕ) (process number : ℕ) (other : List ℕ) : Type 0 where
  pub folder : List ℕ
  pub name : List ℕ
  pub split : path ≡ folder ++ name
  pub ends : (folder ≡ []) ⊎ ((above : List ℕ) × (folder ≡ above ++ codes "/"))
  pub last : LacksByte slash name
  pub is : other ≡ folder ++ own_name name process number

-- the other path is that of a new file beside the file of the path
abbrev pub IsBeside : List ℕ → List ℕ → Type 0
IsBeside path other = (process : ℕ) × (number : ℕ) × IsOwnPath path process number other

-- these are the bytes of a file that a killed build left: none, or they begin with the magic of sealed files, or are a beginning of it
abbrev pub AreLeft : List ℕ → Type 0
AreLeft bytes = take (length (take 8 bytes)) magic ≡ take 8 bytes

-- a build may take the path of this file or remove it: there is none, or a killed build left it
abbrev pub MayGo : Option (List ℕ) → Type 0
MayGo None = Unit {0}
MayGo (Some bytes) = AreLeft bytes

-- the file of the other path is as it was; or it is beside that of the path, a killed build left it, and it is gone
abbrev pub IsCleared : (path other : List ℕ) → Files → Files → Type 0
IsCleared path other old new = (new other ≡ old other) ⊎ ((new other ≡ None) × MayGo (old other) × IsBeside path other)

-- all files are as they were, but for some that killed builds left beside that of the path, which are gone
abbrev pub Cleared : List ℕ → Files → Files → Type 0
Cleared path old new = (other : List ℕ) → IsCleared path other old new

-- if a killed build left a file it is removed, with no moment between before and after, or it stays
abbrev pub RemovesLeft : List ℕ → Story → Story → Type 0
RemovesLeft path old new = Passes (λ files. Same old.now files ⊎ (Gone path old.now files × MayGo (old.now path))) old new

-- files that killed builds left beside that of the path are removed, one after another, or some of them
abbrev pub Clears : List ℕ → Story → Story → Type 0
Clears path old new = Passes (Cleared path old.now) old new

-- the file of the path holds the bytes, and all others what they held, but for some that killed builds left beside it, which are gone
abbrev pub HoldsCleared : List ℕ → List ℕ → Files → Files → Type 0
HoldsCleared path bytes old new = (new path ≡ Some bytes) × ((other : List ℕ) → other ≢ path → IsCleared path other old new)

-- the file of the other path is as it was, or it is beside that of the path, where there was no file or one that a killed build left
abbrev pub IsSpared : (path other : List ℕ) → Files → Files → Type 0
IsSpared path other old new = (new other ≡ old other) ⊎ (MayGo (old other) × IsBeside path other)

-- all files hold what they held, but for some that killed builds left beside that of the path, which are gone; only if a removal failed,
-- a new one may be left there
abbrev pub Kept : List ℕ → Story → Story → Type 0
Kept path old new = (new.now path ≡ old.now path) × (new.unremoved ≡ false → Cleared path old.now new.now)
    × ((other : List ℕ) → IsSpared path other old.now new.now)

-- the file of the path holds the bytes, and the files of all other paths what they held; or it failed, and all files hold what they held;
-- either way some are gone that killed builds left
abbrev pub Rewrites : {T E : Type 0} → List ℕ → List ℕ → Result T E → Story → Story → Type 0
Rewrites path bytes result old new = MatchResult result (λ _. HoldsCleared path bytes old.now new.now) (λ _. Kept path old new)

-- The file of the path holds what it held or all of the bytes, and the files of all other paths what they held, but that there may be
-- new ones beside it, and none where a killed build left one.
pub record IsWholeAlone (path bytes : List ℕ) (old new : Files) : Type 0 where
  pub whole : (new path ≡ old path) ⊎ (new path ≡ Some bytes)
  pub others : (other : List ℕ) → other ≢ path → IsSpared path other old new

-- a file is replaced by way of new ones beside it: it is whole at each moment, and in the end it is rewritten
abbrev pub ReplacesBeside : {T E : Type 0} → List ℕ → List ℕ → Result T E → Story → Story → Type 0
ReplacesBeside path bytes result old new = Passes (IsWholeAlone path bytes old.now) old new × Rewrites path bytes result old new

-- it was replaced: in the end it holds the bytes
abbrev pub WasReplaced : List ℕ → List ℕ → Story → Story → Type 0
WasReplaced path bytes old new = Passes (IsWholeAlone path bytes old.now) old new × HoldsCleared path bytes old.now new.now

-- it could not be: in the end all files hold what they held
abbrev pub WasKept : List ℕ → List ℕ → Story → Story → Type 0
WasKept path bytes old new = Passes (IsWholeAlone path bytes old.now) old new × Kept path old new

-- whether a path is that of an open file of a process
abbrev pub names_open_file : List ℕ → Bool
names_open_file path = starts_with eqb path (codes "/dev/fd/") || starts_with eqb path (codes "/dev/std") || starts_with eqb path (codes "/proc/")
