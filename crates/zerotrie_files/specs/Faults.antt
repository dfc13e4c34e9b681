-- What failed, and what clauses see of files and streams that note it.
use Rattle.std.specs.Prelude.{◌≡◌, ◌⊎◌, ℕ, Bool, true, Result, Ok, Err}
use Rattle.std.specs.IoError.{error_kind}
use Rattle.std.specs.declared.io.Error.{Error}
use Rattle.std.specs.declared.io.ErrorKind.TheVariants as kind

-- it is out of memory
abbrev pub IsOutOfMemory : Error → Type 0
IsOutOfMemory e = error_kind e ≡ kind.OutOfMemory

-- a call failed, and not for want of memory
abbrev pub IsFault : {T : Type 0} → Result T Error → Type 0
IsFault (Ok value) = ⊥
IsFault (Err e) = IsOutOfMemory e → ⊥

-- what a call notes of whether one failed: nothing new, or after an error that it did, unless memory is wanting
abbrev pub IsNoted : {T : Type 0} → Result T Error → Bool → Bool → Type 0
IsNoted (Ok value) old new = new ≡ old
IsNoted (Err e) old new = IsOutOfMemory e ⊎ (new ≡ true)

-- a write failed, as whoever reads has closed the pipe
abbrev pub IsClosed : {T : Type 0} → Result T Error → Type 0
IsClosed (Ok value) = ⊥
IsClosed (Err e) = error_kind e ≡ kind.BrokenPipe

-- a reader or writer itself, whether some call of it failed, and whether some write did as whoever reads has closed the pipe
pub record Watched (T : Type 0) : Type 0 where
  pub inner : T
  pub failed : Bool
  pub closed : Bool

-- a disk, how many of its files were opened to be read, whether some read and some replacement on it failed, and whether a replacement did as whoever reads has closed the pipe
pub record Files (D : Type 0) : Type 0 where
  pub disk : D
  pub opened : ℕ
  pub unread : Bool
  pub unwritten : Bool
  pub closed : Bool
