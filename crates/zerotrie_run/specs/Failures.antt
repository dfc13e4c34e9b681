-- What failed: an error that says that a call did is of one that did, as its stream or the files noted, or of want of memory.
use Rattle.std.specs.Prelude.{◌≡◌, ◌⊎◌, true}
use Rattle.std.specs.declared.io.Error.{Error}
use Rattle.zerotrie_files.specs.Faults.{Watched, Files, IsOutOfMemory}
use Rattle.zerotrie_run.specs.declared.ask.AskError.{AskError}
use Rattle.zerotrie_run.specs.declared.ask.AskError.TheVariants as ask
use Rattle.zerotrie_run.specs.declared.making.MakingError.{MakingError}
use Rattle.zerotrie_run.specs.declared.making.MakingError.TheVariants as making
use Rattle.zerotrie_run.specs.declared.stdin_lines.AnswerError.{AnswerError}
use Rattle.zerotrie_run.specs.declared.stdin_lines.AnswerError.TheVariants.{Input, NoLines, Output}

-- a read of the input or of a file failed
abbrev pub ReadFailed : {R D : Type 0} → Watched R → Files D → Type 0
ReadFailed input files = (input.failed ≡ true) ⊎ (files.unread ≡ true)

-- a write to the output or a replacement of a file failed
abbrev pub WriteFailed : {W D : Type 0} → Watched W → Files D → Type 0
WriteFailed output files = (output.failed ≡ true) ⊎ (files.unwritten ≡ true)

-- one of these failed as whoever reads has closed the pipe
abbrev pub WasClosed : {W D : Type 0} → Watched W → Files D → Type 0
WasClosed output files = (output.closed ≡ true) ⊎ (files.closed ≡ true)

-- an error is of what failed, or of want of memory
abbrev pub IsFailureOf : Type 0 → Error → Type 0
IsFailureOf failed e = IsOutOfMemory e ⊎ failed

-- the same of an error that there is no answer
abbrev pub AnswerFailed : (read write : Type 0) → AnswerError → Type 0
AnswerFailed read write (Input e) = IsFailureOf read e
AnswerFailed read write (NoLines other) = Unit {0}
AnswerFailed read write (Output e) = IsFailureOf write e

-- of one that a question has none
abbrev pub AskFailed : (read write : Type 0) → AskError → Type 0
AskFailed read write (ask.Unread e) = IsFailureOf read e
AskFailed read write (ask.NoTrie why hint) = Unit {0}
AskFailed read write (ask.Unprintable form key) = Unit {0}
AskFailed read write (ask.Unanswered e) = AnswerFailed read write e

-- of one that no file is made
abbrev pub MakingFailed : (read write : Type 0) → MakingError → Type 0
MakingFailed read write making.Taken = Unit {0}
MakingFailed read write (making.Unfound e) = IsFailureOf read e
MakingFailed read write (making.Unread place e) = IsFailureOf read e
MakingFailed read write (making.NoTrie place why hint) = Unit {0}
MakingFailed read write (making.NotMade e) = Unit {0}
MakingFailed read write (making.Unwritten e) = IsFailureOf write e
