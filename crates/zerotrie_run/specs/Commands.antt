-- What each command does with its input, prints and leaves in files, and how it ends.
use Rattle.std.specs.Prelude.{◌≡◌, ◌⊎◌, ℕ, List, length, Option, Some, None, Bool, true, false, Result, Ok, Err, is_none, unwrap_or}
use Rattle.zerotrie_files.specs.Disks.{Story}
use Rattle.zerotrie_run.specs.Runs.{World, AreAllFiles, AreFiles, AreOneStream, HaveTwoStreams, IsDoubtful, LeavesInputOf, RunsAsk, RunsBuild, ask_refusal, of_lines}
use Rattle.zerotrie_run.specs.Diffs.{IsEitherDoubtful, RunsDiff}
use Rattle.zerotrie_run.specs.Combined.{RunsCombine}
use Rattle.zerotrie_run.specs.Makings.{making_refusal}
use Rattle.zerotrie_run.specs.declared.command.Command.{Command}
use Rattle.zerotrie_run.specs.declared.command.Command.TheVariants as commands
use Rattle.zerotrie_run.specs.declared.command.Place.TheVariants.{Stream}
use Rattle.zerotrie_run.specs.declared.command.Summary.{Summary}
use Rattle.zerotrie_run.specs.declared.command.Summary.TheVariants.{Never, IfEmpty, Always}
use Rattle.zerotrie_run.specs.declared.status.Status.{Status}
use Rattle.zerotrie_run.specs.declared.status.Status.TheVariants.{Done, Absent, BadUsage, OutOfMemory}
use Rattle.zerotrie_run.specs.declared.error.CommandError.{CommandError}
use Rattle.zerotrie_run.specs.declared.error.CommandError.TheVariants as error

-- a command reads a file of bare bytes that begins with the number of a kind, which is told
abbrev pub TellsNumber : Command → Option (List ℕ) → Option Story → Type 0
TellsNumber (commands.Build build) input files = ⊥
TellsNumber (commands.Ask file question) input files = IsDoubtful file input files
TellsNumber (commands.Diff diff) input files = IsEitherDoubtful diff input files
TellsNumber (commands.Combine c) input files = ⊥

-- the file and the keys of a command are both standard input, or two of its files are
abbrev pub ReadsTwice : Command → Type 0
ReadsTwice (commands.Build build) = ⊥
ReadsTwice (commands.Ask file question) = (file.place ≡ Stream) × (of_lines question ≡ true)
ReadsTwice (commands.Diff diff) = AreOneStream diff.old diff.new
ReadsTwice (commands.Combine c) = HaveTwoStreams c.from.now

-- how many files and streams a command reads
abbrev pub inputs : Command → ℕ
inputs (commands.Build build) = 1
inputs (commands.Ask file question) = 1
inputs (commands.Diff diff) = 2
inputs (commands.Combine c) = length c.from.now

-- a command that is refused so, or is not, doesn't read standard input
abbrev pub LeavesInputBy : Command → Option Status → Type 0
LeavesInputBy (commands.Build build) refusal = build.from ≡ Stream → ⊥
LeavesInputBy (commands.Ask file question) refusal = LeavesInputOf file question refusal
LeavesInputBy (commands.Diff diff) refusal = (refusal ≡ Some BadUsage) ⊎ AreFiles diff.old diff.new
LeavesInputBy (commands.Combine c) refusal = (refusal ≡ Some BadUsage) ⊎ AreAllFiles c.from.now

-- a command that ends so doesn't
abbrev pub LeavesInput : Command → Status → Type 0
LeavesInput command status = LeavesInputBy command (Some status)

-- whether what was made may be told
abbrev pub may_tell : Summary → Bool
may_tell Never = false
may_tell IfEmpty = true
may_tell Always = true

-- whether what a command made may be
abbrev pub tells_made : Command → Bool
tells_made (commands.Build build) = may_tell build.summary
tells_made (commands.Ask file question) = false
tells_made (commands.Diff diff) = false
tells_made (commands.Combine c) = may_tell c.summary

-- how a command ends, what it printed, and what it left in files
abbrev pub Runs : Command → Option (List ℕ) → World → World → Status → Type 0
Runs (commands.Build build) input before after status = RunsBuild build input before after status
Runs (commands.Ask file question) input before after status = (after.files ≡ before.files) × RunsAsk file question input before.files before.printed after.printed status
Runs (commands.Diff diff) input before after status = (after.files ≡ before.files) × RunsDiff diff input before.files before.printed after.printed status
Runs (commands.Combine c) input before after status = RunsCombine c input before after status

-- how a run ends in which nothing failed, by whether all was found
abbrev pub found : Bool → Status
found true = Done
found false = Absent

-- how a run ends if its command is refused; none if something failed
abbrev pub command_refusal : CommandError → Option Status
command_refusal (error.Build build e) = making_refusal e
command_refusal (error.Ask file question e) = ask_refusal e
command_refusal (error.Diff diff e) = ask_refusal e.error
command_refusal (error.Combine c e) = making_refusal e

-- the same of a command that may have come to its end
abbrev pub refusal_of : Result Bool CommandError → Option Status
refusal_of (Ok all) = None
refusal_of (Err e) = command_refusal e

-- whether something failed: a command neither came to its end nor was refused
abbrev pub command_fails : Result Bool CommandError → Bool
command_fails (Ok all) = false
command_fails (Err e) = is_none (command_refusal e)

-- how a command ends if it is refused so, or if only that something failed is known
abbrev pub Ends : Command → Option (List ℕ) → World → World → Option Status → Type 0
Ends command input before after refusal = Runs command input before after (unwrap_or refusal OutOfMemory)
