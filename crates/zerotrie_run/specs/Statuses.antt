-- How a run ends, and its number.
use Rattle.std.specs.Prelude.{◌≡◌, ◌+◌, ◌||◌, ℕ, nat_lt, List, [], ◌∷◌, Bool, MatchBool, true, false, Option, Some, None, if◌then◌else◌}
use Rattle.zerotrie_files.specs.Faults.{Watched, Files}
use Rattle.zerotrie_making.specs.declared.error.MakeError.{MakeError}
use Rattle.zerotrie_making.specs.declared.error.MakeError.TheVariants as error
use Rattle.zerotrie_run.specs.declared.status.Status.{Status}
use Rattle.zerotrie_run.specs.declared.status.Status.TheVariants.{Done, Absent, Refused, Taken, BadUsage, BadInput, BadKeys, Unread, Unwritten, OutOfMemory, Closed}

-- 0 if all was found; 1 if a key is absent, no pair is listed, the keys of a build are refused, or its file is there already; 2 if words or bytes are not
-- what they should be; 3 if something failed; and 4 if whoever reads the output has closed it
abbrev pub number_of : Status → ℕ
number_of Done = 0
number_of Absent = 1
number_of Refused = 1
number_of Taken = 1
number_of BadUsage = 2
number_of BadInput = 2
number_of BadKeys = 2
number_of Unread = 3
number_of Unwritten = 3
number_of OutOfMemory = 3
number_of Closed = 4

-- the status with the greater number; if both have the same, the first
abbrev pub worse : Status → Status → Status
worse status next = if nat_lt (number_of status) (number_of next) then next else status

-- the worst of these
abbrev pub worst_of : Status → List Status → Status
worst_of worst [] = worst
worst_of worst (status ∷ statuses) = worst_of (worse worst status) statuses

-- whether nothing is run for another file if the worst is so: the words are wrong, which is told once, or the output is closed
abbrev pub ends_all : Status → Bool
ends_all Done = false
ends_all Absent = false
ends_all Refused = false
ends_all Taken = false
ends_all BadUsage = true
ends_all BadInput = false
ends_all BadKeys = false
ends_all Unread = false
ends_all Unwritten = false
ends_all OutOfMemory = false
ends_all Closed = true

-- the runs for the files from one on, up to this many, end so, each by a relation of the file's number, if this is the worst of those before:
-- one for each file, but none after the worst ends all
abbrev pub AreRunsFrom : (ℕ → Status → Type 0) → Status → (file files : ℕ) → List Status → Type 0
AreRunsFrom Runs worst file files [] = file ≡ files
AreRunsFrom Runs worst file files (status ∷ statuses) = Runs file status
    × MatchBool (ends_all (worse worst status)) (statuses ≡ []) (AreRunsFrom Runs (worse worst status) (file + 1) files statuses)

abbrev pub AreRuns : (ℕ → Status → Type 0) → ℕ → List Status → Type 0
AreRuns Runs files statuses = AreRunsFrom Runs Done 0 files statuses

-- how a run ends if its input makes no file; none if it is out of memory
abbrev pub made_refusal : MakeError → Option Status
made_refusal (error.NotText other) = Some BadInput
made_refusal (error.Line number bad) = Some BadInput
made_refusal (error.NotJson line column) = Some BadInput
made_refusal error.NotPairs = Some BadInput
made_refusal (error.NotPair bad) = Some BadInput
made_refusal (error.Keys shown) = Some Refused
made_refusal (error.SumTooLarge k) = Some Refused
made_refusal (error.Refused why) = Some Refused
made_refusal (error.IndexRefused why) = Some Refused
made_refusal error.OutOfMemory = None

-- how a run ends if something failed, by whether a read and a write did, and whether that was since the output is closed: if neither
-- did, it is out of memory
abbrev pub failure : (read write closed : Bool) → Status
failure true write closed = Unread
failure false false closed = OutOfMemory
failure false true true = Closed
failure false true false = Unwritten

-- how a run ends in which something failed, by what its streams and files noted
abbrev pub failure_of : {R W D : Type 0} → (input : Watched R) → (output : Watched W) → (files : Files D) → Status
failure_of input output files = failure (input.failed || files.unread) (output.failed || files.unwritten) (output.closed || files.closed)
