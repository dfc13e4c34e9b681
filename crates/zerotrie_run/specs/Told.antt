-- What is told of a run on standard error.
use Rattle.std.specs.Prelude.{◌≡◌, ◌⊎◌, ◌==◌, ℕ, nat_lt, List, [], ◌++◌, length, Any, ◌&&◌, Option, Some, Bool, true, false, Result, Ok, Err, Vec, codes}
use Rattle.std.specs.Io.KnownBytes.{Appends}
use Rattle.zerotrie_files.specs.Disks.{Story}
use Rattle.zerotrie_queries.specs.declared.file.OpenError.{OpenError}
use Rattle.zerotrie_queries.specs.declared.print.Form.{Form}
use Rattle.zerotrie_run.specs.Fronts.{IsHint}
use Rattle.zerotrie_run.specs.declared.front.Hint.{Hint}
use Rattle.zerotrie_making.specs.Made.{IsMade}
use Rattle.zerotrie_making.specs.Made as made
use Rattle.zerotrie_making.specs.declared.error.MakeError.{MakeError}
use Rattle.zerotrie_making.specs.Combinations.{ExplainsMaps}
use Rattle.zerotrie_making.specs.declared.error.CombinationError.{CombinationError}
use Rattle.zerotrie_making.specs.declared.others.OtherFile.{OtherFile}
use Rattle.zerotrie_making.specs.declared.plan.FileForm.{FileForm}
use Rattle.zerotrie_making.specs.declared.plan.FileForm.TheVariants as form
use Rattle.zerotrie_making.specs.declared.plan.Made.{Made}
use Rattle.zerotrie_core.specs.declared.TrieKind.{TrieKind}
use Rattle.zerotrie_run.specs.Statuses.{made_refusal}
use Rattle.zerotrie_run.specs.Messages.{IsLine, IsLineOn, IsNumberLine, TellsAsk, TellsMade, TellsMakingError, TellsNoTrie, TellsUnmade, kind_line, made_line, no_keys_line, removed_line, source_name, taken_line, target_name, unit_of, unprintable_line}
use Rattle.zerotrie_run.specs.Runs.{IsRead, IsUnasked, IsUnopened, IsUnprinted, HasNoLines, HasNumberToo}
use Rattle.zerotrie_run.specs.Diffs.{IsFileOf, NotesNumbers}
use Rattle.zerotrie_run.specs.declared.command.Diff.{Diff}
use Rattle.zerotrie_run.specs.declared.diff.DiffError.{DiffError}
use Rattle.zerotrie_run.specs.Combined.{OfFiles, file_of, unmade_refusal}
use Rattle.zerotrie_run.specs.Makings.{HasMakingCause, IsMadeBy, OfBuild, OfRead, of_combine}
use Rattle.zerotrie_run.specs.Commands.{may_tell}
use Rattle.zerotrie_run.specs.declared.status.Status.{Status}
use Rattle.zerotrie_run.specs.declared.status.Status.TheVariants.{Done, Absent, Refused, Taken, BadUsage, BadInput, BadKeys, Unread, Unwritten, OutOfMemory, Closed}
use Rattle.zerotrie_run.specs.declared.command.Build.{Build}
use Rattle.zerotrie_run.specs.declared.command.Command.{Command}
use Rattle.zerotrie_run.specs.declared.command.Command.TheVariants as commands
use Rattle.zerotrie_run.specs.declared.command.Place.{Place}
use Rattle.zerotrie_run.specs.declared.command.Summary.{Summary}
use Rattle.zerotrie_run.specs.declared.command.Summary.TheVariants.{Never, IfEmpty, Always}
use Rattle.zerotrie_run.specs.declared.command.TrieFile.{TrieFile}
use Rattle.zerotrie_run.specs.declared.command.Question.{Question}
use Rattle.zerotrie_run.specs.declared.command.Question.TheVariants.{Verify}
use Rattle.zerotrie_run.specs.declared.command.Combine.{Combine}
use Rattle.zerotrie_run.specs.declared.ask.AskError.{AskError}
use Rattle.zerotrie_run.specs.declared.ask.AskError.TheVariants as ask
use Rattle.zerotrie_run.specs.declared.stdin_lines.AnswerError.TheVariants.{Input, NoLines, Output}
use Rattle.zerotrie_run.specs.declared.making.Making.{Making}
use Rattle.zerotrie_run.specs.declared.making.Recipe.{Recipe}
use Rattle.zerotrie_run.specs.declared.making.Recipe.TheVariants.{Pairs, Tries}
use Rattle.zerotrie_run.specs.declared.messages.pairs.PairUnit.TheVariants as unit
use Rattle.zerotrie_run.specs.declared.error.CommandError.{CommandError}
use Rattle.zerotrie_run.specs.declared.error.CommandError.TheVariants as error

-- some words were told, or none
abbrev pub TellsMore : (old new : Option (List ℕ)) → Type 0
TellsMore old new = (words : List ℕ) × Appends old new words

-- a text was told last
abbrev pub ToldLast : (old new : Option (List ℕ)) → List ℕ → Type 0
ToldLast old new text = (words : List ℕ) × Appends old new (words ++ text)

-- a line was
abbrev pub LineTold : (old new : Option (List ℕ)) → Type 0
LineTold old new = (text : List ℕ) × IsLine text × ToldLast old new text

-- a line on the place of this name was
abbrev pub ToldOf : List ℕ → (old new : Option (List ℕ)) → Type 0
ToldOf place old new = (text : List ℕ) × IsLineOn place text × ToldLast old new text

-- messages name a stream so
abbrev pub IsStream : List ℕ → Type 0
IsStream name = (name ≡ codes "standard input") ⊎ (name ≡ codes "standard output")

-- they name a place so that a command reads or writes
abbrev pub IsPlaceOf : Command → List ℕ → Type 0
IsPlaceOf (commands.Build build) name = (name ≡ source_name build.from) ⊎ (name ≡ target_name build.to)
IsPlaceOf (commands.Ask file question) name = (name ≡ source_name file.place) ⊎ IsStream name
IsPlaceOf (commands.Diff diff) name = (name ≡ source_name diff.old) ⊎ (name ≡ source_name diff.new) ⊎ IsStream name
IsPlaceOf (commands.Combine c) name = Any (λ place. name ≡ source_name place) c.from.now ⊎ (name ≡ target_name c.to)

-- a line on such a place was told last
abbrev pub PlaceTold : Command → (old new : Option (List ℕ)) → Type 0
PlaceTold command old new = (name : List ℕ) × IsPlaceOf command name × ToldOf name old new

-- why a question has no answer is so of what was read of the file, which has no trie for such a reason
abbrev pub HasReason : (List ℕ → OpenError → Type 0) → TrieFile → Question → Option (List ℕ) → Option Story → AskError → Type 0
HasReason IsWhy file question input files (ask.Unread e) = Unit {0}
HasReason IsWhy file question input files (ask.NoTrie why hint) = (held : List ℕ) × IsRead file.place input files held × IsWhy held why × IsHint held hint
HasReason IsWhy file question input files (ask.Unanswered (Input e)) = Unit {0}
HasReason IsWhy file question input files (ask.Unanswered (NoLines other)) = HasNoLines question input other
HasReason IsWhy file question input files (ask.Unanswered (Output e)) = Unit {0}
HasReason IsWhy file question input files (ask.Unprintable form key) = IsUnprinted file question input files form key.items

-- why two files were not compared is so of what was read of one of them
abbrev pub HasDiffReason : Diff → Option (List ℕ) → Option Story → DiffError → Type 0
HasDiffReason diff input files e = IsFileOf diff e.file × HasReason (IsUnopened e.file) e.file Verify input files e.error

-- why a command was not carried out is so of what it was to do and what was read
abbrev pub HasCommandCause : Command → Option (List ℕ) → Option Story → CommandError → Type 0
HasCommandCause command input files (error.Build build e) = (command ≡ commands.Build build) × OfBuild build (λ m. HasMakingCause m input files e)
HasCommandCause command input files (error.Ask file question e) =
    (command ≡ commands.Ask file question) × HasReason (IsUnasked file question) file question input files e
HasCommandCause command input files (error.Diff diff e) = (command ≡ commands.Diff diff) × HasDiffReason diff input files e
HasCommandCause command input files (error.Combine c e) = (command ≡ commands.Combine c) × HasMakingCause (of_combine c) input files e

-- a line tells why
abbrev pub TellsCommand : CommandError → List ℕ → Type 0
TellsCommand (error.Build build e) text = TellsMakingError (source_name build.from) (unit_of build.plan.read.source) (target_name build.to) e text
TellsCommand (error.Ask file question e) text = TellsAsk file e text
TellsCommand (error.Diff diff e) text = TellsAsk e.file e.error text
TellsCommand (error.Combine c e) text = TellsMakingError (target_name c.to) unit.Pair (target_name c.to) e text

-- a line on the file is told if it is read as bare bytes and begins with the number of a kind
abbrev pub NotesNumber : TrieFile → Option (List ℕ) → Option Story → (old new : Option (List ℕ)) → Type 0
NotesNumber file input files old new = (held : List ℕ) × IsRead file.place input files held
    × (HasNumberToo file.bare held → (text : List ℕ) × IsNumberLine (source_name file.place) text × Appends old new text)

-- whether a file with this many keys is told
abbrev pub is_told : Summary → ℕ → Bool
is_told Never keys = false
is_told IfEmpty keys = keys == 0
is_told Always keys = true

-- a file that was made is told or not
abbrev pub told_made : Bool → List ℕ → ℕ → ℕ → List ℕ
told_made true place keys len = made_line place keys len
told_made false place keys len = []

-- files that killed builds left and that were removed are told or not
abbrev pub told_removed : Bool → List ℕ → ℕ → List ℕ
told_removed true place removed = removed_line place removed
told_removed false place removed = []

-- how many files were removed that killed builds left beside that of the place is told, if there was one and the summary is not to tell
-- nothing
abbrev pub told_left : Summary → List ℕ → ℕ → List ℕ
told_left summary place removed = told_removed (nat_lt 0 removed && may_tell summary) place removed

-- these words were told, and then how many files were removed that killed builds left beside that of the place
abbrev pub TellsThenLeft : List ℕ → Summary → Place → (old new : Option (List ℕ)) → Type 0
TellsThenLeft words summary to old new = (removed : ℕ) × Appends old new (words ++ told_left summary (target_name to) removed)

-- what a build made is told, as its summary says: how many keys the file has, and how long it is
abbrev pub TellsDone : Build → Option (List ℕ) → Option Story → (old new : Option (List ℕ)) → Type 0
TellsDone build input files old new = (all : List ℕ) × IsRead build.from input files all × (file : Made) × IsMade build.plan all file
    × TellsThenLeft (told_made (is_told build.summary file.keys) (target_name build.to) file.keys (length file.file.items)) build.summary build.to old new

-- whether a file has a kind: an index has none
abbrev pub has_kind : FileForm → Bool
has_kind form.Sealed = true
has_kind form.Tagged = true
has_kind form.Bare = true
has_kind form.Index = false

-- the kind of a file is told or not
abbrev pub told_kind : Bool → List ℕ → TrieKind → List ℕ
told_kind true place kind = kind_line place kind
told_kind false place kind = []

-- what file a recipe makes
abbrev pub form_of : Recipe → FileForm
form_of (Pairs plan) = plan.file.form
form_of (Tries c) = c.form

-- what is told of a file that was made, by whether no kind is named for it and the tries of its files have several: of which kind it is,
-- unless it has none or nothing is to be told; and then how many keys it has, and how long it is, as the summary says
abbrev pub made_lines : Making → Bool → Made → List ℕ
made_lines m several file = told_kind (several && (may_tell m.summary && has_kind (form_of m.recipe))) (target_name m.to) file.kind
    ++ told_made (is_told m.summary file.keys) (target_name m.to) file.keys (length file.file.items)

-- what was made is told
abbrev pub TellsMaking : Making → Option (List ℕ) → Option Story → (old new : Option (List ℕ)) → Type 0
TellsMaking m input files old new = (file : Made) × (several : Bool) × OfRead m input files (λ held. IsMadeBy m.recipe held file several)
    × TellsThenLeft (made_lines m several file) m.summary m.to old new

-- what a combination made is told
abbrev pub TellsCombined : Combine → Option (List ℕ) → Option Story → (old new : Option (List ℕ)) → Type 0
TellsCombined c input files old new = TellsMaking (of_combine c) input files old new

-- a line tells why a file that was read has no trie, by its first fault
abbrev pub TellsUnopened : (List ℕ → OpenError → Type 0) → TrieFile → Option (List ℕ) → Option Story → (old new : Option (List ℕ)) → Type 0
TellsUnopened IsWhy file input files old new = (held : List ℕ) × IsRead file.place input files held
    × (why : OpenError) × IsWhy held why × (hint : Hint) × IsHint held hint × (text : List ℕ) × TellsNoTrie file why hint text × ToldLast old new text

-- a line tells why what was read is refused: which pairs of an input, or which fault in a trie
abbrev pub TellsRefusal : Command → Option (List ℕ) → Option Story → (old new : Option (List ℕ)) → Status → Type 0
TellsRefusal (commands.Build build) input files old new status = (all : List ℕ) × IsRead build.from input files all
    × (e : MakeError) × made.Explains build.plan all e × (made_refusal e ≡ Some status)
    × (text : List ℕ) × TellsMade (source_name build.from) (unit_of build.plan.read.source) e text × ToldLast old new text
TellsRefusal (commands.Ask file question) input files old new status = TellsUnopened (IsUnasked file question) file input files old new
TellsRefusal (commands.Diff diff) input files old new status = (file : TrieFile) × IsFileOf diff file × TellsUnopened (IsUnopened file) file input files old new
TellsRefusal (commands.Combine c) input files old new status = Any (λ place. TellsUnopened (IsUnopened (file_of place)) (file_of place) input files old new) c.from.now

-- a line tells what is refused: a build, or pairs with a key that can't be printed
abbrev pub TellsRefused : Command → Option (List ℕ) → Option Story → (old new : Option (List ℕ)) → Type 0
TellsRefused (commands.Build build) input files old new = TellsRefusal (commands.Build build) input files old new Refused
TellsRefused (commands.Ask file question) input files old new = (form : Form) × (key : List ℕ) × IsUnprinted file question input files form key
    × ToldLast old new (unprintable_line (source_name file.place) form key)
TellsRefused (commands.Diff diff) input files old new = ⊥
TellsRefused (commands.Combine c) input files old new =
    (e : CombinationError) × OfFiles c input files (λ maps. ExplainsMaps c.combination maps e) × (unmade_refusal e ≡ Some Refused)
    × (text : List ℕ) × TellsUnmade (target_name c.to) e text × ToldLast old new text

-- a line on standard input tells which other file it is, and not lines of keys
abbrev pub TellsNoLines : Command → Option (List ℕ) → (old new : Option (List ℕ)) → Type 0
TellsNoLines (commands.Build build) input old new = ⊥
TellsNoLines (commands.Ask file question) input old new = (other : OtherFile) × HasNoLines question input other
    × ToldLast old new (no_keys_line other)
TellsNoLines (commands.Diff diff) input old new = ⊥
TellsNoLines (commands.Combine c) input old new = ⊥

-- a line tells that the file to make is there already
abbrev pub TellsTaken : Command → (old new : Option (List ℕ)) → Type 0
TellsTaken (commands.Build build) old new = ToldLast old new (taken_line (target_name build.to))
TellsTaken (commands.Ask file question) old new = ⊥
TellsTaken (commands.Diff diff) old new = ⊥
TellsTaken (commands.Combine c) old new = ToldLast old new (taken_line (target_name c.to))

-- what is told last of a run that ends so; nothing if whoever reads the output has closed it
abbrev pub IsTold : Command → Option (List ℕ) → Option Story → (old new : Option (List ℕ)) → Status → Type 0
IsTold command input files old new Done = Unit {0}
IsTold command input files old new Absent = Unit {0}
IsTold command input files old new Refused = TellsRefused command input files old new
IsTold command input files old new Taken = TellsTaken command old new
IsTold command input files old new BadUsage = LineTold old new
IsTold command input files old new BadInput = TellsRefusal command input files old new BadInput
IsTold command input files old new BadKeys = TellsNoLines command input old new
IsTold command input files old new Unread = PlaceTold command old new
IsTold command input files old new Unwritten = PlaceTold command old new
IsTold command input files old new OutOfMemory = LineTold old new
IsTold command input files old new Closed = Unit {0}

-- what a run that succeeds tells
abbrev pub Notes : Command → Option (List ℕ) → Option Story → (old new : Option (List ℕ)) → Type 0
Notes (commands.Build build) input files old new = TellsDone build input files old new
Notes (commands.Ask file question) input files old new = NotesNumber file input files old new
Notes (commands.Diff diff) input files old new = NotesNumbers diff input files old new
Notes (commands.Combine c) input files old new = TellsCombined c input files old new

-- the text of the last message: that it is out of memory if there is no memory for another
abbrev pub last_text : {E A : Type 0} → Result (Vec ℕ A) E → List ℕ
last_text (Ok text) = text.items
last_text (Err e) = codes "zerotrie: out of memory\n"

-- how a run ends that is to end so, after this message
abbrev pub ended : {T E : Type 0} → Status → Result T E → Status
ended status (Ok text) = status
ended status (Err e) = OutOfMemory
