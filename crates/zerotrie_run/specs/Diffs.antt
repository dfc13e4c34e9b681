-- What comes of a command that compares the tries of two files.
use Rattle.std.specs.Prelude.{◌≡◌, ◌⊎◌, ℕ, List, Option, Some, None, Result, Ok, Err, Bool, true, false, is_none}
use Rattle.std.specs.Io.KnownBytes.{Appends}
use Rattle.zerotrie_core.specs.declared.TrieKind.{TrieKind}
use Rattle.zerotrie_files.specs.Disks.{Story}
use Rattle.zerotrie_queries.specs.Diffs.{AreCompared, AreComparedInPart}
use Rattle.zerotrie_run.specs.Fronts.{IsHint}
use Rattle.zerotrie_run.specs.Messages.{IsNumberLine, source_name}
use Rattle.zerotrie_run.specs.Runs.{AreOneStream, IsRead, IsRefusedUnread, Opens, IsUnopened, HasNoTrie, HasNumberToo, IsDoubtful, ask_refusal}
use Rattle.zerotrie_run.specs.declared.ask.AskError.{AskError}
use Rattle.zerotrie_run.specs.declared.ask.AskError.TheVariants as ask
use Rattle.zerotrie_run.specs.declared.stdin_lines.AnswerError.TheVariants.{Input, NoLines, Output}
use Rattle.zerotrie_run.specs.declared.command.Check.TheVariants.{Full}
use Rattle.zerotrie_run.specs.declared.command.Diff.{Diff}
use Rattle.zerotrie_run.specs.declared.command.TrieFile.{TrieFile}
use Rattle.zerotrie_run.specs.declared.diff.DiffError.{DiffError}
use Rattle.zerotrie_run.specs.declared.status.Status.{Status}
use Rattle.zerotrie_run.specs.declared.status.Status.TheVariants.{Done, Absent, Refused, Taken, BadUsage, BadInput, BadKeys, Unread, Unwritten, OutOfMemory, Closed}

-- the files that are compared: all bytes of each are tested
abbrev pub old_file : Diff → TrieFile
old_file diff = record { place = diff.old; bare = diff.bare; check = Full }

abbrev pub new_file : Diff → TrieFile
new_file diff = record { place = diff.new; bare = diff.bare; check = Full }

-- this is one of them
abbrev pub IsFileOf : Diff → TrieFile → Type 0
IsFileOf diff file = (file ≡ old_file diff) ⊎ (file ≡ new_file diff)

-- one of them is read as bare bytes and begins with the number of a kind
abbrev pub IsEitherDoubtful : Diff → Option (List ℕ) → Option Story → Type 0
IsEitherDoubtful diff input files = IsDoubtful (old_file diff) input files ⊎ IsDoubtful (new_file diff) input files

-- A file has these bytes of this kind: what was read of it.
pub record IsHeld (file : TrieFile) (input : Option (List ℕ)) (files : Option Story) (kind : TrieKind) (bytes : List ℕ) : Type 0 where
  pub held : List ℕ
  pub read : IsRead file.place input files held
  pub opens : Opens file held kind bytes

-- The tries of the two files were compared: their kinds and bytes, what was printed of their maps, and whether they have the same pairs.
pub record IsDiffed (diff : Diff) (input : Option (List ℕ)) (files : Option Story) (old new : Option (List ℕ)) (same : Bool) : Type 0 where
  pub kind : TrieKind
  pub bytes : List ℕ
  pub first : IsHeld (old_file diff) input files kind bytes
  pub other : TrieKind
  pub others : List ℕ
  pub second : IsHeld (new_file diff) input files other others
  pub compared : AreCompared kind bytes other others old new same

-- They were compared, and a beginning of that was printed.
pub record IsDiffedInPart (diff : Diff) (input : Option (List ℕ)) (files : Option Story) (old new : Option (List ℕ)) : Type 0 where
  pub kind : TrieKind
  pub bytes : List ℕ
  pub first : IsHeld (old_file diff) input files kind bytes
  pub other : TrieKind
  pub others : List ℕ
  pub second : IsHeld (new_file diff) input files other others
  pub begun : AreComparedInPart kind bytes other others old new

-- something failed: nothing was printed, or the tries were compared and a beginning of the lines was
abbrev pub FailsDiff : Diff → Option (List ℕ) → Option Story → (old new : Option (List ℕ)) → Type 0
FailsDiff diff input files old new = (new ≡ old) ⊎ IsDiffedInPart diff input files old new

-- How a comparison ends. The files have the same pairs or not, and the changes were printed; both are standard input; one of them has no
-- trie; or something failed.
abbrev pub RunsDiff : Diff → Option (List ℕ) → Option Story → (old new : Option (List ℕ)) → Status → Type 0
RunsDiff diff input files old new Done = IsDiffed diff input files old new true
RunsDiff diff input files old new Absent = IsDiffed diff input files old new false
RunsDiff diff input files old new Refused = ⊥
RunsDiff diff input files old new Taken = ⊥
RunsDiff diff input files old new BadUsage = AreOneStream diff.old diff.new × (new ≡ old)
RunsDiff diff input files old new BadInput = ((file : TrieFile) × IsFileOf diff file × HasNoTrie file input files) × (new ≡ old)
RunsDiff diff input files old new BadKeys = ⊥
RunsDiff diff input files old new Unread = FailsDiff diff input files old new
RunsDiff diff input files old new Unwritten = FailsDiff diff input files old new
RunsDiff diff input files old new OutOfMemory = FailsDiff diff input files old new
RunsDiff diff input files old new Closed = FailsDiff diff input files old new

-- the same, if only that something failed is known
abbrev pub EndsDiff : Diff → Option (List ℕ) → Option Story → (old new : Option (List ℕ)) → Option Status → Type 0
EndsDiff diff input files old new None = FailsDiff diff input files old new
EndsDiff diff input files old new (Some status) = RunsDiff diff input files old new status

-- whether a comparison failed: it neither came to its end nor was refused
abbrev pub diff_fails : {A : Type 0} → Result A DiffError → Bool
diff_fails (Ok done) = false
diff_fails (Err e) = is_none (ask_refusal e.error)

-- what is told of a file, by what was read of it: a line on it if it is read as bare bytes and begins with the number of a kind, and nothing if not
pub record TellsIfDoubtful (file : TrieFile) (held : List ℕ) (old new : Option (List ℕ)) : Type 0 where
  pub line : HasNumberToo file.bare held → (text : List ℕ) × IsNumberLine (source_name file.place) text × Appends old new text
  pub none : (HasNumberToo file.bare held → ⊥) → new ≡ old

-- What a comparison tells that comes to its end.
pub record NotesNumbers (diff : Diff) (input : Option (List ℕ)) (files : Option Story) (old new : Option (List ℕ)) : Type 0 where
  pub held : List ℕ
  pub read : IsRead diff.old input files held
  pub other : List ℕ
  pub read_other : IsRead diff.new input files other
  pub between : Option (List ℕ)
  pub first : TellsIfDoubtful (old_file diff) held old between
  pub second : TellsIfDoubtful (new_file diff) other between new

-- why a file is not read: it can't be, or it is refused by its front
abbrev pub IsUnread : TrieFile → Option Story → AskError → Type 0
IsUnread file files (ask.Unread e) = Unit {0}
IsUnread file files (ask.NoTrie why hint) = IsRefusedUnread file false files why hint
IsUnread file files (ask.Unprintable form key) = ⊥
IsUnread file files (ask.Unanswered e) = ⊥

-- why what was read of a file is not opened
abbrev pub HasNoTrieIn : TrieFile → List ℕ → AskError → Type 0
HasNoTrieIn file held (ask.Unread e) = ⊥
HasNoTrieIn file held (ask.NoTrie why hint) = IsUnopened file held why × IsHint held hint
HasNoTrieIn file held (ask.Unprintable form key) = ⊥
HasNoTrieIn file held (ask.Unanswered e) = ⊥

-- What two files hold was compared.
pub record AreHeldCompared (diff : Diff) (held other : List ℕ) (old new : Option (List ℕ)) (same : Bool) : Type 0 where
  pub kind : TrieKind
  pub bytes : List ℕ
  pub opens : Opens (old_file diff) held kind bytes
  pub other_kind : TrieKind
  pub others : List ℕ
  pub opens_other : Opens (new_file diff) other other_kind others
  pub compared : AreCompared kind bytes other_kind others old new same

-- It was, and a beginning was printed.
pub record AreHeldComparedInPart (diff : Diff) (held other : List ℕ) (old new : Option (List ℕ)) : Type 0 where
  pub kind : TrieKind
  pub bytes : List ℕ
  pub opens : Opens (old_file diff) held kind bytes
  pub other_kind : TrieKind
  pub others : List ℕ
  pub opens_other : Opens (new_file diff) other other_kind others
  pub begun : AreComparedInPart kind bytes other_kind others old new

-- one of the files has no trie
abbrev pub IsOneUnopened : Diff → (held other : List ℕ) → DiffError → Type 0
IsOneUnopened diff held other e = ((e.file ≡ old_file diff) × HasNoTrieIn (old_file diff) held e.error) ⊎ ((e.file ≡ new_file diff) × HasNoTrieIn (new_file diff) other e.error)

-- the output failed, or an allocation failed
abbrev pub IsUnanswered : AskError → Type 0
IsUnanswered (ask.Unread e) = ⊥
IsUnanswered (ask.NoTrie why hint) = ⊥
IsUnanswered (ask.Unprintable form key) = ⊥
IsUnanswered (ask.Unanswered (Input e)) = Unit {0}
IsUnanswered (ask.Unanswered (NoLines other)) = ⊥
IsUnanswered (ask.Unanswered (Output e)) = Unit {0}

-- why what two files hold was not compared: one of them has no trie, and nothing was printed; or a beginning was
abbrev pub AreUncompared : Diff → (held other : List ℕ) → (old new : Option (List ℕ)) → DiffError → Type 0
AreUncompared diff held other old new e = (IsOneUnopened diff held other e × (new ≡ old)) ⊎ (IsFileOf diff e.file × IsUnanswered e.error × AreHeldComparedInPart diff held other old new)
