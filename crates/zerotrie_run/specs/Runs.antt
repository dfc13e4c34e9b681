-- What each command prints, what it leaves in files, and how it ends.
use Rattle.std.specs.Prelude.{◌≡◌, ◌≢◌, ◌⊎◌, ◌<◌, ℕ, suc, List, [], ◌∷◌, Option, Some, None, IfSome, Result, Ok, Err, Bool, true, false, is_none, map, codes}
use Rattle.std.specs.Option.{option_map}
use Rattle.std.specs.Io.KnownBytes.{Appends, Keeps}
use Rattle.std.specs.Io.Buffered.{writer_buffer}
use Rattle.std.specs.declared.io.buffered.BufWriter.{BufWriter}
use Rattle.zerotrie_core.specs.Maps.{Pairs}
use Rattle.zerotrie_core.specs.Texts.{Lists}
use Rattle.zerotrie_core.specs.WellFormed.{IsWellFormed}
use Rattle.zerotrie_lines.specs.Lines.{text_lines}
use Rattle.zerotrie_lines.specs.declared.reading.Header.TheVariants as header
use Rattle.zerotrie_lines.specs.declared.reading.LineEnd.TheVariants.{CrLf}
use Rattle.zerotrie_any.specs.Tagged.{tagged}
use Rattle.zerotrie_core.specs.Kinds.{kind_of}
use Rattle.zerotrie_core.specs.Faults.{IsFirstFault}
use Rattle.zerotrie_queries.specs.Files.{Holds, IsOpened, HasMagic, HasNoKind, IsDamaged, IsUnknown, Explains}
use Rattle.zerotrie_run.specs.Fronts.{HasNothing, IsHint}
use Rattle.zerotrie_run.specs.declared.front.Hint.{Hint}
use Rattle.zerotrie_core.specs.declared.TrieKind.{TrieKind}
use Rattle.zerotrie_queries.specs.declared.file.OpenError.{OpenError}
use Rattle.zerotrie_queries.specs.declared.file.OpenError.TheVariants as unopened
use Rattle.zerotrie_files.specs.Parts.{AppendsPart}
use Rattle.zerotrie_queries.specs.Answers.{AreAnswered, AreAnsweredInPart, Belongs}
use Rattle.zerotrie_queries.specs.Finders.{Dictionary, TrieFinds, IndexFinds, asks_keys}
use Rattle.zerotrie_index.specs.InBlocks.{HasRightBlocks}
use Rattle.zerotrie_index.specs.Layout.{IsIndex}
use Rattle.zerotrie_sealed.specs.Faults.{IsIndexFault, kind_in}
use Rattle.zerotrie_sealed.specs.Sealed.{HasFront, IsIndexNumber, IsSealed, IsSealedIndex}
use Rattle.zerotrie_queries.specs.Listed.{AreListed, AreListedInPart, AreUnprintable, first_picked}
use Rattle.zerotrie_queries.specs.declared.print.Form.{Form}
use Rattle.zerotrie_queries.specs.declared.question.ListQuery.{ListQuery}
use Rattle.zerotrie_queries.specs.declared.question.Query.{Query}
use Rattle.zerotrie_queries.specs.code.Code.{whole_code}
use Rattle.zerotrie_queries.specs.views.Views.{shown}
use Rattle.zerotrie_queries.specs.reports.Reports.{report_of}
use Rattle.zerotrie_queries.specs.reports.Forms.{reported}
use Rattle.zerotrie_files.specs.Disks.{Story, Known, IsOpen}
use Rattle.zerotrie_files.specs.Stores.{WasReplaced, WasKept}
use Rattle.zerotrie_making.specs.Made.{IsFile}
use Rattle.zerotrie_making.specs.Made as made
use Rattle.zerotrie_making.specs.Others.{IsOther}
use Rattle.zerotrie_making.specs.declared.others.OtherFile.{OtherFile}
use Rattle.zerotrie_making.specs.declared.error.MakeError.{MakeError}
use Rattle.zerotrie_run.specs.Statuses.{made_refusal}
use Rattle.zerotrie_run.specs.declared.status.Status.{Status}
use Rattle.zerotrie_run.specs.declared.status.Status.TheVariants.{Done, Absent, Refused, Taken, BadUsage, BadInput, BadKeys, Unread, Unwritten, OutOfMemory, Closed}
use Rattle.zerotrie_run.specs.declared.command.Place.{Place}
use Rattle.zerotrie_run.specs.declared.command.Place.TheVariants.{File, Stream}
use Rattle.zerotrie_run.specs.declared.place.Opened.{Opened}
use Rattle.zerotrie_run.specs.declared.place.Opened.TheVariants as opened
use Rattle.zerotrie_run.specs.declared.command.Keys.{Keys}
use Rattle.zerotrie_run.specs.declared.command.Keys.TheVariants.{Words, Lines}
use Rattle.zerotrie_run.specs.declared.command.Question.{Question}
use Rattle.zerotrie_run.specs.declared.command.Question.TheVariants.{LookUp, List as Listing, Code, Report, Verify, View}
use Rattle.zerotrie_run.specs.declared.command.Check.{Check}
use Rattle.zerotrie_run.specs.declared.command.Check.TheVariants as check
use Rattle.zerotrie_run.specs.declared.command.TrieFile.{TrieFile}
use Rattle.zerotrie_run.specs.declared.command.Build.{Build}
use Rattle.zerotrie_run.specs.declared.ask.AskError.{AskError}
use Rattle.zerotrie_run.specs.declared.ask.AskError.TheVariants as ask
use Rattle.zerotrie_run.specs.declared.stdin_lines.AnswerError.{AnswerError}
use Rattle.zerotrie_run.specs.declared.stdin_lines.AnswerError.TheVariants.{Input, NoLines, Output}

-- What files hold and held at each moment, and what was printed: what a stream has, and then what its buffer still holds. Each as
-- far as it is known.
pub record World : Type 0 where
  pub files : Option Story
  pub printed : Option (List ℕ)

-- the same of files and of what was printed
abbrev pub world : Option Story → Option (List ℕ) → World
world files printed = record { files = files; printed = printed }

-- a buffer that was empty is empty: what was written to it was handed on
abbrev pub HandsOn : {W A : Type 0} → BufWriter W A → BufWriter W A → Type 0
HandsOn before after = writer_buffer before ≡ [] → writer_buffer after ≡ []

-- nothing was printed, and all files hold what they held
abbrev pub Untouched : World → World → Type 0
Untouched before after = (after.printed ≡ before.printed) × (after.files ≡ before.files)

-- the place that a word names: a stream if it is a hyphen, and else the file of this path
abbrev pub IsNamed : List ℕ → Place → Type 0
IsNamed word (File path) = (path.now ≡ word) × (word ≢ codes "-")
IsNamed word Stream = word ≡ codes "-"

-- a place was opened: the file of its path, or standard input
abbrev pub IsOpenAt : {F : Type 0} → (held : F → Option (List ℕ)) → Place → Option Story → Opened F → Type 0
IsOpenAt held (File path) files (opened.File file) = IfSome files (IsOpen path.now (held file))
IsOpenAt held (File path) files opened.Stream = ⊥
IsOpenAt held Stream files (opened.File file) = ⊥
IsOpenAt held Stream files opened.Stream = Unit {0}

-- the bytes of a place: what its file holds, or all of standard input
abbrev pub IsRead : Place → Option (List ℕ) → Option Story → List ℕ → Type 0
IsRead (File path) input files bytes = IfSome files (λ known. known.now path.now ≡ Some bytes)
IsRead Stream input files bytes = IfSome input (λ known. bytes ≡ known)

-- the bytes were put in a place: its file was replaced by them, and no other file has changed, or they were printed
abbrev pub IsWritten : Place → List ℕ → World → World → Type 0
IsWritten (File path) bytes before after = (after.printed ≡ before.printed)
    × Known before.files after.files (WasReplaced path.now bytes)
IsWritten Stream bytes before after = Appends before.printed after.printed bytes × (after.files ≡ before.files)

-- the lines that are keys: a byte order mark in front of them is left out, and one may end in CR LF, as in the input of a build
abbrev pub key_lines : List ℕ → List (List ℕ)
key_lines input = text_lines CrLf header.Absent input

-- the keys of a question: words, or the lines of standard input
abbrev pub AreKeys : Keys → Option (List ℕ) → List (List ℕ) → Type 0
AreKeys (Words words) input keys = keys ≡ map (λ w. w.now) words.now
AreKeys Lines input keys = IfSome input (λ known. keys ≡ key_lines known)

-- keys that are lines of standard input are no other file
abbrev pub AreLines : Keys → Option (List ℕ) → Type 0
AreLines (Words words) input = Unit {0}
AreLines Lines input = IfSome input (λ known. IsOther known None)

-- the keys are to be lines of standard input, which is this other file
abbrev pub AreNoLines : Keys → Option (List ℕ) → OtherFile → Type 0
AreNoLines (Words words) input other = ⊥
AreNoLines Lines input other = IfSome input (λ known. IsOther known (Some other))

-- why keys are not answered: they are no lines, and nothing was printed; or something failed
abbrev pub AreNoKeys : Keys → Option (List ℕ) → (old new : Option (List ℕ)) → AnswerError → Type 0
AreNoKeys keys input old new (Input e) = Unit {0}
AreNoKeys keys input old new (NoLines other) = AreNoLines keys input other × (new ≡ old)
AreNoKeys keys input old new (Output e) = Unit {0}

-- two places are both standard input
abbrev pub AreOneStream : Place → Place → Type 0
AreOneStream first second = (first ≡ Stream) × (second ≡ Stream)

-- neither is
abbrev pub AreFiles : Place → Place → Type 0
AreFiles first second = (first ≡ Stream → ⊥) × (second ≡ Stream → ⊥)

-- how many of these places are standard input
abbrev pub streams : List Place → ℕ
streams [] = 0
streams (File path ∷ places) = streams places
streams (Stream ∷ places) = suc (streams places)

-- two of them are, or more
abbrev pub HaveTwoStreams : List Place → Type 0
HaveTwoStreams places = 1 < streams places

-- none is
abbrev pub AreAllFiles : List Place → Type 0
AreAllFiles places = streams places ≡ 0

-- whether keys are the lines of standard input
abbrev pub are_lines : Keys → Bool
are_lines (Words words) = false
are_lines Lines = true

-- whether the keys of a question are
abbrev pub of_lines : Question → Bool
of_lines (LookUp query keys) = are_lines keys
of_lines (Listing form s) = false
of_lines (Code language name) = false
of_lines (Report form name) = false
of_lines Verify = false
of_lines (View view) = false

-- a file has these bytes of this kind, and what a test of it shows: that they were sealed or mean a map, or in full that they mean one
abbrev pub OpensBy : Check → Option TrieKind → List ℕ → TrieKind → List ℕ → Type 0
OpensBy check.Skip named all kind bytes = Holds named all kind bytes
OpensBy check.Usual named all kind bytes = IsOpened named all kind bytes
OpensBy check.Full named all kind bytes = Holds named all kind bytes × IsWellFormed (kind_of kind) bytes

-- the bytes of this kind that a file has
abbrev pub Opens : TrieFile → List ℕ → TrieKind → List ℕ → Type 0
Opens file all kind bytes = OpensBy file.check file.bare all kind bytes

-- whether an index answers a question: what values keys have, and whether it is one
abbrev pub asks_index : Question → Bool
asks_index (LookUp query keys) = asks_keys query.asked
asks_index (Listing form s) = false
asks_index (Code language name) = false
asks_index (Report form name) = false
asks_index Verify = true
asks_index (View view) = false

-- a file is the bytes of an index, sealed, and what a test of it in full shows: that they are one
abbrev pub OpensIndex : TrieFile → List ℕ → List ℕ → Type 0
OpensIndex file all bytes = (file.bare ≡ None) × IsSealedIndex bytes all × (file.check ≡ check.Full → (pairs : Pairs) × IsIndex pairs bytes)

-- what a file has: the bytes of a trie of this kind, or of an index; or the right blocks of an index that is behind as many bytes of the file
pub data Content : Type 0 where
  of_trie : TrieKind → List ℕ → Content
  of_index : List ℕ → Content
  in_blocks : ℕ → List ℕ → Content

-- it has this, which is asked the question
abbrev pub OpensFor : TrieFile → Question → List ℕ → Content → Type 0
OpensFor file question all (of_trie kind bytes) = Opens file all kind bytes
OpensFor file question all (of_index bytes) = (asks_index question ≡ true) × OpensIndex file all bytes
OpensFor file question all (in_blocks start held) = ⊥

-- whether an index that is read at places answers a question: what values keys have that are words
abbrev pub asks_places : Question → Bool
asks_places (LookUp query (Words words)) = asks_keys query.asked
asks_places (LookUp query Lines) = false
asks_places (Listing form s) = false
asks_places (Code language name) = false
asks_places (Report form name) = false
asks_places Verify = false
asks_places (View view) = false

-- A file begins with the front of an index in blocks, and those blocks behind it that are right are asked.
abbrev pub OpensAtPlaces : TrieFile → Question → List ℕ → Content → Type 0
OpensAtPlaces file question all (of_trie kind bytes) = ⊥
OpensAtPlaces file question all (of_index bytes) = ⊥
OpensAtPlaces file question all (in_blocks start held) = (asks_places question ≡ true) × (file.bare ≡ None) × (file.check ≢ check.Full) × HasFront start all × (held ≡ all)

-- what is asked of a file, which is read as a whole or at places
abbrev pub OpensToAnswer : TrieFile → Question → List ℕ → Content → Type 0
OpensToAnswer file question all content = OpensFor file question all content ⊎ OpensAtPlaces file question all content

-- a file has bytes of this kind that mean no map of it
abbrev pub IsUnsound : Option TrieKind → List ℕ → TrieKind → List ℕ → Type 0
IsUnsound named all kind bytes = Holds named all kind bytes × (IsWellFormed (kind_of kind) bytes → ⊥)

-- why a file has no trie in full: its kind is not known, it is damaged, or its bytes mean no map, and this is their first fault, if
-- memory for its search was there
abbrev pub ExplainsInFull : Option TrieKind → List ℕ → OpenError → Type 0
ExplainsInFull named all (unopened.BadTag why) = HasNoKind named all why
ExplainsInFull named all (unopened.Damaged why) = IsDamaged named all why
ExplainsInFull named all (unopened.NotWellFormed kind fault) = (bytes : List ℕ) × IsUnsound named all kind bytes × IsFirstFault (kind_of kind) bytes fault
ExplainsInFull named all unopened.OutOfMemory = (kind : TrieKind) × (bytes : List ℕ) × IsUnsound named all kind bytes

-- why what a file holds is not opened, by how it is tested
abbrev pub IsUnopenedBy : Check → Option TrieKind → List ℕ → OpenError → Type 0
IsUnopenedBy check.Skip named all why = IsUnknown named all why
IsUnopenedBy check.Usual named all why = Explains named all why
IsUnopenedBy check.Full named all why = ExplainsInFull named all why

abbrev pub IsUnopened : TrieFile → List ℕ → OpenError → Type 0
IsUnopened file all why = IsUnopenedBy file.check file.bare all why

-- a file whose kind is not named is sealed as an index and as no trie, and this is wrong with its seal
abbrev pub IsDamagedIndex : Option TrieKind → List ℕ → OpenError → Type 0
IsDamagedIndex (Some named) all why = ⊥
IsDamagedIndex None all (unopened.BadTag why) = ⊥
IsDamagedIndex None all (unopened.Damaged why) = HasMagic all × IsIndexNumber (kind_in all) × IsIndexFault all why × ((kind : TrieKind) (bytes : List ℕ) → IsSealed (kind_of kind) bytes all → ⊥)
IsDamagedIndex None all (unopened.NotWellFormed kind fault) = ⊥
IsDamagedIndex None all unopened.OutOfMemory = ⊥

-- why a file has no trie that is asked the question; or that it is damaged, if the question is one to an index
abbrev pub IsUnasked : TrieFile → Question → List ℕ → OpenError → Type 0
IsUnasked file question all why = IsUnopened file all why ⊎ ((asks_index question ≡ true) × IsDamagedIndex file.bare all why)

-- why a file has nothing that is asked the question: no trie, for this reason, nor an index that answers it
abbrev pub IsUnopenedFor : TrieFile → Question → List ℕ → OpenError → Type 0
IsUnopenedFor file question all why = IsUnasked file question all why × ((bytes : List ℕ) → OpensFor file question all (of_index bytes) → ⊥)

-- what was printed, and whether all was found, belong to the keys, whichever dictionary it may be
abbrev pub KeysAnswered : Query → Keys → (input : Option (List ℕ)) → (Dictionary → Type 0) → (old new : Option (List ℕ)) → Bool → Type 0
KeysAnswered query keys input MayHave old new all = (ks : List (List ℕ)) × (AreKeys keys input ks × AreLines keys input) × AreAnswered query MayHave ks old new all

-- whether there is a pair
abbrev pub has_pair : Pairs → Bool
has_pair [] = false
has_pair (pair ∷ pairs) = true

-- whether there is one of the first pairs that are picked, if the bytes list pairs
abbrev pub AreFound : ListQuery → TrieKind → (bytes : List ℕ) → Bool → Type 0
AreFound s kind bytes found = (pairs : Pairs) → Lists (kind_of kind) bytes pairs → found ≡ has_pair (first_picked s kind pairs)

-- the limit of a listing that has a pair or none
abbrev pub limit_shown : Bool → Option ℕ → Option ℕ
limit_shown true limit = limit
limit_shown false limit = Some 0

-- what was printed, and whether all was found, belong to the question and to bytes of this kind: of pairs, whether there is one
abbrev pub Answers : Question → (input : Option (List ℕ)) → TrieKind → List ℕ → (old new : Option (List ℕ)) → Bool → Type 0
Answers (LookUp query keys) input kind bytes old new all = KeysAnswered query keys input (TrieFinds kind bytes) old new all
Answers (Listing form s) input kind bytes old new all = AreFound s kind bytes all × AreListed form s kind bytes old new
Answers (Code language name) input kind bytes old new all = (all ≡ true) × Appends old new (whole_code language kind name.now bytes)
Answers Verify input kind bytes old new all = (all ≡ true) × Keeps old new
Answers (Report form name) input kind bytes old new all = (all ≡ true) × Appends old new (reported form (option_map (λ n. n.now) name) (report_of kind bytes))
Answers (View view) input kind bytes old new all = (all ≡ true) × Appends old new (shown view kind bytes)

-- the same of the bytes of an index; nothing is printed if it is only tested
abbrev pub IndexAnswers : Question → (input : Option (List ℕ)) → List ℕ → (old new : Option (List ℕ)) → Bool → Type 0
IndexAnswers (LookUp query keys) input bytes old new all = KeysAnswered query keys input (IndexFinds query.asked bytes) old new all
IndexAnswers (Listing form s) input bytes old new all = (all ≡ true) × Keeps old new
IndexAnswers (Code language name) input bytes old new all = (all ≡ true) × Keeps old new
IndexAnswers Verify input bytes old new all = (all ≡ true) × Keeps old new
IndexAnswers (Report form name) input bytes old new all = (all ≡ true) × Keeps old new
IndexAnswers (View view) input bytes old new all = (all ≡ true) × Keeps old new

-- the same of what a file has: in right blocks, of each index that has them
abbrev pub ContentAnswers : Content → Question → (input : Option (List ℕ)) → (old new : Option (List ℕ)) → Bool → Type 0
ContentAnswers (of_trie kind bytes) question input old new all = Answers question input kind bytes old new all
ContentAnswers (of_index bytes) question input old new all = IndexAnswers question input bytes old new all
ContentAnswers (in_blocks start held) question input old new all = (bytes : List ℕ) → HasRightBlocks start held bytes → IndexAnswers question input bytes old new all

-- a beginning of what belongs to the keys was printed, whichever dictionary it may be
abbrev pub KeysAnsweredInPart : Query → Keys → (input : Option (List ℕ)) → (Dictionary → Type 0) → (old new : Option (List ℕ)) → Type 0
KeysAnsweredInPart query keys input MayHave old new = (ks : List (List ℕ)) × AreKeys keys input ks × AreAnsweredInPart query MayHave ks old new

-- a beginning of what belongs to the question and to bytes of this kind was printed
abbrev pub AnswersInPart : Question → (input : Option (List ℕ)) → TrieKind → List ℕ → (old new : Option (List ℕ)) → Type 0
AnswersInPart (LookUp query keys) input kind bytes old new = KeysAnsweredInPart query keys input (TrieFinds kind bytes) old new
AnswersInPart (Listing form s) input kind bytes old new = AreListedInPart form s kind bytes old new
AnswersInPart (Code language name) input kind bytes old new = AppendsPart old new (whole_code language kind name.now bytes)
AnswersInPart Verify input kind bytes old new = Keeps old new
AnswersInPart (Report form name) input kind bytes old new = AppendsPart old new (reported form (option_map (λ n. n.now) name) (report_of kind bytes))
AnswersInPart (View view) input kind bytes old new = AppendsPart old new (shown view kind bytes)

-- the same of the bytes of an index
abbrev pub IndexAnswersInPart : Question → (input : Option (List ℕ)) → List ℕ → (old new : Option (List ℕ)) → Type 0
IndexAnswersInPart (LookUp query keys) input bytes old new = KeysAnsweredInPart query keys input (IndexFinds query.asked bytes) old new
IndexAnswersInPart (Listing form s) input bytes old new = Keeps old new
IndexAnswersInPart (Code language name) input bytes old new = Keeps old new
IndexAnswersInPart Verify input bytes old new = Keeps old new
IndexAnswersInPart (Report form name) input bytes old new = Keeps old new
IndexAnswersInPart (View view) input bytes old new = Keeps old new

-- the same of what a file has
abbrev pub ContentAnswersInPart : Content → Question → (input : Option (List ℕ)) → (old new : Option (List ℕ)) → Type 0
ContentAnswersInPart (of_trie kind bytes) question input old new = AnswersInPart question input kind bytes old new
ContentAnswersInPart (of_index bytes) question input old new = IndexAnswersInPart question input bytes old new
ContentAnswersInPart (in_blocks start held) question input old new = (bytes : List ℕ) → HasRightBlocks start held bytes → IndexAnswersInPart question input bytes old new

-- the pairs that are asked for can't be printed so: this is the first of their keys that is not UTF-8
abbrev pub IsUnprintable : Question → TrieKind → (bytes : List ℕ) → Form → (key : List ℕ) → Type 0
IsUnprintable (LookUp query keys) kind bytes form key = ⊥
IsUnprintable (Listing asked s) kind bytes form key = (asked ≡ form) × AreUnprintable form s kind bytes key
IsUnprintable (Code language name) kind bytes form key = ⊥
IsUnprintable Verify kind bytes form key = ⊥
IsUnprintable (Report asked name) kind bytes form key = ⊥
IsUnprintable (View view) kind bytes form key = ⊥

-- the keys of a question are to be lines of standard input, which is this other file
abbrev pub HasNoLines : Question → Option (List ℕ) → OtherFile → Type 0
HasNoLines (LookUp query keys) input other = AreNoLines keys input other
HasNoLines (Listing form s) input other = ⊥
HasNoLines (Code language name) input other = ⊥
HasNoLines Verify input other = ⊥
HasNoLines (Report form name) input other = ⊥
HasNoLines (View view) input other = ⊥

-- how a run ends if keys are not answered; none if something failed
abbrev pub answer_refusal : AnswerError → Option Status
answer_refusal (Input e) = None
answer_refusal (NoLines other) = Some BadKeys
answer_refusal (Output e) = None

-- whether keys were not answered as something failed
abbrev pub answer_fails : Result Bool AnswerError → Bool
answer_fails (Ok all) = false
answer_fails (Err e) = is_none (answer_refusal e)

-- why a question is not answered, or not to the end: its keys are no lines, and nothing was printed; or something failed
abbrev pub HasNoKeys : Question → Option (List ℕ) → (old new : Option (List ℕ)) → AnswerError → Type 0
HasNoKeys (LookUp query keys) input old new e = AreNoKeys keys input old new e
HasNoKeys (Listing form s) input old new e = answer_refusal e ≡ None
HasNoKeys (Code language name) input old new e = answer_refusal e ≡ None
HasNoKeys Verify input old new e = answer_refusal e ≡ None
HasNoKeys (Report form name) input old new e = answer_refusal e ≡ None
HasNoKeys (View view) input old new e = answer_refusal e ≡ None

-- why there is no answer, or not all of it: the pairs can't be printed so, and nothing was; or something failed, and a beginning of
-- the answer was printed
abbrev pub IsNoAnswer : Question → (input : Option (List ℕ)) → TrieKind → List ℕ → (old new : Option (List ℕ)) → AskError → Type 0
IsNoAnswer question input kind bytes old new (ask.Unread e) = ⊥
IsNoAnswer question input kind bytes old new (ask.NoTrie why hint) = ⊥
IsNoAnswer question input kind bytes old new (ask.Unanswered e) = AnswersInPart question input kind bytes old new × HasNoKeys question input old new e
IsNoAnswer question input kind bytes old new (ask.Unprintable form key) = IsUnprintable question kind bytes form key.items × (new ≡ old)

-- The trie or the index of a file was asked: what was read, what it has, and the answer.
pub record IsAsked (file : TrieFile) (question : Question) (input : Option (List ℕ)) (files : Option Story) (old new : Option (List ℕ)) (all : Bool) : Type 0 where
  pub held : List ℕ
  pub read : IsRead file.place input files held
  pub content : Content
  pub opens : OpensToAnswer file question held content
  pub answers : ContentAnswers content question input old new all

-- It was asked, and a beginning of the answer was printed.
pub record IsAskedInPart (file : TrieFile) (question : Question) (input : Option (List ℕ)) (files : Option Story) (old new : Option (List ℕ)) : Type 0 where
  pub held : List ℕ
  pub read : IsRead file.place input files held
  pub content : Content
  pub opens : OpensToAnswer file question held content
  pub begun : ContentAnswersInPart content question input old new

-- the file has no trie
abbrev pub HasNoTrie : TrieFile → Option (List ℕ) → Option Story → Type 0
HasNoTrie file input files = (held : List ℕ) × IsRead file.place input files held × (why : OpenError) × IsUnopened file held why

-- the file has no trie, nor an index that answers the question
abbrev pub HasNoAnswer : TrieFile → Question → Option (List ℕ) → Option Story → Type 0
HasNoAnswer file question input files = (held : List ℕ) × IsRead file.place input files held × (why : OpenError) × IsUnopenedFor file question held why

-- The trie of a file was asked for pairs that can't be printed so, and nothing was.
pub record IsUnprinted (file : TrieFile) (question : Question) (input : Option (List ℕ)) (files : Option Story) (form : Form) (key : List ℕ) : Type 0 where
  pub held : List ℕ
  pub read : IsRead file.place input files held
  pub kind : TrieKind
  pub bytes : List ℕ
  pub opens : Opens file held kind bytes
  pub shows : IsUnprintable question kind bytes form key

-- What is asked of a file was found, and the keys of the question are no lines, but this other file.
pub record IsUnkeyed (file : TrieFile) (question : Question) (input : Option (List ℕ)) (files : Option Story) (other : OtherFile) : Type 0 where
  pub held : List ℕ
  pub read : IsRead file.place input files held
  pub content : Content
  pub opens : OpensFor file question held content
  pub keys : HasNoLines question input other

-- what a file holds has no answer: nothing in it is asked the question, and nothing was printed; or something is, and there is no answer,
-- or not all of it
abbrev pub IsUnanswered : TrieFile → Question → (input : Option (List ℕ)) → List ℕ → (old new : Option (List ℕ)) → AskError → Type 0
IsUnanswered file question input held old new (ask.Unread e) = ⊥
IsUnanswered file question input held old new (ask.NoTrie why hint) = IsUnopenedFor file question held why × IsHint held hint × (new ≡ old)
IsUnanswered file question input held old new (ask.Unprintable form key) = (kind : TrieKind) × (bytes : List ℕ) × Opens file held kind bytes × IsUnprintable question kind bytes form key.items × (new ≡ old)
IsUnanswered file question input held old new (ask.Unanswered e) = (content : Content) × OpensFor file question held content × ContentAnswersInPart content question input old new × HasNoKeys question input old new e

-- this is what is printed of keys, and whether all was found, by each index that has the right blocks behind the front of a file that holds
-- this
abbrev pub AreLookedUp : Query → List (List ℕ) → Option (List ℕ) → List ℕ → Bool → Type 0
AreLookedUp query keys held text all = IfSome held (λ file. (start : ℕ) × HasFront start file
    × ((bytes : List ℕ) → HasRightBlocks start file bytes → (d : Dictionary) → IndexFinds query.asked bytes d → Belongs query d keys text all))

-- who prints this text has answered the question to a file, and who prints a beginning of it has begun to; keys are not read from standard
-- input
abbrev pub IsAnswerText : TrieFile → Question → Option Story → List ℕ → Bool → Type 0
IsAnswerText file question files text all = (input old new : Option (List ℕ)) → (Appends old new text → IsAsked file question input files old new all)
    × (AppendsPart old new text → IsAskedInPart file question input files old new)

-- whoever reads all of the file finds that it has no trie, nor an index if one is taken, for this reason, and that it looks so
abbrev pub IsRefusedUnread : TrieFile → (takes_index : Bool) → Option Story → OpenError → Hint → Type 0
IsRefusedUnread file takes_index files why hint = (input : Option (List ℕ)) → (held : List ℕ) × IsRead file.place input files held
    × HasNothing file.bare takes_index held why × IsHint held hint

-- a question to a file failed: nothing was printed, or a beginning of the answer was
abbrev pub FailsAsk : TrieFile → Question → Option (List ℕ) → Option Story → (old new : Option (List ℕ)) → Type 0
FailsAsk file question input files old new = (new ≡ old) ⊎ IsAskedInPart file question input files old new

-- How a question to a file ends. The answer was printed, and all was found or not; the file and the keys are both standard input; the
-- file has nothing that is asked it; its keys are no lines; its pairs can't be printed so; or something failed.
abbrev pub RunsAsk : TrieFile → Question → Option (List ℕ) → Option Story → (old new : Option (List ℕ)) → Status → Type 0
RunsAsk file question input files old new Done = IsAsked file question input files old new true
RunsAsk file question input files old new Absent = IsAsked file question input files old new false
RunsAsk file question input files old new Refused = (form : Form) × (key : List ℕ) × IsUnprinted file question input files form key × (new ≡ old)
RunsAsk file question input files old new Taken = ⊥
RunsAsk file question input files old new BadUsage = (file.place ≡ Stream) × (of_lines question ≡ true) × (new ≡ old)
RunsAsk file question input files old new BadInput = HasNoAnswer file question input files × (new ≡ old)
RunsAsk file question input files old new BadKeys = (other : OtherFile) × IsUnkeyed file question input files other × (new ≡ old)
RunsAsk file question input files old new Unread = FailsAsk file question input files old new
RunsAsk file question input files old new Unwritten = FailsAsk file question input files old new
RunsAsk file question input files old new OutOfMemory = FailsAsk file question input files old new
RunsAsk file question input files old new Closed = FailsAsk file question input files old new

-- the same, if only that something failed is known
abbrev pub EndsAsk : TrieFile → Question → Option (List ℕ) → Option Story → (old new : Option (List ℕ)) → Option Status → Type 0
EndsAsk file question input files old new None = FailsAsk file question input files old new
EndsAsk file question input files old new (Some status) = RunsAsk file question input files old new status

-- how a run ends if a question is refused; none if something failed
abbrev pub ask_refusal : AskError → Option Status
ask_refusal (ask.Unread e) = None
ask_refusal (ask.NoTrie (unopened.BadTag why) hint) = Some BadInput
ask_refusal (ask.NoTrie (unopened.Damaged why) hint) = Some BadInput
ask_refusal (ask.NoTrie (unopened.NotWellFormed kind fault) hint) = Some BadInput
ask_refusal (ask.NoTrie unopened.OutOfMemory hint) = None
ask_refusal (ask.Unprintable form key) = Some Refused
ask_refusal (ask.Unanswered e) = answer_refusal e

-- the same of a question that may have been answered
abbrev pub asked_refusal : Result Bool AskError → Option Status
asked_refusal (Ok all) = None
asked_refusal (Err e) = ask_refusal e

-- whether a question failed: it was neither answered nor refused
abbrev pub ask_fails : Result Bool AskError → Bool
ask_fails (Ok all) = false
ask_fails (Err e) = is_none (ask_refusal e)

-- there is a file at a place
abbrev pub IsThere : Place → Option Story → Type 0
IsThere (File path) files = IfSome files (λ known. known.now path.now ≢ None)
IsThere Stream files = ⊥

-- there is none
abbrev pub IsFree : Place → Option Story → Type 0
IsFree (File path) files = IfSome files (λ known. known.now path.now ≡ None)
IsFree Stream files = Unit {0}

-- the file to make at a place is there already and is to be left as it is, and nothing was touched
abbrev pub IsSparedAt : Place → Bool → World → World → Type 0
IsSparedAt to no_clobber before after = (no_clobber ≡ true) × IsThere to before.files × Untouched before after

-- there was no file at a place before if it was to be left as it is
abbrev pub IsFreshAt : Place → Bool → Option Story → Type 0
IsFreshAt to no_clobber files = no_clobber ≡ true → IsFree to files

-- A file was made: what was read, and the file that was written.
pub record IsMade (build : Build) (input : Option (List ℕ)) (before after : World) : Type 0 where
  pub all : List ℕ
  pub read : IsRead build.from input before.files all
  pub file : List ℕ
  pub made : IsFile build.plan all file
  pub written : IsWritten build.to file before after

-- the input makes no file, for a reason with this status, and nothing was touched
abbrev pub IsRefused : Build → Option (List ℕ) → World → World → Status → Type 0
IsRefused build input before after status = (all : List ℕ) × IsRead build.from input before.files all
    × (e : MakeError) × made.Explains build.plan all e × (made_refusal e ≡ Some status) × Untouched before after

-- after a fault all files hold what they held, or a beginning of the bytes was printed
abbrev pub IsKept : Place → List ℕ → World → World → Type 0
IsKept (File path) bytes before after = (after.printed ≡ before.printed) × Known before.files after.files (WasKept path.now bytes)
IsKept Stream bytes before after = AppendsPart before.printed after.printed bytes × (after.files ≡ before.files)

-- A file was made, and could not be written, or not to the end.
pub record IsUnwritten (build : Build) (input : Option (List ℕ)) (before after : World) : Type 0 where
  pub all : List ℕ
  pub read : IsRead build.from input before.files all
  pub file : List ℕ
  pub made : IsFile build.plan all file
  pub kept : IsKept build.to file before after

-- a build failed: nothing was touched, or the input makes a file, and all files hold what they held, or a beginning of it was printed
abbrev pub FailsBuild : Build → Option (List ℕ) → World → World → Type 0
FailsBuild build input before after = Untouched before after ⊎ IsUnwritten build input before after

-- How a build ends. The file was made; its keys are refused, or its input is no pairs; or something failed.
abbrev pub RunsBuild : Build → Option (List ℕ) → World → World → Status → Type 0
RunsBuild build input before after Done = IsMade build input before after × IsFreshAt build.to build.no_clobber before.files
RunsBuild build input before after Absent = ⊥
RunsBuild build input before after Refused = IsRefused build input before after Refused
RunsBuild build input before after Taken = IsSparedAt build.to build.no_clobber before after
RunsBuild build input before after BadUsage = ⊥
RunsBuild build input before after BadInput = IsRefused build input before after BadInput
RunsBuild build input before after BadKeys = ⊥
RunsBuild build input before after Unread = FailsBuild build input before after
RunsBuild build input before after Unwritten = FailsBuild build input before after
RunsBuild build input before after OutOfMemory = FailsBuild build input before after
RunsBuild build input before after Closed = FailsBuild build input before after

-- the file is read as bare bytes of a kind that was named, and begins with the number of a kind, as one that has it does
abbrev pub HasNumberToo : Option TrieKind → List ℕ → Type 0
HasNumberToo None held = ⊥
HasNumberToo (Some named) held = (kind : TrieKind) × (rest : List ℕ) × (held ≡ tagged (kind_of kind) rest)

-- what is read of the file does
abbrev pub IsDoubtful : TrieFile → Option (List ℕ) → Option Story → Type 0
IsDoubtful file input files = (held : List ℕ) × IsRead file.place input files held × HasNumberToo file.bare held

-- a question that ends so doesn't read its keys from standard input, which it does not if its file has no trie
abbrev pub LeavesKeys : Question → Option Status → Type 0
LeavesKeys question ended = (ended ≡ Some BadInput) ⊎ (of_lines question ≡ true → ⊥)

-- a question to a file that ends so doesn't read standard input
abbrev pub LeavesInputOf : TrieFile → Question → Option Status → Type 0
LeavesInputOf file question ended = (ended ≡ Some BadUsage) ⊎ ((file.place ≡ Stream → ⊥) × LeavesKeys question ended)
