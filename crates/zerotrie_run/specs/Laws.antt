-- A file is made, and then opened.
use Rattle.std.specs.Prelude.{◌≡◌, ◌⊎◌, ◌≤◌, ℕ, List, Option, Some, None, true, Bool}
use Rattle.zerotrie_core.specs.Kind.{Kind}
use Rattle.zerotrie_core.specs.Maps.{Pairs, map_of}
use Rattle.zerotrie_core.specs.Texts.{Means}
use Rattle.zerotrie_core.specs.Kinds.{kind_of}
use Rattle.zerotrie_core.specs.declared.TrieKind.{TrieKind}
use Rattle.zerotrie_sealed.specs.Sealed.{IsSealedIndex}
use Rattle.zerotrie_index.specs.InBlocks.{HasRightBlocks}
use Rattle.zerotrie_index.specs.Built.{IsIndexOf}
use Rattle.zerotrie_files.specs.Disks.{Story}
use Rattle.zerotrie_making.specs.Plans.{kind_for, IsFormOf}
use Rattle.zerotrie_making.specs.Kept.{kept}
use Rattle.zerotrie_making.specs.Made.{IsFile, OfInput}
use Rattle.zerotrie_making.specs.declared.plan.FileForm.{FileForm}
use Rattle.zerotrie_making.specs.declared.plan.FileForm.TheVariants as form
use Rattle.zerotrie_run.specs.Runs.{World, IsRead, Opens, Content, ContentAnswers, OpensFor, OpensAtPlaces, OpensToAnswer, HasNoTrie, HasNoAnswer, IsMade, RunsAsk, RunsBuild, asks_index}
use Rattle.zerotrie_run.specs.Runs.Content.{of_trie, of_index, in_blocks}
use Rattle.zerotrie_run.specs.Statuses.{number_of}
use Rattle.zerotrie_run.specs.declared.status.Status.{Status}
use Rattle.zerotrie_run.specs.declared.status.Status.TheVariants.{Refused, Taken, BadUsage, BadInput}
use Rattle.zerotrie_run.specs.declared.command.Question.{Question}
use Rattle.zerotrie_run.specs.declared.command.Place.TheVariants.{Stream}
use Rattle.zerotrie_run.specs.declared.command.TrieFile.{TrieFile}
use Rattle.zerotrie_run.specs.declared.command.Build.{Build}

-- a file of a trie is named as it was made: its kind is named if it is bare bytes of that kind, and none is if the file says it
abbrev pub IsNamedAsMade : FileForm → Kind → Option TrieKind → Type 0
IsNamedAsMade form.Sealed kind named = named ≡ None
IsNamedAsMade form.Tagged kind named = named ≡ None
IsNamedAsMade form.Bare kind named = (k : TrieKind) × (named ≡ Some k) × (kind_of k ≡ kind)
IsNamedAsMade form.Index kind named = ⊥

-- A file is not refused, and what is opened of it are the bytes that were made, which mean the map of the pairs.
pub record OpensAsMade (file : TrieFile) (input : Option (List ℕ)) (files : Option Story) (of : FileForm) (kind : Kind) (pairs : Pairs) (made : List ℕ) : Type 0 where
  pub taken : HasNoTrie file input files → ⊥
  pub opened : (held : List ℕ) (k : TrieKind) (bytes : List ℕ) → IsRead file.place input files held → Opens file held k bytes
      → (kind_of k ≡ kind) × IsFormOf of kind bytes made × Means kind bytes (map_of pairs)

-- what is opened of the file that a build made is the trie of the pairs that the build read, if the file is named as it was made; so
-- each question to it is answered by them
abbrev pub MadeOpens : Type 0
MadeOpens = (build : Build) (input : Option (List ℕ)) (before after : World) (held files : Story) → before.files ≡ Some held → after.files ≡ Some files
    → (made : IsMade build input before after) (file : TrieFile) (stdin : Option (List ℕ)) → (build.to ≡ Stream → ⊥) → file.place ≡ build.to
    → OfInput build.plan made.all (λ given. let pairs = kept build.plan.read.duplicates given in IsNamedAsMade build.plan.file.form (kind_for build.plan.file.kind pairs) file.bare
    → OpensAsMade file stdin after.files build.plan.file.form (kind_for build.plan.file.kind pairs) pairs made.file)

-- what a file has is the index that was made, of the pairs in some order, or its right blocks are that index's
abbrev pub IsIndexAsMade : Pairs → List ℕ → Content → Type 0
IsIndexAsMade pairs made (of_trie kind bytes) = ⊥
IsIndexAsMade pairs made (of_index bytes) = IsSealedIndex bytes made × IsIndexOf pairs bytes
IsIndexAsMade pairs made (in_blocks start held) = (bytes : List ℕ) × HasRightBlocks start held bytes × IsSealedIndex bytes made × IsIndexOf pairs bytes

-- No question that an index answers is refused, and whatever a question is asked of is the index that was made.
pub record IndexOpensAsMade (file : TrieFile) (input : Option (List ℕ)) (files : Option Story) (pairs : Pairs) (made : List ℕ) : Type 0 where
  pub taken : (question : Question) → asks_index question ≡ true → HasNoAnswer file question input files → ⊥
  pub opened : (question : Question) (held : List ℕ) (content : Content) → IsRead file.place input files held → OpensToAnswer file question held content
      → IsIndexAsMade pairs made content

-- what is opened of the file of an index that a build made is an index of the pairs that the build read, if no kind is named; so each
-- look-up in it is answered by them
abbrev pub MadeIndexOpens : Type 0
MadeIndexOpens = (build : Build) (input : Option (List ℕ)) (before after : World) (held files : Story) → before.files ≡ Some held → after.files ≡ Some files
    → (made : IsMade build input before after) (file : TrieFile) (stdin : Option (List ℕ)) → (build.to ≡ Stream → ⊥) → file.place ≡ build.to
    → build.plan.file.form ≡ form.Index → file.bare ≡ None
    → OfInput build.plan made.all (λ given. IndexOpensAsMade file stdin after.files (kept build.plan.read.duplicates given) made.file)

-- the file that is read has a trie, which is opened
abbrev pub HasTrie : TrieFile → List ℕ → Story → Type 0
HasTrie file input files = (held : List ℕ) × IsRead file.place (Some input) (Some files) held × (kind : TrieKind) × (bytes : List ℕ) × Opens file held kind bytes

-- the file that is read has a trie, or an index that answers the question, which is opened
abbrev pub HasAnswer : TrieFile → Question → List ℕ → Story → Type 0
HasAnswer file question input files = (held : List ℕ) × IsRead file.place (Some input) (Some files) held × (content : Content) × OpensFor file question held content

-- the file that is read begins with the front of an index, and what was printed is the answer of each index that has its right
-- blocks
abbrev pub HasAnswerInBlocks : TrieFile → Question → List ℕ → Story → (old new : Option (List ℕ)) → Type 0
HasAnswerInBlocks file question input files old new = (held : List ℕ) × IsRead file.place (Some input) (Some files) held
    × (content : Content) × OpensAtPlaces file question held content × (all : Bool) × ContentAnswers content question (Some input) old new all

-- A question to a file that is not taken without a test is refused as bad input only if the file has no trie, nor an index that answers it;
-- and if it has none, and its right blocks gave no answer, that is how it ends, unless the usage is bad or something failed.
pub record IsRefusedExactly (file : TrieFile) (question : Question) (input : List ℕ) (files : Story) (old new : Option (List ℕ)) (status : Status) : Type 0 where
  pub only : status ≡ BadInput → HasAnswer file question input files → ⊥
  pub always : (HasAnswer file question input files → ⊥) → (HasAnswerInBlocks file question input files old new → ⊥)
      → (status ≡ BadInput) ⊎ (status ≡ BadUsage) ⊎ (3 ≤ number_of status)

-- so each question ends, over files and an input that are known
abbrev pub RefusedExactly : Type 0
RefusedExactly = (file : TrieFile) (question : Question) (input : List ℕ) (files : Story) (old new : Option (List ℕ)) (status : Status)
    → RunsAsk file question (Some input) (Some files) old new status → IsRefusedExactly file question input files old new status

-- the input that is read makes a file
abbrev pub MakesFile : Build → List ℕ → Story → Type 0
MakesFile build input files = (all : List ℕ) × IsRead build.from (Some input) (Some files) all × (file : List ℕ) × IsFile build.plan all file

-- a build whose input makes no file is refused, if its file is not there and to be left as it is, unless something failed
abbrev pub UnmadeIsRefused : Type 0
UnmadeIsRefused = (build : Build) (input : List ℕ) (files : Story) (before after : World) (status : Status) → before.files ≡ Some files
    → RunsBuild build (Some input) before after status → (MakesFile build input files → ⊥) → (status ≡ Refused) ⊎ (status ≡ Taken) ⊎ (status ≡ BadInput) ⊎ (3 ≤ number_of status)
