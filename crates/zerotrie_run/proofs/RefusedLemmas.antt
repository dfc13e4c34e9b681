-- A question is refused exactly if the file has no trie.
use Rattle.std.proofs.Common.{◌≡◌, ◌⊎◌, ◌≤◌, arith, ℕ, List, Option, Some, Bool, true, false, refl, sym, subst, ◌∙◌, inl, inr}
use Rattle.std.proofs.lemmas.Option.{same_Some}
use Rattle.zerotrie_sealed.specs.Laws.{OneTrie}
use Rattle.zerotrie_files.specs.Disks.{Story}
use Rattle.zerotrie_run.specs.Runs.{World, Content, IsAsked, IsRead, IsUnopenedFor, OpensFor, OpensToAnswer, RunsAsk, RunsBuild}
use Rattle.zerotrie_run.specs.Runs.Content.{of_trie, of_index, in_blocks}
use Rattle.zerotrie_queries.specs.declared.file.OpenError.{OpenError}
use Rattle.zerotrie_run.specs.Laws.{HasAnswer, HasAnswerInBlocks, MakesFile, RefusedExactly, UnmadeIsRefused}
use Rattle.zerotrie_run.specs.Statuses.{number_of}
use Rattle.zerotrie_run.specs.declared.status.Status.{Status}
use Rattle.zerotrie_run.specs.declared.status.Status.TheVariants.{Done, Absent, Refused, Taken, BadUsage, BadInput, BadKeys, Unread, Unwritten, OutOfMemory, Closed}
use Rattle.zerotrie_run.specs.declared.command.Place.{Place}
use Rattle.zerotrie_run.specs.declared.command.Place.TheVariants.{File, Stream}
use Rattle.zerotrie_run.specs.declared.command.TrieFile.{TrieFile}
use Rattle.zerotrie_run.specs.declared.command.Question.{Question}
use Rattle.zerotrie_run.specs.declared.command.Build.{Build}
use Rattle.zerotrie_run.proofs.FileLemmas.{opened_asked}

-- what is read of a place is one list of bytes
pub read_once : (place : Place) (input : List ℕ) (files : Story) (a b : List ℕ) → IsRead place (Some input) (Some files) a → IsRead place (Some input) (Some files) b → a ≡ b
read_once (File path) input files a b h k = same_Some a b (sym h ∙ k)
read_once Stream input files a b h k = h ∙ sym k

only_so : OneTrie → (file : TrieFile) (q : Question) (input : List ℕ) (files : Story) (old new : Option (List ℕ)) → RunsAsk file q (Some input) (Some files) old new BadInput → HasAnswer file q input files → ⊥
only_so one file q input files old new runs has =
    let none = runs.0 in
    let same = read_once file.place input files none.0 has.0 none.1 has.1 in
    not_opened one file q has.0 none.2 has.2 (subst (λ held. IsUnopenedFor file q held none.2) same none.3) has.3
  where
    not_opened : OneTrie → (file : TrieFile) (q : Question) (held : List ℕ) (why : OpenError) (x : Content) → IsUnopenedFor file q held why → OpensFor file q held x → ⊥
    not_opened one file q held why (of_trie kind bytes) none h = opened_asked one file q held why kind bytes none.0 h
    not_opened one file q held why (of_index bytes) none h = none.1 bytes h
    not_opened one file q held why (in_blocks start all) none h = h

-- what is asked is there
unasked : {A : Type 0} (file : TrieFile) (q : Question) (input : List ℕ) (files : Story) (old new : Option (List ℕ)) (all : Bool) → (h : IsAsked file q (Some input) (Some files) old new all)
    → (HasAnswer file q input files → ⊥) → (HasAnswerInBlocks file q input files old new → ⊥) → OpensToAnswer file q h.held h.content → A
unasked file q input files old new all h none blocks (inl opens) = absurd (none (h.held, h.read, h.content, opens))
unasked file q input files old new all h none blocks (inr opens) = absurd (blocks (h.held, h.read, h.content, opens, all, h.answers))

always_so : (file : TrieFile) (q : Question) (input : List ℕ) (files : Story) (old new : Option (List ℕ)) (status : Status) → RunsAsk file q (Some input) (Some files) old new status → (HasAnswer file q input files → ⊥)
    → (HasAnswerInBlocks file q input files old new → ⊥) → (status ≡ BadInput) ⊎ (status ≡ BadUsage) ⊎ (3 ≤ number_of status)
always_so file q input files old new Done h none blocks = unasked file q input files old new true h none blocks h.opens
always_so file q input files old new Absent h none blocks = unasked file q input files old new false h none blocks h.opens
always_so file q input files old new Refused h none blocks = absurd (none (h.2.held, h.2.read, of_trie h.2.kind h.2.bytes, h.2.opens))
always_so file q input files old new Taken h none blocks = absurd h
always_so file q input files old new BadUsage h none blocks = inr (inl refl)
always_so file q input files old new BadInput h none blocks = inl refl
always_so file q input files old new BadKeys h none blocks = absurd (none (h.1.held, h.1.read, h.1.content, h.1.opens))
always_so file q input files old new Unread h none blocks = inr (inr (omega arith))
always_so file q input files old new Unwritten h none blocks = inr (inr (omega arith))
always_so file q input files old new OutOfMemory h none blocks = inr (inr (omega arith))
always_so file q input files old new Closed h none blocks = inr (inr (omega arith))

pub refused_exactly : OneTrie → RefusedExactly
refused_exactly one file q input files old new status runs = record {
  only = λ is. only_so one file q input files old new (subst (λ s. RunsAsk file q (Some input) (Some files) old new s) is runs);
  always = always_so file q input files old new status runs;
}

unmade_by : (build : Build) (input : List ℕ) (files : Story) (before after : World) (status : Status) → before.files ≡ Some files → RunsBuild build (Some input) before after status
    → (MakesFile build input files → ⊥) → (status ≡ Refused) ⊎ (status ≡ Taken) ⊎ (status ≡ BadInput) ⊎ (3 ≤ number_of status)
unmade_by build input files before after Done known h none = absurd (none (h.0.all, subst (λ f. IsRead build.from (Some input) f h.0.all) known h.0.read, h.0.file, h.0.made))
unmade_by build input files before after Absent known h none = absurd h
unmade_by build input files before after Refused known h none = inl refl
unmade_by build input files before after BadUsage known h none = absurd h
unmade_by build input files before after Taken known h none = inr (inl refl)
unmade_by build input files before after BadInput known h none = inr (inr (inl refl))
unmade_by build input files before after BadKeys known h none = absurd h
unmade_by build input files before after Unread known h none = inr (inr (inr (omega arith)))
unmade_by build input files before after Unwritten known h none = inr (inr (inr (omega arith)))
unmade_by build input files before after OutOfMemory known h none = inr (inr (inr (omega arith)))
unmade_by build input files before after Closed known h none = inr (inr (inr (omega arith)))

pub unmade_is_refused : UnmadeIsRefused
unmade_is_refused = unmade_by
