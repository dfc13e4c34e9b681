-- What is told last of a run that makes no file.
use Rattle.std.proofs.Common.{◌≡◌, ◌∷◌, [], codes, ℕ, List, Option, Some, Bool, zero, suc, refl, ap, subst, inl, inr}
use Rattle.std.specs.Borrow.{Bor}
use Rattle.std.specs.Prelude.{Any, unwrap_or}
use Rattle.std.specs.Io.KnownBytes.{Appends}
use Rattle.zerotrie_files.specs.Disks.{Story}
use Rattle.zerotrie_queries.specs.declared.file.OpenError.{OpenError}
use Rattle.zerotrie_queries.specs.declared.file.OpenError.TheVariants as unopened
use Rattle.zerotrie_making.specs.Combinations.{ExplainsMaps}
use Rattle.zerotrie_making.specs.Made as explains
use Rattle.zerotrie_making.specs.declared.error.CombinationError.{CombinationError}
use Rattle.zerotrie_making.specs.declared.error.CombinationError.TheVariants as combination
use Rattle.zerotrie_making.specs.declared.error.MakeError.{MakeError}
use Rattle.zerotrie_making.specs.declared.error.MakeError.TheVariants as made
use Rattle.zerotrie_run.specs.Combined.{OfFiles, file_of, unmade_refusal}
use Rattle.zerotrie_run.specs.Makings.{HasMakingCause, HasNoTrieOf, IsNumbered, making_refusal, of_build, of_combine}
use Rattle.zerotrie_run.specs.Messages.{TellsMade, TellsMakingError, TellsNoTrie, TellsUnmade, source_name, taken_line, target_name, unit_of}
use Rattle.zerotrie_run.specs.Runs.{IsRead, IsUnopened}
use Rattle.zerotrie_run.specs.Statuses.{failure, made_refusal}
use Rattle.zerotrie_run.specs.Told.{TellsMore, TellsUnopened, IsPlaceOf, IsTold}
use Rattle.zerotrie_run.specs.declared.command.Build.{Build}
use Rattle.zerotrie_run.specs.declared.command.Combine.{Combine}
use Rattle.zerotrie_run.specs.declared.command.Command.TheVariants as commands
use Rattle.zerotrie_run.specs.declared.command.Place.{Place}
use Rattle.zerotrie_run.specs.declared.front.Hint.{Hint}
use Rattle.zerotrie_run.specs.declared.making.MakingError.{MakingError}
use Rattle.zerotrie_run.specs.declared.making.MakingError.TheVariants.{Taken, Unfound, Unread, NoTrie, NotMade, Unwritten}
use Rattle.zerotrie_run.specs.declared.making.Recipe.TheVariants.{Tries}
use Rattle.zerotrie_run.specs.declared.messages.pairs.PairUnit.TheVariants.{Pair}
use Rattle.zerotrie_run.specs.declared.status.Status.TheVariants.{Refused}
use Rattle.zerotrie_run.proofs.CombinedLemmas.{IsOfPairs, any_of, of_pairs}
use Rattle.zerotrie_run.proofs.CombinedLemmas.IsOfPairs.{keys, refused, index_refused, memory}
use Rattle.zerotrie_run.proofs.MakingLemmas.{no_memory_left, no_value, one_read}
use Rattle.zerotrie_run.proofs.ToldLemmas.{told_exactly, told_last, failure_told}

-- ---- of a build

build_made_told : (b : Build) (input : Option (List ℕ)) (files : Option Story) (x y z : Option (List ℕ)) (text : List ℕ) (read write closed : Bool) (all : List ℕ) (e : MakeError) → IsRead b.from input files all
    → explains.Explains b.plan all e → TellsMade (source_name b.from) (unit_of b.plan.read.source) e text → TellsMore x y → Appends y z text
    → IsTold (commands.Build b) input files x z (unwrap_or (made_refusal e) (failure read write closed))
build_made_told b input files x y z text read write closed all (made.NotText other) got cause tells more h = (all, got, made.NotText other, cause, refl, text, tells, told_last x y z text more h)
build_made_told b input files x y z text read write closed all (made.Line n bad) got cause tells more h = (all, got, made.Line n bad, cause, refl, text, tells, told_last x y z text more h)
build_made_told b input files x y z text read write closed all (made.NotJson l k) got cause tells more h = (all, got, made.NotJson l k, cause, refl, text, tells, told_last x y z text more h)
build_made_told b input files x y z text read write closed all made.NotPairs got cause tells more h = (all, got, made.NotPairs, cause, refl, text, tells, told_last x y z text more h)
build_made_told b input files x y z text read write closed all (made.NotPair bad) got cause tells more h = (all, got, made.NotPair bad, cause, refl, text, tells, told_last x y z text more h)
build_made_told b input files x y z text read write closed all (made.Keys s) got cause tells more h = (all, got, made.Keys s, cause, refl, text, tells, told_last x y z text more h)
build_made_told b input files x y z text read write closed all (made.SumTooLarge k) got cause tells more h = (all, got, made.SumTooLarge k, cause, refl, text, tells, told_last x y z text more h)
build_made_told b input files x y z text read write closed all (made.Refused why) got cause tells more h = (all, got, made.Refused why, cause, refl, text, tells, told_last x y z text more h)
build_made_told b input files x y z text read write closed all (made.IndexRefused why) got cause tells more h = (all, got, made.IndexRefused why, cause, refl, text, tells, told_last x y z text more h)
build_made_told b input files x y z text read write closed all made.OutOfMemory got cause tells more h =
    failure_told (commands.Build b) input files x y z text (source_name b.from) read write closed (inl refl) (tells.0, tells.2) more h

-- the one place that a build reads
only_place : (one : Place) (number : ℕ) (place : Place) → IsNumbered (one ∷ []) number place → place ≡ one
only_place one zero place is = cc
only_place one (suc number) place is = absurd (cc)

pub build_told : (b : Build) (from : Bor (List Place)) (input : Option (List ℕ)) (files : Option Story) (x y z : Option (List ℕ)) (text : List ℕ) (read write closed : Bool) (e : MakingError) → from.now ≡ b.from ∷ []
    → HasMakingCause (of_build from b) input files e → TellsMakingError (source_name b.from) (unit_of b.plan.read.source) (target_name b.to) e text → TellsMore x y → Appends y z text
    → IsTold (commands.Build b) input files x z (unwrap_or (making_refusal e) (failure read write closed))
build_told b from input files x y z text read write closed Taken at (inl cause) tells more h = told_exactly x y z text (taken_line (target_name b.to)) tells more h
build_told b from input files x y z text read write closed (Unfound e) at (inl cause) tells more h = failure_told (commands.Build b) input files x y z text (target_name b.to) read write closed (inr refl) tells more h
build_told b from input files x y z text read write closed (Unread place e) at (inl cause) tells more h =
    failure_told (commands.Build b) input files x y z text (source_name place) read write closed (inl (ap source_name (only_place b.from cause.0 place (subst (λ places. IsNumbered places cause.0 place) at cause.1)))) tells more h
build_told b from input files x y z text read write closed (NoTrie place why t) at (inl cause) tells more h = absurd cause
build_told b from input files x y z text read write closed (NotMade (combination.NoValue why key)) at (inl (inl none)) tells more h = absurd (no_value none)
build_told b from input files x y z text read write closed (NotMade (combination.NoValue why key)) at (inl (inr cause)) tells more h = absurd cause.2
build_told b from input files x y z text read write closed (NotMade (combination.NotMade e)) at (inl (inl none)) tells more h =
    rw (no_memory_left e none) (failure_told (commands.Build b) input files x y z text (source_name b.from) read write closed (inl refl) (tells.0, tells.2) more h)
build_told b from input files x y z text read write closed (NotMade (combination.NotMade e)) at (inl (inr cause)) tells more h =
    build_made_told b input files x y z text read write closed cause.2.0 e (one_read b.from from.now cause.0 cause.2.0 input files at cause.1 cause.2.1) cause.2.2 tells more h
build_told b from input files x y z text read write closed (Unwritten e) at (inl cause) tells more h = absurd cause
build_told b from input files x y z text read write closed e at (inr is) tells more h =
    let line = subst (λ e. TellsMakingError (source_name b.from) (unit_of b.plan.read.source) (target_name b.to) e text) is.1 tells in
    rw is.1 (failure_told (commands.Build b) input files x y z text (target_name b.to) read write closed (inr refl) line more h)

-- ---- of a combination

-- a refusal of what the combination takes
taken_told : (c : Combine) (input : Option (List ℕ)) (files : Option Story) (x y z : Option (List ℕ)) (text : List ℕ) (e : CombinationError) → OfFiles c input files (λ maps. ExplainsMaps c.combination maps e)
    → unmade_refusal e ≡ Some Refused → TellsUnmade (target_name c.to) e text → TellsMore x y → Appends y z text → IsTold (commands.Combine c) input files x z Refused
taken_told c input files x y z text e cause is tells more h = (e, cause, is, text, tells, told_last x y z text more h)

combine_made_told : (c : Combine) (input : Option (List ℕ)) (files : Option Story) (x y z : Option (List ℕ)) (text : List ℕ) (read write closed : Bool) (e : MakeError)
    → OfFiles c input files (λ maps. ExplainsMaps c.combination maps (combination.NotMade e)) → TellsMade (target_name c.to) Pair e text → TellsMore x y → Appends y z text → IsOfPairs e
    → IsTold (commands.Combine c) input files x z (unwrap_or (made_refusal e) (failure read write closed))
combine_made_told c input files x y z text read write closed _ cause tells more h (keys s) = taken_told c input files x y z text (combination.NotMade (made.Keys s)) cause refl tells more h
combine_made_told c input files x y z text read write closed _ cause tells more h (refused why) = taken_told c input files x y z text (combination.NotMade (made.Refused why)) cause refl tells more h
combine_made_told c input files x y z text read write closed _ cause tells more h (index_refused why) = taken_told c input files x y z text (combination.NotMade (made.IndexRefused why)) cause refl tells more h
combine_made_told c input files x y z text read write closed _ cause tells more h memory =
    failure_told (commands.Combine c) input files x y z text (target_name c.to) read write closed (inr refl) (tells.0, tells.2) more h

-- a line tells that one of the files has no trie
unopened_told : (c : Combine) (input : Option (List ℕ)) (files : Option Story) (x y z : Option (List ℕ)) (text : List ℕ) (place : Place) (why : OpenError) (t : Hint)
    → HasNoTrieOf (Tries c.combination) c.from.now input files place (why, t) → TellsNoTrie (file_of place) why t text → TellsMore x y → Appends y z text
    → Any (λ p. TellsUnopened (IsUnopened (file_of p)) (file_of p) input files x z) c.from.now
unopened_told c input files x y z text place why t cause tells more h =
    any_of (λ p. TellsUnopened (IsUnopened (file_of p)) (file_of p) input files x z) c.from.now cause.0 place cause.1
    (cause.2, cause.3, why, cause.4, t, cause.5, text, tells, told_last x y z text more h)

-- one of the files is a place of the command
file_place : (c : Combine) (number : ℕ) (place : Place) → IsNumbered c.from.now number place → IsPlaceOf (commands.Combine c) (source_name place)
file_place c number place is = inl (any_of (λ other. source_name place ≡ source_name other) c.from.now number place is refl)

pub combine_told : (c : Combine) (input : Option (List ℕ)) (files : Option Story) (x y z : Option (List ℕ)) (text : List ℕ) (read write closed : Bool) (e : MakingError) → HasMakingCause (of_combine c) input files e
    → TellsMakingError (target_name c.to) Pair (target_name c.to) e text → TellsMore x y → Appends y z text
    → IsTold (commands.Combine c) input files x z (unwrap_or (making_refusal e) (failure read write closed))
combine_told c input files x y z text read write closed Taken (inl cause) tells more h = told_exactly x y z text (taken_line (target_name c.to)) tells more h
combine_told c input files x y z text read write closed (Unfound e) (inl cause) tells more h = failure_told (commands.Combine c) input files x y z text (target_name c.to) read write closed (inr refl) tells more h
combine_told c input files x y z text read write closed (Unread place e) (inl cause) tells more h =
    failure_told (commands.Combine c) input files x y z text (source_name place) read write closed (file_place c cause.0 place cause.1) tells more h
combine_told c input files x y z text read write closed (NoTrie place (unopened.BadTag why) t) (inl cause) tells more h = unopened_told c input files x y z text place (unopened.BadTag why) t cause tells more h
combine_told c input files x y z text read write closed (NoTrie place (unopened.Damaged why) t) (inl cause) tells more h = unopened_told c input files x y z text place (unopened.Damaged why) t cause tells more h
combine_told c input files x y z text read write closed (NoTrie place (unopened.NotWellFormed k f) t) (inl cause) tells more h = unopened_told c input files x y z text place (unopened.NotWellFormed k f) t cause tells more h
combine_told c input files x y z text read write closed (NoTrie place unopened.OutOfMemory t) (inl cause) tells more h =
    failure_told (commands.Combine c) input files x y z text (source_name place) read write closed (file_place c cause.0 place cause.1) (codes "out of memory", tells) more h
combine_told c input files x y z text read write closed (NotMade (combination.NoValue why key)) (inl (inl none)) tells more h = absurd (no_value none)
combine_told c input files x y z text read write closed (NotMade (combination.NoValue why key)) (inl (inr cause)) tells more h =
    taken_told c input files x y z text (combination.NoValue why key) cause refl tells more h
combine_told c input files x y z text read write closed (NotMade (combination.NotMade e)) (inl (inl none)) tells more h =
    rw (no_memory_left e none) (failure_told (commands.Combine c) input files x y z text (target_name c.to) read write closed (inr refl) (tells.0, tells.2) more h)
combine_told c input files x y z text read write closed (NotMade (combination.NotMade e)) (inl (inr cause)) tells more h =
    combine_made_told c input files x y z text read write closed e cause tells more h (of_pairs c.combination e cause.2.0 cause.2.2)
combine_told c input files x y z text read write closed (Unwritten e) (inl cause) tells more h = absurd cause
combine_told c input files x y z text read write closed e (inr is) tells more h =
    let line = subst (λ e. TellsMakingError (target_name c.to) Pair (target_name c.to) e text) is.1 tells in
    rw is.1 (failure_told (commands.Combine c) input files x y z text (target_name c.to) read write closed (inr refl) line more h)
