-- How a command ends that makes a file.
use Rattle.std.proofs.Common.{◌≡◌, ◌∷◌, [], ℕ, List, Option, None, false, Vec, Global, map, length, get_or, refl, sym, ap, subst, arith, inl, inr}
use Rattle.std.specs.Borrow.{Bor}
use Rattle.std.specs.Prelude.{unwrap_or}
use Rattle.zerotrie_files.specs.Disks.{Story}
use Rattle.zerotrie_queries.specs.declared.file.OpenError.{OpenError}
use Rattle.zerotrie_queries.specs.declared.file.OpenError.TheVariants as unopened
use Rattle.zerotrie_making.specs.Combinations.{ExplainsMaps}
use Rattle.zerotrie_making.specs.Made as explains
use Rattle.zerotrie_making.specs.declared.error.CombinationError.TheVariants as combination
use Rattle.zerotrie_making.specs.declared.error.MakeError.{MakeError}
use Rattle.zerotrie_making.specs.declared.error.MakeError.TheVariants as made
use Rattle.zerotrie_making.specs.declared.plan.Combination.{Combination}
use Rattle.zerotrie_run.specs.Combined.{AreRead, FailsCombine, OfFiles, RunsCombine, file_of}
use Rattle.zerotrie_run.specs.Commands.{Ends}
use Rattle.std.specs.declared.io.Error.{Error}
use Rattle.zerotrie_run.specs.Failures.{IsFailureOf, MakingFailed}
use Rattle.zerotrie_run.specs.Makings.{EndsMaking, HasMakingCause, IsMaking, IsNumbered, IsUncombined, IsUnmade, IsUnreadAt, IsUnwrittenMaking, making_refusal, of_build, of_combine}
use Rattle.zerotrie_run.specs.Runs.{World, AreAllFiles, FailsBuild, HasNoTrie, HaveTwoStreams, IsRead, IsRefusedUnread, RunsBuild, Untouched}
use Rattle.zerotrie_run.specs.Statuses.{made_refusal}
use Rattle.zerotrie_run.specs.Told.{TellsDone, TellsMaking, TellsThenLeft, made_lines}
use Rattle.zerotrie_run.specs.declared.command.Build.{Build}
use Rattle.zerotrie_run.specs.declared.command.Combine.{Combine}
use Rattle.zerotrie_run.specs.declared.command.Command.TheVariants as commands
use Rattle.zerotrie_run.specs.declared.command.Place.{Place}
use Rattle.zerotrie_run.specs.declared.command.Place.TheVariants.{File, Stream}
use Rattle.zerotrie_run.specs.declared.front.Hint.{Hint}
use Rattle.zerotrie_run.specs.declared.making.Making.{Making}
use Rattle.zerotrie_run.specs.declared.making.MakingError.{MakingError}
use Rattle.zerotrie_run.specs.declared.making.MakingError.TheVariants.{Taken, Unfound, Unread, NoTrie, NotMade, Unwritten}
use Rattle.zerotrie_run.specs.declared.making.Recipe.TheVariants.{Tries}
use Rattle.zerotrie_run.specs.declared.status.Status.TheVariants.{Done, OutOfMemory}
use Rattle.zerotrie_run.proofs.CombinedLemmas.{IsOfPairs, any_of, of_pairs, zip_both}
use Rattle.zerotrie_run.proofs.CombinedLemmas.IsOfPairs.{keys, refused, index_refused, memory}
use Rattle.zerotrie_run.proofs.FrontLemmas.{unknown_by}
use Rattle.zerotrie_run.proofs.MadeLemmas.{file_of_made}

-- ---- one place

-- one place is not standard input twice
pub one_stream : (place : Place) → HaveTwoStreams (place ∷ []) → ⊥
one_stream (File path) more = omega (arith, more)
one_stream Stream more = omega (arith, more)

pub one_file : (place : Place) → (place ≡ Stream → ⊥) → AreAllFiles (place ∷ [])
one_file (File path) apart = refl
one_file Stream apart = absurd (apart refl)

-- what was read of it
pub one_held : (held : List (Vec ℕ Global)) (bytes : Vec ℕ Global) → length held ≡ 1 → bytes ≡ get_or held 0 bytes → map (λ b. b.items) held ≡ bytes.items ∷ []
one_held [] bytes one is = absurd (omega (arith, one))
one_held (b ∷ []) bytes one is = ap (λ v. v.items ∷ []) (sym is)
one_held (b ∷ c ∷ held) bytes one is = absurd (omega (arith, one))

pub one_read : (place : Place) (from : List Place) (held : List (List ℕ)) (all : List ℕ) (i : Option (List ℕ)) (f : Option Story) → from ≡ place ∷ [] → AreRead from i f held → held ≡ all ∷ [] → IsRead place i f all
one_read place from held all i f at read is = (subst (λ h. AreRead (place ∷ []) i f h) is (subst (λ places. AreRead places i f held) at read)).0

-- ---- why no file is made

-- one of the places is not read
pub unread_unmade : (m : Making) (i : Option (List ℕ)) (files : Option Story) (number : ℕ) (place : Place) (e : MakingError) → IsNumbered m.from.now number place → IsUnreadAt m.recipe place files e → IsUnmade m i files e
unread_unmade m i files number place Taken at h = absurd h
unread_unmade m i files number place (Unfound e) at h = absurd h
unread_unmade m i files number place (Unread other e) at h = (number, rw h at)
unread_unmade m i files number place (NoTrie other why t) at h =
    let r = h.2 i in rw h.0 (rw h.1.1 (number, at, r.0, r.1, unknown_by (file_of place).check None r.0 why r.2.0, r.3))
unread_unmade m i files number place (NotMade e) at h = absurd h
unread_unmade m i files number place (Unwritten e) at h = absurd h

-- nothing is made of what was read
pub uncombined_unmade : (m : Making) (c : Combination) (i : Option (List ℕ)) (files : Option Story) (held : List (List ℕ)) (e : MakingError) → m.recipe ≡ Tries c → IsUncombined c m.from.now held e
    → AreRead m.from.now i files held → IsUnmade m i files e
uncombined_unmade m c i files held Taken is (inl h) read = absurd h
uncombined_unmade m c i files held (Unfound e) is (inl h) read = absurd h
uncombined_unmade m c i files held (Unread place e) is (inl h) read = absurd h
uncombined_unmade m c i files held (NoTrie place why t) is (inl h) read =
    rw is (h.0, h.1, h.2, zip_both (λ p b. IsRead p i files b) m.from.now held h.0 place h.2 read h.1 h.3, h.4, h.5)
uncombined_unmade m c i files held (NotMade e) is (inl h) read = inl h
uncombined_unmade m c i files held (Unwritten e) is (inl h) read = absurd h
uncombined_unmade m c i files held e is (inr h) read = rw h.1 (inr (held, read, rw is h.2))

-- and nothing has failed but for want of memory
pub uncombined_failed : (c : Combination) (places : List Place) (held : List (List ℕ)) (e : MakingError) → IsUncombined c places held e → MakingFailed ⊥ ⊥ e
uncombined_failed c places held Taken h = tt
uncombined_failed c places held (Unfound e) (inl h) = absurd h
uncombined_failed c places held (Unfound e) (inr h) = absurd (other_found e h.0 h.1)
  where
    other_found : (e : _) (why : _) → Unfound e ≡ NotMade why → ⊥
    other_found e why is = cc
uncombined_failed c places held (Unread place e) (inl h) = absurd h
uncombined_failed c places held (Unread place e) (inr h) = absurd (other_read place e h.0 h.1)
  where
    other_read : (place : _) (e : _) (why : _) → Unread place e ≡ NotMade why → ⊥
    other_read place e why is = cc
uncombined_failed c places held (NoTrie place why t) h = tt
uncombined_failed c places held (NotMade e) h = tt
uncombined_failed c places held (Unwritten e) (inl h) = absurd h
uncombined_failed c places held (Unwritten e) (inr h) = absurd (other_written e h.0 h.1)
  where
    other_written : (e : _) (why : _) → Unwritten e ≡ NotMade why → ⊥
    other_written e why is = cc

no_failure : (failed : Type 0) (e : Error) → IsFailureOf ⊥ e → IsFailureOf failed e
no_failure failed e (inl m) = inl m
no_failure failed e (inr none) = absurd none

pub none_failed : (read write : Type 0) (e : MakingError) → MakingFailed ⊥ ⊥ e → MakingFailed read write e
none_failed read write Taken h = tt
none_failed read write (Unfound e) h = no_failure read e h
none_failed read write (Unread place e) h = no_failure read e h
none_failed read write (NoTrie place why t) h = tt
none_failed read write (NotMade e) h = tt
none_failed read write (Unwritten e) h = no_failure write e h

-- ---- how a build ends

build_made_ends : (b : Build) (i : Option (List ℕ)) (before after : World) (all : List ℕ) (e : MakeError) → IsRead b.from i before.files all → explains.Explains b.plan all e → Untouched before after
    → RunsBuild b i before after (unwrap_or (made_refusal e) OutOfMemory)
build_made_ends b i before after all (made.NotText other) read h left = (all, read, made.NotText other, h, refl, left)
build_made_ends b i before after all (made.Line number bad) read h left = (all, read, made.Line number bad, h, refl, left)
build_made_ends b i before after all (made.NotJson line column) read h left = (all, read, made.NotJson line column, h, refl, left)
build_made_ends b i before after all made.NotPairs read h left = (all, read, made.NotPairs, h, refl, left)
build_made_ends b i before after all (made.NotPair bad) read h left = (all, read, made.NotPair bad, h, refl, left)
build_made_ends b i before after all (made.Keys s) read h left = (all, read, made.Keys s, h, refl, left)
build_made_ends b i before after all (made.SumTooLarge k) read h left = (all, read, made.SumTooLarge k, h, refl, left)
build_made_ends b i before after all (made.Refused why) read h left = (all, read, made.Refused why, h, refl, left)
build_made_ends b i before after all (made.IndexRefused why) read h left = (all, read, made.IndexRefused why, h, refl, left)
build_made_ends b i before after all made.OutOfMemory read h left = inl left

-- no pairs are refused for the value of a key
pub no_value : {why : _} {key : _} → combination.NoValue why key ≡ combination.NotMade made.OutOfMemory → ⊥
no_value is = cc

pub no_memory_left : (e : MakeError) → combination.NotMade e ≡ combination.NotMade made.OutOfMemory → e ≡ made.OutOfMemory
no_memory_left e is = cc

build_unmade_ends : (b : Build) (from : Bor (List Place)) (i : Option (List ℕ)) (before after : World) (e : MakingError) → from.now ≡ b.from ∷ [] → IsUnmade (of_build from b) i before.files e
    → Untouched before after → RunsBuild b i before after (unwrap_or (making_refusal e) OutOfMemory)
build_unmade_ends b from i before after Taken at h left = (h.0, h.1, left)
build_unmade_ends b from i before after (Unfound e) at h left = inl left
build_unmade_ends b from i before after (Unread place e) at h left = inl left
build_unmade_ends b from i before after (NoTrie place why t) at h left = absurd h
build_unmade_ends b from i before after (NotMade (combination.NoValue why key)) at (inl none) left = absurd (no_value none)
build_unmade_ends b from i before after (NotMade (combination.NoValue why key)) at (inr h) left = absurd h.2
build_unmade_ends b from i before after (NotMade (combination.NotMade e)) at (inl none) left = rw (no_memory_left e none) (inl left)
build_unmade_ends b from i before after (NotMade (combination.NotMade e)) at (inr h) left =
    build_made_ends b i before after h.2.0 e (one_read b.from from.now h.0 h.2.0 i before.files at h.1 h.2.1) h.2.2 left
build_unmade_ends b from i before after (Unwritten e) at h left = absurd h

build_unwritten : (b : Build) (from : Bor (List Place)) (i : Option (List ℕ)) (before after : World) → from.now ≡ b.from ∷ [] → IsUnwrittenMaking (of_build from b) i before after → FailsBuild b i before after
build_unwritten b from i before after at h =
    let of = h.of.2.0 in
    inr (record {
      all = of.0;
      read = one_read b.from from.now h.of.0 of.0 i before.files at h.of.1 of.1;
      file = h.file.file.items;
      made = file_of_made b.plan of.0 h.file of.2;
      kept = h.kept;
    })

pub build_ends : (b : Build) (from : Bor (List Place)) (i : Option (List ℕ)) (before after : World) (e : MakingError) → from.now ≡ b.from ∷ [] → EndsMaking (of_build from b) i before after e
    → Ends (commands.Build b) i before after (making_refusal e)
build_ends b from i before after e at (inl h) = build_unmade_ends b from i before after e at h.0 h.1
build_ends b from i before after e at (inr h) = rw h.1 (build_unwritten b from i before after at h.0)

pub build_done : (b : Build) (from : Bor (List Place)) (i : Option (List ℕ)) (before after : World) → from.now ≡ b.from ∷ [] → IsMaking (of_build from b) i before after → RunsBuild b i before after Done
build_done b from i before after at h =
    let of = h.of.2.0 in (
      record {
        all = of.0;
        read = one_read b.from from.now h.of.0 of.0 i before.files at h.of.1 of.1;
        file = h.file.file.items;
        made = file_of_made b.plan of.0 h.file of.2;
        written = h.written;
      },
      h.fresh,
    )

-- what is told of it
pub build_tells : (b : Build) (from : Bor (List Place)) (i : Option (List ℕ)) (files : Option Story) (old new : Option (List ℕ)) → from.now ≡ b.from ∷ [] → TellsMaking (of_build from b) i files old new
    → TellsDone b i files old new
build_tells b from i files old new at h =
    let of = h.2.2 in (
      of.0.0,
      one_read b.from from.now h.2.0 of.0.0 i files at h.2.1 of.0.1,
      h.0,
      of.0.2,
      subst (λ several. TellsThenLeft (made_lines (of_build from b) several h.0) b.summary b.to old new) of.1 h.3,
    )

-- ---- how a combination ends

combine_made_ends : (c : Combine) (i : Option (List ℕ)) (before after : World) (e : MakeError) → OfFiles c i before.files (λ maps. ExplainsMaps c.combination maps (combination.NotMade e)) → Untouched before after
    → IsOfPairs e → RunsCombine c i before after (unwrap_or (made_refusal e) OutOfMemory)
combine_made_ends c i before after _ h left (keys s) = (combination.NotMade (made.Keys s), h, refl, left)
combine_made_ends c i before after _ h left (refused why) = (combination.NotMade (made.Refused why), h, refl, left)
combine_made_ends c i before after _ h left (index_refused why) = (combination.NotMade (made.IndexRefused why), h, refl, left)
combine_made_ends c i before after _ h left memory = inl left

combine_unmade_ends : (c : Combine) (i : Option (List ℕ)) (before after : World) (e : MakingError) → IsUnmade (of_combine c) i before.files e → Untouched before after
    → RunsCombine c i before after (unwrap_or (making_refusal e) OutOfMemory)
combine_unmade_ends c i before after Taken h left = (h.0, h.1, left)
combine_unmade_ends c i before after (Unfound e) h left = inl left
combine_unmade_ends c i before after (Unread place e) h left = inl left
combine_unmade_ends c i before after (NoTrie place (unopened.BadTag why) t) h left =
    (any_of (λ p. HasNoTrie (file_of p) i before.files) c.from.now h.0 place h.1 (h.2, h.3, unopened.BadTag why, h.4), left)
combine_unmade_ends c i before after (NoTrie place (unopened.Damaged why) t) h left =
    (any_of (λ p. HasNoTrie (file_of p) i before.files) c.from.now h.0 place h.1 (h.2, h.3, unopened.Damaged why, h.4), left)
combine_unmade_ends c i before after (NoTrie place (unopened.NotWellFormed k f) t) h left =
    (any_of (λ p. HasNoTrie (file_of p) i before.files) c.from.now h.0 place h.1 (h.2, h.3, unopened.NotWellFormed k f, h.4), left)
combine_unmade_ends c i before after (NoTrie place unopened.OutOfMemory t) h left = inl left
combine_unmade_ends c i before after (NotMade (combination.NoValue why key)) (inl none) left = absurd (no_value none)
combine_unmade_ends c i before after (NotMade (combination.NoValue why key)) (inr h) left = (combination.NoValue why key, h, refl, left)
combine_unmade_ends c i before after (NotMade (combination.NotMade e)) (inl none) left = rw (no_memory_left e none) (inl left)
combine_unmade_ends c i before after (NotMade (combination.NotMade e)) (inr h) left = combine_made_ends c i before after e h left (of_pairs c.combination e h.2.0 h.2.2)
combine_unmade_ends c i before after (Unwritten e) h left = absurd h

combine_unwritten : (c : Combine) (i : Option (List ℕ)) (before after : World) → IsUnwrittenMaking (of_combine c) i before after → FailsCombine c i before after
combine_unwritten c i before after h =
    let of = h.of.2 in
    inr (record { made = h.file; of = (h.of.0, h.of.1, (of.0, of.1, of.2.0)); kept = h.kept })

pub combine_ends : (c : Combine) (i : Option (List ℕ)) (before after : World) (e : MakingError) → EndsMaking (of_combine c) i before after e → Ends (commands.Combine c) i before after (making_refusal e)
combine_ends c i before after e (inl h) = combine_unmade_ends c i before after e h.0 h.1
combine_ends c i before after e (inr h) = rw h.1 (combine_unwritten c i before after h.0)

pub combine_done : (c : Combine) (i : Option (List ℕ)) (before after : World) → IsMaking (of_combine c) i before after → RunsCombine c i before after Done
combine_done c i before after h =
    let of = h.of.2 in
    (record { made = h.file; of = (h.of.0, h.of.1, (of.0, of.1, of.2.0)); written = h.written }, h.fresh)

-- ---- both

-- why is so of the files and of what was read
pub making_cause : (m : Making) (i : Option (List ℕ)) (before after : World) (e : MakingError) → EndsMaking m i before after e → HasMakingCause m i before.files e
making_cause m i before after e (inl h) = inl h.0
making_cause m i before after e (inr h) = inr (h.0.why, h.1)
