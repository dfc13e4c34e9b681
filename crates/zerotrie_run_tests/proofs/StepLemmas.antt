-- What a step changes.
use Rattle.std.proofs.Common.{◌≡◌, ◌≢◌, ◌⊎◌, ◌∙◌, inl, inr, ℕ, Result, Ok, Err, OnOk, OnErr, is_err, ◌||◌, append-nil, List, [], ◌∷◌, ◌++◌, reverse, cond, Option, Some, None, bytes_eq, string_bytes, String, Vec, Global, Bor, is_some, Bool, true, false, option_map, sym, refl, ap}
use Rattle.std.proofs.lemmas.List.{reverse-append}
use Rattle.std.proofs.lemmas.List.Elements.{All-nil, All-cons}
use Rattle.std.specs.declared.io.Error.{Error}
use Rattle.std.proofs.lemmas.Slice.Eq.{bytes_eq-Decides}
use Rattle.std.proofs.lemmas.Grind.{flat_map-append}
use Rattle.zerotrie_files.specs.Deeds.Deed.{filled, moved}
use Rattle.zerotrie_files.specs.declared.found.Mode.{Mode}
use Rattle.zerotrie_files.specs.Disks.{Files, Passes, Same, SameBeside, Gone, Moved, Holds, Removes, RemovesHeld}
use Rattle.zerotrie_run_tests.specs.declared.memory.Step.{Step}
use Rattle.zerotrie_run_tests.specs.declared.memory.Step.TheVariants.{Wrote, Filled, Renamed, Removed}
use Rattle.zerotrie_run_tests.specs.Steps.{after, deeds_after, deeds_of, files_after, moments_after, story_of, IsRemoval}

pick_first : (b : Bool) (x y : Option (List ℕ)) → b ≡ true → cond b x y ≡ x
pick_first true x y e = refl
pick_first false x y e = cc

pick_next : (b : Bool) (x y : Option (List ℕ)) → b ≢ true → cond b x y ≡ y
pick_next true x y off = absurd (off refl)
pick_next false x y off = refl

-- a step is a moment
pub one_step : (Fact : Files → Type 0) (steps : List Step) (step : Step) (was is : Bool) → Fact (after step (files_after (reverse steps)))
    → Passes Fact (story_of steps was) (story_of (steps ++ step ∷ []) is)
one_step Fact steps step was is h = rw (reverse-append steps (step ∷ []))
    (record { between = after step (files_after (reverse steps)) ∷ []; is = refl; each = All-cons Fact (after step (files_after (reverse steps))) [] h (All-nil Fact); ends = h })

here : (path : List ℕ) (x y : Option (List ℕ)) → cond (bytes_eq path path) x y ≡ x
here path x y = pick_first (bytes_eq path path) x y ((bytes_eq-Decides path path).1 refl)

there : (path other : List ℕ) (x y : Option (List ℕ)) → other ≢ path → cond (bytes_eq path other) x y ≡ y
there path other x y off = pick_next (bytes_eq path other) x y (λ e. off (sym ((bytes_eq-Decides path other).0 e)))

pub written : (name : String Global) (bytes : Vec ℕ Global) (path : List ℕ) (old : Files) → string_bytes name ≡ path → Holds path bytes.items old (after (Wrote name bytes) old)
written name bytes path old is = rw is (here path (Some bytes.items) (old path), λ other off. there path other (Some bytes.items) (old other) off)

pub filled_file : (name : String Global) (mode : Option Mode) (bytes : Vec ℕ Global) (path : List ℕ) (old : Files) → string_bytes name ≡ path
    → Holds path bytes.items old (after (Filled name mode bytes) old)
filled_file name mode bytes path old is = written name bytes path old is

pub removed : (name : String Global) (path : List ℕ) (old : Files) → string_bytes name ≡ path → SameBeside path old (after (Removed name) old) × (after (Removed name) old path ≡ None)
removed name path old is = rw is ((λ other off. there path other None (old other) off), here path None (old path))

moved_by : (from to : List ℕ) (old : Files) → Moved from to old (λ path. cond (bytes_eq to path) (old from) (cond (bytes_eq from path) None (old path)))
moved_by from to old = record {
  there = here to (old from) (cond (bytes_eq from to) None (old to));
  gone = λ apart. there to from (old from) (cond (bytes_eq from from) None (old from)) apart ∙ here from None (old from);
  others = λ other off far. there to other (old from) (cond (bytes_eq from other) None (old other)) far ∙ there from other None (old other) off;
}

pub moved_file : (from to : String Global) (old_path new_path : List ℕ) (old : Files) → string_bytes from ≡ old_path → string_bytes to ≡ new_path → Moved old_path new_path old (after (Renamed from to) old)
moved_file from to old_path new_path old is_from is_to = rw (← is_from, ← is_to) (moved_by (string_bytes from) (string_bytes to) old)

-- what the files hold after a step
pub now_after : (steps : List Step) (step : Step) (path : List ℕ) → files_after (reverse (steps ++ step ∷ [])) path ≡ after step (files_after (reverse steps)) path
now_after steps step path = rw (reverse-append steps (step ∷ [])) refl

pub moved_now : (steps : List Step) (step : Step) (from to : List ℕ) → Moved from to (files_after (reverse steps)) (after step (files_after (reverse steps)))
    → Moved from to (files_after (reverse steps)) (files_after (reverse (steps ++ step ∷ [])))
moved_now steps step from to m = rw (reverse-append steps (step ∷ [])) m

pub none_here : (found : Option (Bor (List ℕ))) (held : Option (List ℕ)) → is_some found ≡ false → option_map (λ b. b.now) found ≡ held → held ≡ None
none_here None held none e = sym e
none_here (Some b) held none e = cc

-- no step is no moment
pub no_step : (Fact : Files → Type 0) (steps : List Step) (was is : Bool) → Fact (files_after (reverse steps)) → Passes Fact (story_of steps was) (story_of steps is)
no_step Fact steps was is h = record { between = []; is = sym (append-nil (moments_after (reverse steps))); each = All-nil Fact; ends = h }

-- a failed call is noted
pub is_noted : (was failed : Bool) (r : Result (Unit {0}) Error) → failed ≡ is_err r → OnErr r (was || failed ≡ true)
is_noted was failed (Ok u) e = tt
is_noted true failed (Err x) e = refl
is_noted false failed (Err x) e = e

-- a removal, or one that failed
pub removes : (path : List ℕ) (steps more : List Step) (was is : Bool) (r : Result (Unit {0}) Error) → OnOk r (IsRemoval path steps more) → OnErr r (more ≡ steps) → OnErr r (is ≡ true)
    → Removes path r (story_of steps was) (story_of more is)
removes path steps more was is (Ok u) done undone told =
    let gone = removed done.0 path (files_after (reverse steps)) done.1 in
    rw done.2 (one_step (SameBeside path (files_after (reverse steps))) steps (Removed done.0) was is gone.0, now_after steps (Removed done.0) path ∙ gone.1)
removes path steps more was is (Err e) done undone told = rw undone (no_step (SameBeside path (files_after (reverse steps))) steps was is (λ other off. refl), told)

-- the same of a file that is held, which stays then
pub removes_held : (path : List ℕ) (steps more : List Step) (was is : Bool) (r : Result (Unit {0}) Error) → OnOk r (IsRemoval path steps more) → OnErr r (more ≡ steps)
    → RemovesHeld path r (story_of steps was) (story_of more is)
removes_held path steps more was is (Ok u) done undone =
    let old = files_after (reverse steps) in
    let gone = removed done.0 path old done.1 in
    rw done.2 (
      one_step (λ files. Same old files ⊎ Gone path old files) steps (Removed done.0) was is (inr (gone.1, gone.0)),
      (now_after steps (Removed done.0) path ∙ gone.1, λ other off. now_after steps (Removed done.0) other ∙ gone.0 other off),
    )
removes_held path steps more was is (Err e) done undone =
    let old = files_after (reverse steps) in
    rw undone (no_step (λ files. Same old files ⊎ Gone path old files) steps was is (inl (λ other. refl)), λ other. refl)

-- ---- what was done

did_nothing : (steps : List Step) → deeds_after steps ≡ deeds_after steps ++ []
did_nothing steps = sym (append-nil (deeds_after steps))

pub did : (steps : List Step) (step : Step) → deeds_after (steps ++ step ∷ []) ≡ deeds_after steps ++ deeds_of step
did steps step = flat_map-append deeds_of steps (step ∷ []) ∙ ap (λ d. deeds_after steps ++ d) (append-nil (deeds_of step))

-- a file is filled, or moved
pub did_fill : (steps : List Step) (name : String Global) (mode : Option Mode) (content : Vec ℕ Global) (path bytes : List ℕ) → string_bytes name ≡ path → content.items ≡ bytes
    → deeds_after (steps ++ Filled name mode content ∷ []) ≡ deeds_after steps ++ filled path mode bytes ∷ []
did_fill steps name mode content path bytes is has =
    did steps (Filled name mode content) ∙ ap (λ p. deeds_after steps ++ filled p mode content.items ∷ []) is ∙ ap (λ b. deeds_after steps ++ filled path mode b ∷ []) has

pub did_move : (steps : List Step) (from to : String Global) (old new : List ℕ) → string_bytes from ≡ old → string_bytes to ≡ new
    → deeds_after (steps ++ Renamed from to ∷ []) ≡ deeds_after steps ++ moved old new ∷ []
did_move steps from to old new is_old is_new =
    did steps (Renamed from to) ∙ ap (λ p. deeds_after steps ++ moved p (string_bytes to) ∷ []) is_old ∙ ap (λ p. deeds_after steps ++ moved old p ∷ []) is_new

-- a removal, or one that failed, is no deed
pub did_remove : (path : List ℕ) (steps more : List Step) (r : Result (Unit {0}) Error) → OnOk r (IsRemoval path steps more) → OnErr r (more ≡ steps) → deeds_after more ≡ deeds_after steps ++ []
did_remove path steps more (Ok u) done undone = ap deeds_after done.2 ∙ did steps (Removed done.0)
did_remove path steps more (Err e) done undone = ap deeds_after undone ∙ did_nothing steps

-- nor is a call that changed no step
pub did_none : (steps more : List Step) → more ≡ steps → deeds_after more ≡ deeds_after steps ++ []
did_none steps more same = ap deeds_after same ∙ did_nothing steps
