-- The laws of zerotrie_run, of what a run over files in memory came to.
use Rattle.std.proofs.Common.{◌≡◌, ℕ, List, Option, Some, Result, Ok, Err, refl, subst}
use Rattle.std.specs.Prelude.{◌⊎◌, ◌≤◌, IfOk}
use Rattle.std.specs.declared.alloc.AllocError.{AllocError}
use Rattle.zerotrie_files.specs.Disks.{Story}
use Rattle.zerotrie_run.specs.CombinedLaws.{CombinedOpens, CombineRefusedExactly, IsCombineRefusedExactly}
use Rattle.zerotrie_run.specs.Commands.{Runs}
use Rattle.zerotrie_run.specs.Laws.{IsRefusedExactly, MadeIndexOpens, MadeOpens, MakesFile, RefusedExactly, UnmadeIsRefused}
use Rattle.zerotrie_run.specs.Runs.{world}
use Rattle.zerotrie_run.specs.Statuses.{number_of}
use Rattle.zerotrie_run.specs.declared.command.Build.{Build}
use Rattle.zerotrie_run.specs.declared.command.Combine.{Combine}
use Rattle.zerotrie_run.specs.declared.command.Command.{Command}
use Rattle.zerotrie_run.specs.declared.command.Command.TheVariants as commands
use Rattle.zerotrie_run.specs.declared.command.Place.TheVariants.{Stream}
use Rattle.zerotrie_run.specs.declared.command.Question.{Question}
use Rattle.zerotrie_run.specs.declared.command.TrieFile.{TrieFile}
use Rattle.zerotrie_run.specs.declared.status.Status.{Status}
use Rattle.zerotrie_run.specs.declared.status.Status.TheVariants.{BadInput, Done, Refused, Taken}
use Rattle.zerotrie_run_tests.specs.Laws.{OpensAsBuilt, OpensAsCombined}

-- what a run came to that did not run out of memory before it began
abbrev pub Ran : Command → List ℕ → Story → Story → Status → Type 0
Ran command input before after status = (old : Option (List ℕ)) × (new : Option (List ℕ)) × Runs command (Some input) (world (Some before) old) (world (Some after) new) status

pub built_opens : MadeOpens → MadeIndexOpens → (build : Build) (input : List ℕ) (before after : Story) (r : Result Status AllocError) → IfOk r (Ran (commands.Build build) input before after)
    → IfOk r (λ status. status ≡ Done → (build.to ≡ Stream → ⊥) → (old : Option (List ℕ)) × (new : Option (List ℕ)) × OpensAsBuilt build (Some input) (world (Some before) old) (world (Some after) new))
built_opens trie index build input before after (Ok status) ran = λ done apart.
    let runs = subst (λ s. Runs (commands.Build build) (Some input) (world (Some before) ran.0) (world (Some after) ran.1) s) done ran.2 in (
      ran.0,
      ran.1,
      record {
        made = runs.0;
        trie = λ file stdin at. trie build (Some input) (world (Some before) ran.0) (world (Some after) ran.1) before after refl refl runs.0 file stdin apart at;
        index = λ file stdin at as_index plain. index build (Some input) (world (Some before) ran.0) (world (Some after) ran.1) before after refl refl runs.0 file stdin apart at as_index plain;
      },
    )
built_opens trie index build input before after (Err e) ran = tt

pub unmade_refused : UnmadeIsRefused → (build : Build) (input : List ℕ) (before after : Story) (r : Result Status AllocError) → IfOk r (Ran (commands.Build build) input before after)
    → IfOk r (λ status. (MakesFile build input before → ⊥) → (status ≡ Refused) ⊎ (status ≡ Taken) ⊎ (status ≡ BadInput) ⊎ (3 ≤ number_of status))
unmade_refused law build input before after (Ok status) ran = λ none. law build input before (world (Some before) ran.0) (world (Some after) ran.1) status refl ran.2 none
unmade_refused law build input before after (Err e) ran = tt

pub asked_refused : RefusedExactly → (file : TrieFile) (question : Question) (input : List ℕ) (before after : Story) (r : Result Status AllocError) → IfOk r (Ran (commands.Ask file question) input before after)
    → IfOk r (λ status. (old : Option (List ℕ)) × (new : Option (List ℕ)) × IsRefusedExactly file question input before old new status)
asked_refused law file question input before after (Ok status) ran = (ran.0, ran.1, law file question input before ran.0 ran.1 status ran.2.1)
asked_refused law file question input before after (Err e) ran = tt

pub combined_opens : CombinedOpens → (c : Combine) (input : List ℕ) (before after : Story) (r : Result Status AllocError) → IfOk r (Ran (commands.Combine c) input before after)
    → IfOk r (λ status. status ≡ Done → (c.to ≡ Stream → ⊥) → (old : Option (List ℕ)) × (new : Option (List ℕ)) × OpensAsCombined c (Some input) (world (Some before) old) (world (Some after) new))
combined_opens law c input before after (Ok status) ran = λ done apart.
    let runs = subst (λ s. Runs (commands.Combine c) (Some input) (world (Some before) ran.0) (world (Some after) ran.1) s) done ran.2 in (
      ran.0,
      ran.1,
      record {
        made = runs.0;
        trie = λ file stdin at. law c (Some input) (world (Some before) ran.0) (world (Some after) ran.1) before after refl refl runs.0 file stdin apart at;
      },
    )
combined_opens law c input before after (Err e) ran = tt

pub combine_refused : CombineRefusedExactly → (c : Combine) (input : List ℕ) (before after : Story) (r : Result Status AllocError) → IfOk r (Ran (commands.Combine c) input before after)
    → IfOk r (IsCombineRefusedExactly c input before)
combine_refused law c input before after (Ok status) ran = law c input before (world (Some before) ran.0) (world (Some after) ran.1) status refl ran.2
combine_refused law c input before after (Err e) ran = tt
