use Rattle.std.proofs.Common.{◌⊎◌, reverse, inl, inr, refl}
use Rattle.std.proofs.lemmas.Result.{err_from_is_err_and}
use Rattle.zerotrie_files.specs.Disks.{Same, Moved}
use Rattle.zerotrie_run_tests.specs.declared.memory.Step.TheVariants.{Renamed}
use Rattle.zerotrie_run_tests.specs.Steps.{files_after}
use Rattle.zerotrie_run_tests.proofs.StepLemmas.{no_step, one_step, did_move, did_none, moved_file, moved_now}
use Rattle.zerotrie_run_tests.proofs.memory.MemoryDiskDisk.rename.Goals as goal

pub returns-in_err-push-clause-story : goal.returns-in_err-push-clause-story
returns-in_err-push-clause-story c =
    let steps = c.args.self.now.steps.items in
    let old = files_after (reverse steps) in
    let unremoved = c.args.self.now.unremoved in
    let p = err_from_is_err_and c.from_residual-in_err-push.result c.from_residual-in_err-push.ensures.1 in
    rw (p.1, c.in_err-push.ensures.items)
    (no_step (λ files. Same old files ⊎ Moved c.args.from.now c.args.to.now old files) steps unremoved unremoved (inl (λ path. refl)), λ path. refl)

pub returns-clause-story : goal.returns-clause-story
returns-clause-story c =
    let from = c.args.from.now in
    let to = c.args.to.now in
    let steps = c.args.self.now.steps.items in
    let step = Renamed c.in_ok-old.old c.in_ok-new.new in
    let old = files_after (reverse steps) in
    let done = moved_file c.in_ok-old.old c.in_ok-new.new from to old c.in_ok-old.ensures.ok c.in_ok-new.ensures.ok in
    rw c.in_ok-push.ensures.items
    (one_step (λ files. Same old files ⊎ Moved from to old files) steps step c.args.self.now.unremoved c.args.self.now.unremoved (inr done), moved_now steps step from to done)

pub returns-in_err-push-clause-deeds : goal.returns-in_err-push-clause-deeds
returns-in_err-push-clause-deeds c =
    let p = err_from_is_err_and c.from_residual-in_err-push.result c.from_residual-in_err-push.ensures.1 in
    rw p.1 (did_none c.args.self.now.steps.items _ c.in_err-push.ensures.items)

pub returns-clause-deeds : goal.returns-clause-deeds
returns-clause-deeds c = rw c.in_ok-push.ensures.items
    (did_move c.args.self.now.steps.items c.in_ok-old.old c.in_ok-new.new c.args.from.now c.args.to.now c.in_ok-old.ensures.ok c.in_ok-new.ensures.ok)
