use Rattle.std.proofs.Common.{reverse, sym, ◌∙◌}
use Rattle.zerotrie_files.specs.Disks.{SameBeside}
use Rattle.zerotrie_run_tests.specs.declared.memory.Step.TheVariants.{Wrote}
use Rattle.zerotrie_run_tests.specs.Steps.{files_after}
use Rattle.zerotrie_run_tests.proofs.StepLemmas.{did, one_step, written, none_here}
use Rattle.zerotrie_run_tests.proofs.memory.MemoryDiskDisk.make.Goals as goal

pub returns-clause-story : goal.returns-clause-story
returns-clause-story c =
    let path = c.args.path.now in
    let steps = c.args.self.now.steps.items in
    let step = Wrote c.in_ok-name.name c.new.result in
    let old = files_after (reverse steps) in
    let made = written c.in_ok-name.name c.new.result path old c.in_ok-name.ensures.ok in
    rw c.in_ok-push.ensures.items (
      one_step (SameBeside path old) steps step c.args.self.now.unremoved c.args.self.now.unremoved made.1,
      none_here c.held.result (old path) (sym c.is_some.ensures ∙ c.if-is_some.false) c.held.ensures,
    )

pub returns-clause-deeds : goal.returns-clause-deeds
returns-clause-deeds c = rw c.in_ok-push.ensures.items (did c.args.self.now.steps.items (Wrote c.in_ok-name.name c.new.result))
