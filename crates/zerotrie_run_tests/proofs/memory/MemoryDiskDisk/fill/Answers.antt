use Rattle.std.proofs.Common.{reverse, ◌∙◌}
use Rattle.zerotrie_files.specs.Disks.{SameBeside}
use Rattle.zerotrie_run_tests.specs.declared.memory.Step.TheVariants.{Filled}
use Rattle.zerotrie_run_tests.specs.Steps.{files_after}
use Rattle.zerotrie_run_tests.proofs.StepLemmas.{one_step, now_after, did_fill, filled_file}
use Rattle.zerotrie_run_tests.proofs.memory.MemoryDiskDisk.fill.Goals as goal

pub returns-clause-story : goal.returns-clause-story
returns-clause-story c =
    let path = c.args.path.now in
    let steps = c.args.self.now.steps.items in
    let step = Filled c.in_ok-name.name c.args.mode c.in_ok-content.content in
    let old = files_after (reverse steps) in
    let done = filled_file c.in_ok-name.name c.args.mode c.in_ok-content.content path old c.in_ok-name.ensures.ok in
    rw (c.in_ok-push.ensures.items, ← c.in_ok-content.ensures.items)
    (one_step (SameBeside path old) steps step c.args.self.now.unremoved c.args.self.now.unremoved done.1, now_after steps step path ∙ done.0)

pub returns-clause-deeds : goal.returns-clause-deeds
returns-clause-deeds c = rw c.in_ok-push.ensures.items
    (did_fill c.args.self.now.steps.items c.in_ok-name.name c.args.mode c.in_ok-content.content c.args.path.now c.args.bytes.now c.in_ok-name.ensures.ok c.in_ok-content.ensures.items)
