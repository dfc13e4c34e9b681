use Rattle.zerotrie_run_tests.proofs.StepLemmas.{did_remove, removes_held}
use Rattle.zerotrie_run_tests.proofs.memory.MemoryDiskDisk.remove_held.Goals as goal

pub returns-clause-story : goal.returns-clause-story
returns-clause-story c =
    removes_held c.args.path.now c.args.self.now.steps.items c.try_remove.new.self.steps.items c.args.self.now.unremoved c.try_remove.new.self.unremoved c.try_remove.result c.try_remove.ensures.done c.try_remove.ensures.undone

pub returns-clause-deeds : goal.returns-clause-deeds
returns-clause-deeds c =
    did_remove c.args.path.now c.args.self.now.steps.items c.try_remove.new.self.steps.items c.try_remove.result c.try_remove.ensures.done c.try_remove.ensures.undone
