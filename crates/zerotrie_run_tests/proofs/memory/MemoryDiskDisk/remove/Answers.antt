use Rattle.zerotrie_run_tests.proofs.StepLemmas.{did_remove, is_noted, removes}
use Rattle.zerotrie_run_tests.proofs.memory.MemoryDiskDisk.remove.Goals as goal

pub returns-clause-story : goal.returns-clause-story
returns-clause-story c =
    removes c.args.path.now c.args.self.now.steps.items c.try_remove-outcome.new.self.steps.items c.args.self.now.unremoved _ c.try_remove-outcome.result c.try_remove-outcome.ensures.done c.try_remove-outcome.ensures.undone (is_noted c.try_remove-outcome.new.self.unremoved c.is_err.result c.try_remove-outcome.result c.is_err.ensures.value)

pub returns-clause-deeds : goal.returns-clause-deeds
returns-clause-deeds c =
    did_remove c.args.path.now c.args.self.now.steps.items c.try_remove-outcome.new.self.steps.items c.try_remove-outcome.result c.try_remove-outcome.ensures.done c.try_remove-outcome.ensures.undone
