use Rattle.std.proofs.Common.{length}
use Rattle.zerotrie_run_tests.proofs.memory.+held_after.Given as goal

abbrev pub decreases-held_after : goal.decreases-held_after
decreases-held_after l = length l.steps.now
