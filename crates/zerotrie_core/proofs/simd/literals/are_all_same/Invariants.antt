use Rattle.std.proofs.Common.{◌-◌, length}
use Rattle.zerotrie_core.specs.reader.Literals.{AreSame}
use Rattle.zerotrie_core.proofs.simd.literals.are_all_same.Given as goal

abbrev pub invariant-loop-passed : goal.invariant-loop-passed
invariant-loop-passed l = AreSame l.bytes l.key (length l.key) 0 l.passed

abbrev pub decreases-loop-passed : goal.decreases-loop-passed
decreases-loop-passed l = length l.key - l.passed
