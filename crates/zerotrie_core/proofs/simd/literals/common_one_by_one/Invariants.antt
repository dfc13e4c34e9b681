use Rattle.std.proofs.Common.{◌-◌}
use Rattle.zerotrie_core.specs.reader.Literals.{AreCommon}
use Rattle.zerotrie_core.proofs.simd.literals.common_one_by_one.Given as goal

abbrev pub invariant-loop-passed : goal.invariant-loop-passed
invariant-loop-passed g l = AreCommon g.K.ZeroTrieWithOptions.kind l.bytes l.key l.passed

abbrev pub decreases-loop-passed : goal.decreases-loop-passed
decreases-loop-passed g l = l.most - l.passed
