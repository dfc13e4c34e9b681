use Rattle.std.proofs.Common.{arith}
use Rattle.zerotrie_core.specs.ByteSets.{is_in}
use Rattle.zerotrie_core.proofs.ByteSetLemmas.{inserted}
use Rattle.zerotrie_core.proofs.byte_set.ByteSet.insert.Goals as goal

pub returns : goal.returns
unfolding is_in
returns c other = inserted c.args.self.now.words c.args.byte c.args.self.now.whole (omega (arith, c.ranges.byte)) other
