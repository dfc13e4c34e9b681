use Rattle.zerotrie_build.proofs.Ranges.{set_front}
use Rattle.zerotrie_build.proofs.store.overwrite_front.Goals as goal

pub loop-i-preserved : goal.loop-i-preserved
loop-i-preserved c = rw c.loop-i.invariant (set_front c.args.bytes.now c.args.store.now.items c.loop-i.i 0 c.loop-i-test.true c.requires)
