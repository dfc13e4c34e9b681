use Rattle.std.proofs.Common.{arith}
use Rattle.zerotrie_base.proofs.PlainLemmas.Items.{block_before}
use Rattle.zerotrie_core.proofs.plain.nodes.push_offsets.Goals as goal

pub loop-place-preserved : goal.loop-place-preserved
loop-place-preserved c = block_before _ _ _ _ _ _ (omega arith) c.in_ok-push_block.ensures.ok c.loop-place.invariant
