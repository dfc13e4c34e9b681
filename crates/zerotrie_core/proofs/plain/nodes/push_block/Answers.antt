use Rattle.std.proofs.Common.{ap, ◌%◌}
use Rattle.zerotrie_base.proofs.PlainLemmas.Items.{block_more, shifted}
use Rattle.zerotrie_core.proofs.plain.nodes.push_block.Goals as goal

pub loop-offset-preserved : goal.loop-offset-preserved
loop-offset-preserved c = block_more _ _ _ _ _ _ _ c.in_ok-push.ensures.items c.loop-offset.invariant c.loop-offset-test.true (ap (λ x. x % 256) (shifted _ c.args.place))
