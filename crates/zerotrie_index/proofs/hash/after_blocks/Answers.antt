use Rattle.std.proofs.Common.{arith, sym, ◌∙◌}
use Rattle.zerotrie_index.proofs.HashLemmas.{one_block, no_block}
use Rattle.zerotrie_index.proofs.hash.after_blocks.Goals as goal

pub loop-rest-preserved : goal.loop-rest-preserved
loop-rest-preserved c = cc (one_block c.args.factor c.loop-rest.state c.loop-rest.rest.now c.loop-rest-test.true, c.loop-rest.invariant)

pub returns : goal.returns
returns c = sym (no_block c.args.factor c.loop-rest.state c.loop-rest.rest.now (omega (arith, c.loop-rest-test.false))) ∙ c.loop-rest.invariant
