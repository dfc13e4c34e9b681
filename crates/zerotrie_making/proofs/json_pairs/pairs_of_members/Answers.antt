use Rattle.std.proofs.Common.{arith}
use Rattle.std.proofs.lemmas.Grind.{common_steps}
use Rattle.zerotrie_any.proofs.JsonLemmas.{lift_more}
use Rattle.zerotrie_making.proofs.json_pairs.pairs_of_members.Goals as goal

pub loop-key-preserved : goal.loop-key-preserved
loop-key-preserved c = grind (arith, common_steps, lift_more, c.loop-key.invariant)
