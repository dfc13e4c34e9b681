use Rattle.zerotrie.proofs.BuildLemmas.{places_ascend}
use Rattle.zerotrie.proofs.dense.build.columns_of.Goals as goal

pub returns-clause-ascends : goal.returns-clause-ascends
returns-clause-ascends c = places_ascend 0 c.args.suffixes.now.keys c.into_iter-suffix-iterator.ensures.into_iter_gives.4
