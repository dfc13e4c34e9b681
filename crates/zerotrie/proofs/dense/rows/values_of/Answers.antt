use Rattle.zerotrie.proofs.BuildLemmas.{entries_ascend}
use Rattle.zerotrie.proofs.dense.rows.values_of.Goals as goal

pub returns-clause-ascends : goal.returns-clause-ascends
returns-clause-ascends c = entries_ascend c.args.entries.now.entries c.into_iter-value-iterator.ensures.into_iter_gives.5
