use Rattle.zerotrie_core.proofs.ReaderLemmas.Counts.{nodes_few}
use Rattle.zerotrie_core.proofs.laws.few_nodes.Goals as goal

pub returns : goal.returns
returns c kind bytes key m means = nodes_few means.lists key
