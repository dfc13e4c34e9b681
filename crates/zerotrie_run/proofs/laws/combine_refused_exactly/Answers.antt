use Rattle.zerotrie_run.proofs.CombinedLaws.{combine_refused_exactly}
use Rattle.zerotrie_run.proofs.laws.combine_refused_exactly.Goals as goal

pub returns : goal.returns
returns c = combine_refused_exactly c.one_trie.ensures
