use Rattle.zerotrie_run.proofs.RefusedLemmas.{refused_exactly}
use Rattle.zerotrie_run.proofs.laws.refused_exactly.Goals as goal

pub returns : goal.returns
returns c = refused_exactly c.one_trie.ensures
