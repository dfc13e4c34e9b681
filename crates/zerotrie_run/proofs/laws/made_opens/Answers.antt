use Rattle.zerotrie_run.proofs.MadeLemmas.{made_opens}
use Rattle.zerotrie_run.proofs.laws.made_opens.Goals as goal

pub returns : goal.returns
returns c = made_opens c.one_trie.ensures
