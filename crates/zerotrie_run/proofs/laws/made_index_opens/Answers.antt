use Rattle.zerotrie_run.proofs.MadeLemmas.{made_index_opens}
use Rattle.zerotrie_run.proofs.laws.made_index_opens.Goals as goal

pub returns : goal.returns
returns c = made_index_opens c.one_index.ensures c.has_its_blocks.ensures
