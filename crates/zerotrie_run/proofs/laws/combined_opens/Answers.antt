use Rattle.zerotrie_run.proofs.CombinedLaws.{combined_opens}
use Rattle.zerotrie_run.proofs.laws.combined_opens.Goals as goal

pub returns : goal.returns
returns c = combined_opens c.one_trie.ensures
