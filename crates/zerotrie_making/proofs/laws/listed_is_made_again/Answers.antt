use Rattle.zerotrie_making.proofs.ListedLemmas.{made_again}
use Rattle.zerotrie_making.proofs.laws.listed_is_made_again.Goals as goal

pub returns : goal.returns
returns c = made_again c.lines_read_back.ensures c.one_reading.ensures
