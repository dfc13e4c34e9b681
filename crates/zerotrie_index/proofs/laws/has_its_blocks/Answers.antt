use Rattle.zerotrie_index.proofs.InBlocksLemmas.{its_blocks}
use Rattle.zerotrie_index.proofs.laws.has_its_blocks.Goals as goal

pub returns : goal.returns
returns c = λ index file start is has. its_blocks c.index_is_behind.ensures index file start is has
