-- The length of the index is in front of it.
use Rattle.zerotrie_sealed.proofs.IndexLaws.{no_index_longer}
use Rattle.zerotrie_sealed.proofs.laws.no_index_longer.Goals as goal

pub returns : goal.returns
returns c = no_index_longer
