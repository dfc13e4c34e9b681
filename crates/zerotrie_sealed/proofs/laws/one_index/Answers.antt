-- The number of what is sealed and the index stand in the file.
use Rattle.zerotrie_sealed.proofs.IndexLaws.{one_index}
use Rattle.zerotrie_sealed.proofs.laws.one_index.Goals as goal

pub returns : goal.returns
returns c = one_index
