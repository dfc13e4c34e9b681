use Rattle.zerotrie_sealed.proofs.IndexLaws.{index_behind}
use Rattle.zerotrie_sealed.proofs.laws.index_is_behind.Goals as goal

pub returns : goal.returns
returns c = λ index file start is has. index_behind index file start is has
