use Rattle.zerotrie_making.proofs.WholeLemmas.{whole_is}
use Rattle.zerotrie_making.proofs.laws.whole_is_number.Goals as goal

pub returns : goal.returns
returns c = λ digits value. whole_is digits value
