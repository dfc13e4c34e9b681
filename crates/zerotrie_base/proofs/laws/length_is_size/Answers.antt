use Rattle.zerotrie_base.proofs.CanonicalLemmas.Order.{means_size}
use Rattle.zerotrie_base.proofs.laws.length_is_size.Goals as goal

pub returns : goal.returns
returns c = means_size
