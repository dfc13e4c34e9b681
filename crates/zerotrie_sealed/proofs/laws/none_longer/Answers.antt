-- The length is in the header.
use Rattle.zerotrie_sealed.proofs.Headers.{none_longer}
use Rattle.zerotrie_sealed.proofs.laws.none_longer.Goals as goal

pub returns : goal.returns
returns c = none_longer
