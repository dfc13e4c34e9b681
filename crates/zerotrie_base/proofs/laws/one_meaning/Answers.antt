use Rattle.zerotrie_base.proofs.CanonicalLemmas.Texts.{means_once}
use Rattle.zerotrie_base.proofs.laws.one_meaning.Goals as goal

pub returns : goal.returns
returns c = means_once
