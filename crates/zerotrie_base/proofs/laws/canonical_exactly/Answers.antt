use Rattle.zerotrie_base.proofs.CanonicalLemmas.Order.{means_enc}
use Rattle.zerotrie_base.proofs.CanonicalLemmas.Fitting.{fits_meant}
use Rattle.zerotrie_base.proofs.CanonicalLemmas.Meaning.{enc_means}
use Rattle.zerotrie_base.proofs.laws.canonical_exactly.Goals as goal

pub returns-clause-means : goal.returns-clause-means
returns-clause-means c = enc_means

pub returns-clause-text : goal.returns-clause-text
returns-clause-text c = means_enc

pub returns-clause-fits : goal.returns-clause-fits
returns-clause-fits c kind ascii = fits_meant kind
