use Rattle.zerotrie_base.proofs.CanonicalLemmas.Fitting.{fits_meant}
use Rattle.zerotrie_base.proofs.laws.meant_fits.Goals as goal

pub returns : goal.returns
returns c = fits_meant
