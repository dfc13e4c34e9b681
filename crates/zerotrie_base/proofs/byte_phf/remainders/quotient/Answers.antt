use Rattle.std.proofs.Common.{arith, refl}
use Rattle.zerotrie_base.proofs.ReciprocalLemmas.{quotient_at}
use Rattle.zerotrie_base.proofs.byte_phf.remainders.quotient.Goals as goal

pub returns : goal.returns
returns c = quotient_at _ refl c.args.n (omega arith)
