use Rattle.std.proofs.Common.{arith, refl}
use Rattle.zerotrie_base.proofs.LowerCase.{lower_at}
use Rattle.zerotrie_base.proofs.fold.lower.Goals as goal

pub returns : goal.returns
returns c = lower_at _ refl c.args.byte (omega arith)
