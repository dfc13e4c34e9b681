use Rattle.zerotrie_session.proofs.CallLemmas.{not_first, not_second}
use Rattle.zerotrie_session.proofs.command.parse_byte.Goals as goal

pub returns-in_err-high-clause-none : goal.returns-in_err-high-clause-none
returns-in_err-high-clause-none c = rw c.from_residual.ensures (not_first c.args.digits.now c.in_err-high.ensures.none)

pub returns-in_err-low-clause-none : goal.returns-in_err-low-clause-none
returns-in_err-low-clause-none c = rw c.from_residual-in_err-low.ensures (not_second c.args.digits.now c.in_err-low.ensures.none)
