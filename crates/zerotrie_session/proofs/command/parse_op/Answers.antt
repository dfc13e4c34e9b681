use Rattle.std.proofs.Common.{arith}
use Rattle.zerotrie_session.proofs.CallLemmas.{other_word}
use Rattle.zerotrie_session.proofs.command.parse_op.Goals as goal

pub returns-in_err-byte-in-115-clause-none : goal.returns-in_err-byte-in-115-clause-none
returns-in_err-byte-in-115-clause-none c = rw c.from_residual-in_err-byte-in-115.ensures
    (other_word c.args.word.now c.in_ok-first.first.now c.in_ok-first.digits.now c.in_ok-first.ensures.cases.0
    (λ e. c.in_err-byte-in-115.ensures.none) (λ e. omega (arith, e, c.in-115.is)) (λ e. omega (arith, e, c.in-115.is)))
