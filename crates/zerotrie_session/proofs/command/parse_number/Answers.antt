use Rattle.std.proofs.Common.{arith}
use Rattle.zerotrie_session.proofs.NumberLemmas.{read_all, too_large}
use Rattle.zerotrie_session.proofs.command.parse_number.Goals as goal

pub returns-in_default-clause-err : goal.returns-in_default-clause-err
returns-in_default-clause-err c =
    too_large c.args.digits.now c.loop-digit.digit-index c.loop-digit.value c.loop-digit.invariant (omega arith) c.in_default.ensures.none

pub returns-clause-ok : goal.returns-clause-ok
returns-clause-ok c = read_all c.args.digits.now c.loop-digit.digit-index c.loop-digit.value c.loop-digit.invariant (omega arith) (grind (arith, c.is_empty.ensures, c.if-is_empty.false)) (omega arith)
