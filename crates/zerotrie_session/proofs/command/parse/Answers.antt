use Rattle.zerotrie_session.proofs.BadLineLemmas.{bad_is_none}
use Rattle.zerotrie_session.proofs.command.parse.Goals as goal

pub returns-in-Err-clause-none : goal.returns-in-Err-clause-none
returns-in-Err-clause-none c = bad_is_none c.args.line.now c.in-Err.field-0 (rw c.in-Err.is at c.in_ok-request.ensures.err)

pub returns-in-Err-clause-why : goal.returns-in-Err-clause-why
returns-in-Err-clause-why c = (c.ends_in_return.ensures.0 c.if-ends_in_return.true, bad_is_none c.args.line.now c.in-Err.field-0 (rw c.in-Err.is at c.in_ok-request.ensures.err))

pub returns-in-Err-2-clause-none : goal.returns-in-Err-2-clause-none
returns-in-Err-2-clause-none c = bad_is_none c.args.line.now c.in-Err-2.bad (rw c.in-Err-2.is at c.in_ok-request.ensures.err)
