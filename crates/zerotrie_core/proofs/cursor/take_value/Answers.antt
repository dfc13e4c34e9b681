use Rattle.zerotrie_core.proofs.CursorLemmas.Calls.{take_some, take_none}
use Rattle.zerotrie_core.proofs.cursor.take_value.Goals as goal

pub returns-in_err-value-clause-meaning : goal.returns-in_err-value-clause-meaning
returns-in_err-value-clause-meaning c = rw c.from_residual.ensures (λ kind. take_none kind c.args.bytes.now.now c.in_err-value.ensures.none)

pub returns-clause-meaning : goal.returns-clause-meaning
returns-clause-meaning c kind = take_some kind c.args.bytes.now.now c.in_ok-value.value c.in_ok-value.rest.now c.in_ok-value.ensures.some
