use Rattle.zerotrie_session.proofs.NumberLemmas.{ReadTo}
use Rattle.zerotrie_session.proofs.command.parse_number.Given as goal

abbrev pub invariant-loop-digit : goal.invariant-loop-digit
invariant-loop-digit l = ReadTo l.digits l.digit-index l.value
