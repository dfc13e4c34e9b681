use Rattle.zerotrie_core.proofs.CursorLemmas.Calls.{not_read}
use Rattle.zerotrie_core.proofs.cursor.first_value.Goals as goal

pub returns-clause-none : goal.returns-clause-none
returns-clause-none c = not_read c.read_varint_meta3.result c.in_ok-lead.lead.now c.in_ok-lead.rest.now c.args.bytes.now c.in_ok-lead.ensures.cases.0 c.read_varint_meta3.ensures.none
