use Rattle.zerotrie_core.proofs.CursorLemmas.Laws.{stored}
use Rattle.zerotrie_core.proofs.laws.steps_answer_stored_bytes.Goals as goal

pub returns : goal.returns
returns c = stored
