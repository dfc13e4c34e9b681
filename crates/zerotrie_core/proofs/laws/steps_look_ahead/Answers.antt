use Rattle.zerotrie_core.proofs.CursorLemmas.Laws.{steps_answer, suffix_answers}
use Rattle.zerotrie_core.proofs.laws.steps_look_ahead.Goals as goal

pub returns-clause-pairs : goal.returns-clause-pairs
returns-clause-pairs c = steps_answer

pub returns-clause-maps : goal.returns-clause-maps
returns-clause-maps c = suffix_answers
