use Rattle.zerotrie_core.proofs.CursorLemmas.Laws.{no_second}
use Rattle.zerotrie_core.proofs.laws.no_second_value.Goals as goal

pub returns : goal.returns
returns c = no_second
