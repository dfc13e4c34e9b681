use Rattle.zerotrie_run.proofs.RefusedLemmas.{unmade_is_refused}
use Rattle.zerotrie_run.proofs.laws.unmade_is_refused.Goals as goal

pub returns : goal.returns
returns c = unmade_is_refused
