use Rattle.zerotrie_lines.proofs.BackLemmas.{one_input}
use Rattle.zerotrie_lines.proofs.laws.one_reading.Goals as goal

pub returns : goal.returns
returns c = λ form input pairs others h k. one_input form.format form input pairs others h k
