use Rattle.zerotrie_lines.proofs.BackLemmas.{lines_back}
use Rattle.zerotrie_lines.proofs.laws.lines_read_back.Goals as goal

pub returns : goal.returns
returns c = λ end pairs below. lines_back end pairs below
