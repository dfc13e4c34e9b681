use Rattle.zerotrie.proofs.WindowLaws.{fullest_best}
use Rattle.zerotrie.proofs.dense.laws.fullest_window.Goals as goal

pub returns : goal.returns
returns c values start = fullest_best values start
