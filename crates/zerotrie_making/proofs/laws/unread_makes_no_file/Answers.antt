use Rattle.zerotrie_making.proofs.UnreadLemmas.{no_file}
use Rattle.zerotrie_making.proofs.laws.unread_makes_no_file.Goals as goal

pub returns : goal.returns
returns c = λ plan input file e none some made. no_file c.bad_is_unread.ensures plan.read.source input e made.1 made.0 none some made.2
