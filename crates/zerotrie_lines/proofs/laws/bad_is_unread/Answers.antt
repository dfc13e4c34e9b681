use Rattle.zerotrie_lines.proofs.BackLemmas.{bad_unread}
use Rattle.zerotrie_lines.proofs.laws.bad_is_unread.Goals as goal

pub returns : goal.returns
returns c = λ form input number fault pairs f h. bad_unread form.format form input number fault pairs f h
