use Rattle.zerotrie_lines.proofs.EscapeLemmas.{spells_itself}
use Rattle.zerotrie_lines.proofs.LineLemmas.{none_is}
use Rattle.zerotrie_lines.proofs.lines.add_spelled.Goals as goal

pub returns-in_ok-push-in-None-clause-yes : goal.returns-in_ok-push-in-None-clause-yes
returns-in_ok-push-in-None-clause-yes c = λ _. (c.args.text.now, spells_itself c.args.text.now (none_is 92 c.args.text.now c.in-None.ensures), c.in_ok-push-in-None.ensures.ok)
