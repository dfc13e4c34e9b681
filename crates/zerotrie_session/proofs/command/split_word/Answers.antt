use Rattle.std.proofs.Common.{rules, inr}
use Rattle.zerotrie_session.proofs.LineLemmas.{word_found, word_alone, key_found}
use Rattle.zerotrie_session.proofs.command.split_word.Goals as goal

pub returns-in-Some-clause-word : goal.returns-in-Some-clause-word
returns-in-Some-clause-word c = word_found c.args.text.now c.in-Some.place (search rules)

pub returns-in-Some-clause-key : goal.returns-in-Some-clause-key
returns-in-Some-clause-key c = inr (key_found c.args.text.now c.in-Some.place (search rules))

pub returns-in-None-clause-word : goal.returns-in-None-clause-word
returns-in-None-clause-word c = word_alone c.args.text.now (search rules)
