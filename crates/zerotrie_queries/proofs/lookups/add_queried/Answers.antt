use Rattle.std.proofs.Common.{subst}
use Rattle.std.specs.Prelude.{IfOk}
use Rattle.zerotrie_queries.specs.Finders.{Finds}
use Rattle.zerotrie_queries.specs.Answers.{IsAdded}
use Rattle.zerotrie_queries.proofs.AnswerLemmas.{is_plain, is_escaped}
use Rattle.zerotrie_queries.proofs.lookups.add_queried.Goals as goal

pub returns-in-Plain : goal.returns-in-Plain
returns-in-Plain c = subst (λ q. IfOk c.add_answer.result (λ found. IsAdded q (Finds c.args.finder.now c.args.query.asked) c.args.text.now c.args.line.now.items c.add_answer.new.line.items found))
    (is_plain c.args.query c.in-Plain.is) c.add_answer.ensures

pub returns-in-Escaped : goal.returns-in-Escaped
returns-in-Escaped c = subst (λ q. IfOk c.add_spelled.result (λ found. IsAdded q (Finds c.args.finder.now c.args.query.asked) c.args.text.now c.args.line.now.items c.add_spelled.new.line.items found))
    (is_escaped c.args.query c.in-Escaped.is) c.add_spelled.ensures
