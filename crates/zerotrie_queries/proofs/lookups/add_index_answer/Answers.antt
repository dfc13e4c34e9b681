use Rattle.std.proofs.lemmas.Result.{IfOk-weaker}
use Rattle.zerotrie_queries.proofs.AnswerLemmas.{by_index}
use Rattle.zerotrie_queries.proofs.lookups.add_index_answer.Goals as goal

pub returns : goal.returns
returns c = IfOk-weaker c.add_indexed.result _ _
    (λ found adds. by_index c.args.asked c.args.index.now c.args.key.now c.args.line.now.items c.add_indexed.new.line.items c.get.result found c.get.ensures adds) c.add_indexed.ensures
