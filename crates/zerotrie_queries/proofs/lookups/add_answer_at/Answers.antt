use Rattle.zerotrie_queries.proofs.AnswerLemmas.{by_index_at}
use Rattle.zerotrie_queries.proofs.lookups.add_answer_at.Goals as goal

pub returns-clause-added : goal.returns-clause-added
returns-clause-added g c = by_index_at (g.S.ReadAt.MayHold c.args.index.now) c.args.asked c.args.key.now c.args.line.now.items c.add_indexed.new.line.items c.in_ok-value.value c.in_ok-add_indexed.field-0
    c.in_ok-value.ensures.found c.in_ok-add_indexed.ensures
