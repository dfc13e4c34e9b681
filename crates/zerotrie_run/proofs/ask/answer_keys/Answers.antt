use Rattle.std.proofs.Common.{map, refl}
use Rattle.zerotrie_queries.proofs.PartLemmas.{on_err}
use Rattle.zerotrie_run.proofs.ask.answer_keys.Goals as goal

pub returns-in_ok-write_answers-in-Words-clause-answered : goal.returns-in_ok-write_answers-in-Words-clause-answered
returns-in_ok-write_answers-in-Words-clause-answered g c = rw c.in-Words.is (map (λ word. word.now) c.in-Words.words.now, (refl, tt), c.in_ok-write_answers-in-Words.ensures.answered)

pub returns-in_err-write_answers-in-Words-clause-part : goal.returns-in_err-write_answers-in-Words-clause-part
returns-in_err-write_answers-in-Words-clause-part g c =
    on_err c.from_residual.result (rw c.in-Words.is (map (λ word. word.now) c.in-Words.words.now, refl, c.in_err-write_answers-in-Words.ensures.part))
