use Rattle.std.proofs.Common.{◌≡◌, take}
use Rattle.zerotrie_queries.specs.Finders.{Finds}
use Rattle.zerotrie_queries.specs.Answers.{AreAnswered}
use Rattle.zerotrie_queries.proofs.FoundLemmas.{nows}
use Rattle.zerotrie_queries.proofs.lookups.write_each.Given as goal

abbrev pub invariant-loop-text : goal.invariant-loop-text
invariant-loop-text g l = AreAnswered l.query (Finds l.finder l.query.asked) (take l.text-index (nows l.texts))
    (g.W.Write.contents l.initial.output.inner) (g.W.Write.contents l.output.inner) l.all
    × (l.output.failed ≡ l.initial.output.failed)
