use Rattle.std.proofs.Common.{take}
use Rattle.zerotrie_index.specs.Placed.{MayStill}
use Rattle.zerotrie_queries.specs.Answers.{AreAddedAt}
use Rattle.zerotrie_queries.proofs.FoundLemmas.{nows}
use Rattle.zerotrie_queries.proofs.lookups.add_answers_at.Given as goal

abbrev pub invariant-loop-text : goal.invariant-loop-text
invariant-loop-text g l = AreAddedAt (g.S.ReadAt.MayHold l.initial.index) l.query (take l.text-index (nows l.texts)) l.initial.lines.items l.lines.items l.all
    × MayStill (g.S.ReadAt.MayHold l.initial.index) (g.S.ReadAt.MayHold l.index)
