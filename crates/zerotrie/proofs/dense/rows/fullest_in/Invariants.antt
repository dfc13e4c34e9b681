use Rattle.zerotrie.proofs.FullestLemmas.{Going}
use Rattle.zerotrie.proofs.dense.rows.fullest_in.Given as goal

abbrev pub invariant-loop-last : goal.invariant-loop-last
invariant-loop-last l = Going l.values l.last l.first l.fullest
