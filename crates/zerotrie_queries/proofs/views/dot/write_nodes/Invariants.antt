use Rattle.std.proofs.Common.{◌≡◌, take}
use Rattle.zerotrie_files.proofs.WroteLemmas.{Wrote}
use Rattle.zerotrie_queries.specs.views.Dots.{dot_nodes}
use Rattle.zerotrie_queries.proofs.views.dot.write_nodes.Given as goal

abbrev pub invariant-loop-left : goal.invariant-loop-left
invariant-loop-left g l = Wrote (g.W.Write.contents l.initial.output.inner) (g.W.Write.contents l.output.inner) (dot_nodes (take l.left l.nodes)) (dot_nodes (take l.most l.initial.nodes))
    × (l.output.failed ≡ l.initial.output.failed)

abbrev pub decreases-loop-left : goal.decreases-loop-left
decreases-loop-left g l = l.left
