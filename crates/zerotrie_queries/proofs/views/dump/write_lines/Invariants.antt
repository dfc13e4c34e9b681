use Rattle.std.proofs.Common.{◌≡◌, length}
use Rattle.zerotrie_files.proofs.WroteLemmas.{Wrote}
use Rattle.zerotrie_queries.specs.views.Dumps.{dump_lines}
use Rattle.zerotrie_queries.proofs.views.dump.write_lines.Given as goal

abbrev pub invariant-loop-line : goal.invariant-loop-line
invariant-loop-line g l = Wrote (g.W.Write.contents l.initial.output.inner) (g.W.Write.contents l.output.inner) (dump_lines l.nodes) (dump_lines l.initial.nodes)
    × (l.output.failed ≡ l.initial.output.failed)

abbrev pub decreases-loop-line : goal.decreases-loop-line
decreases-loop-line g l = length l.nodes
