use Rattle.std.proofs.Common.{◌≡◌, ◌-◌, ◌<◌, ◌≤◌}
use Rattle.zerotrie_base.specs.Nodes.{end_of}
use Rattle.zerotrie_reverse.specs.Descent.{edge_over}
use Rattle.zerotrie_reverse.proofs.descent.edge_over.Given as goal

abbrev pub invariant-loop-index : goal.invariant-loop-index
invariant-loop-index l = let ends = end_of l.branch.edges l.branch.width l.branch.behind.now in
    (edge_over ends l.to l.index (l.branch.edges - 1 - l.index) ≡ edge_over ends l.to 0 (l.branch.edges - 1)) × (0 < l.index → ends (l.index - 1) ≤ l.to)
