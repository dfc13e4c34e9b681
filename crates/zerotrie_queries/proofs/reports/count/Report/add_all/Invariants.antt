use Rattle.std.proofs.Common.{◌≡◌, ◌+◌, ◌<◌, ◌^◌, length}
use Rattle.zerotrie_queries.specs.reports.count.Steps.{with_nodes, IsWithin}
use Rattle.zerotrie_queries.proofs.reports.count.Report.add_all.Given as goal

abbrev pub invariant-loop-visit : goal.invariant-loop-visit
invariant-loop-visit l =
    (with_nodes l.nodes l.self ≡ with_nodes l.initial.nodes l.initial.self) × (l.self.nodes + length l.nodes < 2 ^ 64) × IsWithin l.self

abbrev pub decreases-loop-visit : goal.decreases-loop-visit
decreases-loop-visit l = length l.nodes
