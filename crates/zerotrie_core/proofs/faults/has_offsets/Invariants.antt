use Rattle.std.proofs.Common.{◌≡◌, ◌<◌}
use Rattle.zerotrie_base.specs.Nodes.{begin_of}
use Rattle.zerotrie_core.specs.well_formed.Branching.{InOrder}
use Rattle.zerotrie_core.proofs.faults.has_offsets.Given as goal

abbrev pub invariant-loop-index : goal.invariant-loop-index
invariant-loop-index l = record {
  order : InOrder l.branch.edges l.branch.width l.branch.behind.now l.index;
  begins : l.index < l.branch.edges → l.begin ≡ begin_of l.branch.edges l.branch.width l.branch.behind.now l.index;
}
