use Rattle.std.proofs.Common.{◌≡◌, ◌-◌, ◌<◌, ◌≤◌, ◌++◌, length, map}
use Rattle.zerotrie_base.specs.Nodes.{targets_behind, begin_of}
use Rattle.zerotrie_core.specs.walk.Visits.{target_parts}
use Rattle.zerotrie_core.specs.walk.Seen.{part_of}
use Rattle.zerotrie_core.proofs.walk.push_targets.Given as goal

abbrev pub invariant-loop-index : goal.invariant-loop-index
invariant-loop-index g l = record {
  within : l.begin ≤ length (targets_behind l.branch.edges l.branch.width l.branch.behind.now);
  begins : l.index < l.branch.edges → l.begin ≡ begin_of l.branch.edges l.branch.width l.branch.behind.now l.index;
  same : map part_of l.parts.items ++ target_parts (part_of l.at) l.branch.edges l.branch.width l.branch.behind.now (l.branch.edges - l.index)
      ≡ map part_of l.initial.parts.items ++ target_parts (part_of l.at) l.branch.edges l.branch.width l.branch.behind.now l.branch.edges;
}
