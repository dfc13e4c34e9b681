use Rattle.std.proofs.Common.{◌≤◌, length, drop}
use Rattle.zerotrie_build.specs.array.Texts.{newest_first}
use Rattle.zerotrie_build.specs.array.Growing.{AllAt}
use Rattle.zerotrie_build.proofs.array.walk.start_of.Given as goal

abbrev pub invariant-loop-start : goal.invariant-loop-start
invariant-loop-start g l = record {
  within : l.start ≤ length l.siblings.items;
  level : AllAt l.depth (newest_first (drop l.start l.siblings.items));
}

abbrev pub decreases-loop-start : goal.decreases-loop-start
decreases-loop-start g l = l.start
