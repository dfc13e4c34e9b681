use Rattle.std.proofs.Common.{◌≤◌, length, drop}
use Rattle.zerotrie_base.specs.plain.Encoding.{pairs_from, Deep, WritesFront, weight}
use Rattle.zerotrie_core.proofs.plain.push_run.Given as goal

abbrev pub invariant-loop-at : goal.invariant-loop-at
invariant-loop-at l = record {
  within : l.at ≤ length l.items;
  deep : Deep l.depth (drop l.at l.items);
  leads : WritesFront l.initial.out.items (pairs_from l.fn.depth l.items) l.out.items (pairs_from l.depth (drop l.at l.items));
}

abbrev pub decreases-loop-at : goal.decreases-loop-at
decreases-loop-at l = weight (pairs_from l.depth (drop l.at l.items))
