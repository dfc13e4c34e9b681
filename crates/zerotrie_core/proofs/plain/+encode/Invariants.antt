use Rattle.std.proofs.Common.{◌+◌, drop, length}
use Rattle.zerotrie_base.specs.plain.Encoding.{pairs_from, Deep, weight}
use Rattle.zerotrie_base.proofs.PlainLemmas.Groups.{Grown}
use Rattle.zerotrie_core.proofs.plain.+encode.Given as goal

abbrev pub decreases-encode : goal.decreases-encode
decreases-encode l = weight (pairs_from l.depth l.items.now)

abbrev pub invariant-loop-rest : goal.invariant-loop-rest
invariant-loop-rest l = record {
  deep : Deep (l.depth + 1) l.rest;
  grown : Grown (pairs_from l.depth (drop l.ended l.items)) l.edges.items l.starts.items l.targets.items (pairs_from l.depth l.rest);
}

abbrev pub decreases-loop-rest : goal.decreases-loop-rest
decreases-loop-rest l = length l.rest
