use Rattle.std.proofs.Common.{drop}
use Rattle.zerotrie_index.specs.Hashed.{hashed_pairs}
use Rattle.zerotrie_index.proofs.PermutedLemmas.{Has}
use Rattle.zerotrie_index.proofs.builder.repeats_in.Given as goal

abbrev pub invariant-loop-other : goal.invariant-loop-other
invariant-loop-other l = Has (hashed_pairs l.others) l.pair.key.now → Has (hashed_pairs (drop l.other-index l.others)) l.pair.key.now
