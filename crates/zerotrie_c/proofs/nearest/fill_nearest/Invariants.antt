use Rattle.std.proofs.Common.{◌≡◌, ◌-◌, ◌+◌, ◌≤◌, ◌++◌, length}
use Rattle.zerotrie_core.specs.Maps.{Pairs}
use Rattle.zerotrie_core.specs.WellFormed.{IsWellFormed}
use Rattle.zerotrie_c.specs.Listed.{part}
use Rattle.zerotrie_c.proofs.PartLemmas.{Going}
use Rattle.zerotrie_c.proofs.NearestLemmas.{Distances}
use Rattle.zerotrie_c.proofs.nearest.fill_nearest.Given as goal

abbrev pub invariant-loop-pairs : goal.invariant-loop-pairs
invariant-loop-pairs g l = record {
  within : l.used ≤ length l.keys;
  few : l.count ≤ l.room;
  automaton_is : l.pairs.automaton ≡ l.initial.pairs.automaton;
  found : Pairs;
  valid : IsWellFormed l.initial.pairs.kind l.initial.pairs.bytes → IsWellFormed l.pairs.kind l.pairs.bytes × (l.initial.pairs.left.pairs ≡ found ++ l.pairs.left.pairs);
  most : length found + l.pairs.most ≤ l.initial.pairs.most;
  going : Going found (part l.initial.keys l.initial.ends l.initial.values 0 l.next_len) (part l.keys l.ends l.values l.count l.next_len) l.used;
  distances : Distances (g.T.Fuzzy.measure l.initial.pairs.automaton) found l.initial.distances l.distances;
}

abbrev pub decreases-loop-pairs : goal.decreases-loop-pairs
decreases-loop-pairs g l = l.room - l.count
