use Rattle.std.proofs.Common.{◌≤◌, ◌-◌, [], length, take}
use Rattle.zerotrie_search.specs.Trails.{IsTrail, IsFront, StandsAfter, trail_bytes}
use Rattle.zerotrie_search.proofs.trail.read.Given as goal

abbrev pub invariant-loop-place : goal.invariant-loop-place
invariant-loop-place g l =
    let after = g.T.Automaton.IsAfter l.automaton in
    let from = g.T.Automaton.accepts_from l.automaton in
    let accepts = g.T.Automaton.accepts l.automaton in
    record {
      within : l.place ≤ length l.key;
      front : IsFront (trail_bytes l.trail.items) l.key;
      trail : IsTrail after from accepts [] l.trail.items;
      state : StandsAfter after from accepts (take l.place l.key) l.state;
    }

abbrev pub decreases-loop-place : goal.decreases-loop-place
decreases-loop-place g l = length l.key - l.place
