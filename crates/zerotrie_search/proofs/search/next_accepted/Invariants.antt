use Rattle.std.proofs.Common.{◌≡◌, ◌≤◌, [], false}
use Rattle.zerotrie_core.specs.WellFormed.{IsWellFormed}
use Rattle.zerotrie_search.specs.Searches.{accepted_left}
use Rattle.zerotrie_search.specs.Trails.{IsTrail, IsFront, trail_bytes}
use Rattle.zerotrie_search.proofs.search.next_accepted.Given as goal

abbrev pub invariant-loop-pairs : goal.invariant-loop-pairs
invariant-loop-pairs g l =
    let accepts = g.T.Automaton.accepts l.automaton in
    record {
      trail : IsTrail (g.T.Automaton.IsAfter l.automaton) (g.T.Automaton.accepts_from l.automaton) accepts [] l.trail.items;
      front : l.pairs.left.ended ≡ false → IsFront (trail_bytes l.trail.items) l.pairs.key;
      same : IsWellFormed l.initial.pairs.kind l.initial.pairs.bytes → accepted_left accepts l.pairs.left ≡ accepted_left accepts l.initial.pairs.left;
      ended : l.pairs.left.ended ≡ l.initial.pairs.left.ended;
      most : l.pairs.most ≤ l.initial.pairs.most;
      work : l.pairs.work ≤ l.initial.pairs.work;
      kind : l.pairs.kind ≡ l.initial.pairs.kind;
      bytes : l.pairs.bytes ≡ l.initial.pairs.bytes;
    }

abbrev pub decreases-loop-pairs : goal.decreases-loop-pairs
decreases-loop-pairs g l = l.pairs.work
