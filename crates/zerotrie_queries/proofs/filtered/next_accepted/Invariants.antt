use Rattle.std.proofs.Common.{◌≡◌, ◌≤◌}
use Rattle.zerotrie_search.specs.Searches.{accepted_left}
use Rattle.zerotrie_queries.specs.Kept.{may_keep}
use Rattle.zerotrie_queries.proofs.filtered.next_accepted.Given as goal

abbrev pub invariant-loop-pairs : goal.invariant-loop-pairs
invariant-loop-pairs g l = record {
  valid : g.P.TrieListing.IsValid l.initial.pairs → g.P.TrieListing.IsValid l.pairs;
  same : g.P.TrieListing.IsValid l.initial.pairs → accepted_left (may_keep g.S.Automaton.accepts l.condition) (g.P.TrieListing.left l.pairs) ≡ accepted_left (may_keep g.S.Automaton.accepts l.condition) (g.P.TrieListing.left l.initial.pairs);
  most : g.P.TrieListing.most l.pairs ≤ g.P.TrieListing.most l.initial.pairs;
}

abbrev pub decreases-loop-pairs : goal.decreases-loop-pairs
decreases-loop-pairs g l = g.P.TrieListing.most l.pairs
