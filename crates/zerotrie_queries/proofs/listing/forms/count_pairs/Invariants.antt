use Rattle.std.proofs.Common.{◌≡◌, ◌+◌, ◌<◌, ◌^◌, length}
use Rattle.zerotrie_queries.proofs.listing.forms.count_pairs.Given as goal

abbrev pub invariant-loop-pairs : goal.invariant-loop-pairs
invariant-loop-pairs g l = record {
  valid : g.P.TrieListing.IsValid l.initial.pairs → g.P.TrieListing.IsValid l.pairs;
  count : g.P.TrieListing.IsValid l.initial.pairs → length (g.P.TrieListing.left l.initial.pairs).pairs < 2 ^ 64 → l.count + length (g.P.TrieListing.left l.pairs).pairs ≡ length (g.P.TrieListing.left l.initial.pairs).pairs;
}

abbrev pub decreases-loop-pairs : goal.decreases-loop-pairs
decreases-loop-pairs g l = g.P.TrieListing.most l.pairs
