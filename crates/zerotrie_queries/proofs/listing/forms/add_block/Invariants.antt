use Rattle.std.proofs.Common.{◌≡◌, ◌++◌, ◌<◌, ◌≤◌, length}
use Rattle.zerotrie_queries.specs.Printed.{lines_of}
use Rattle.zerotrie_queries.proofs.listing.forms.add_block.Given as goal

abbrev pub invariant-loop-pairs : goal.invariant-loop-pairs
invariant-loop-pairs g l = record {
  valid : g.P.TrieListing.IsValid l.initial.pairs → g.P.TrieListing.IsValid l.pairs;
  lines : g.P.TrieListing.IsValid l.initial.pairs → l.text.items ++ lines_of (g.L.PairLine.line l.line) (g.P.TrieListing.left l.pairs).pairs ≡ lines_of (g.L.PairLine.line l.line) (g.P.TrieListing.left l.initial.pairs).pairs;
  most : g.P.TrieListing.most l.pairs ≤ g.P.TrieListing.most l.initial.pairs;
  fewer : 0 < length l.text.items → g.P.TrieListing.most l.pairs < g.P.TrieListing.most l.initial.pairs;
}

abbrev pub decreases-loop-pairs : goal.decreases-loop-pairs
decreases-loop-pairs g l = g.P.TrieListing.most l.pairs
