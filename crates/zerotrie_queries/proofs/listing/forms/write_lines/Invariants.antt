use Rattle.std.proofs.Common.{◌≡◌, []}
use Rattle.zerotrie_files.proofs.WroteLemmas.{Wrote}
use Rattle.zerotrie_queries.specs.Printed.{lines_of}
use Rattle.zerotrie_queries.proofs.listing.forms.write_lines.Given as goal

abbrev pub invariant-loop-text : goal.invariant-loop-text
invariant-loop-text g l = record {
  valid : g.P.TrieListing.IsValid l.initial.pairs → g.P.TrieListing.IsValid l.pairs;
  wrote : g.P.TrieListing.IsValid l.initial.pairs → Wrote (g.W.Write.contents l.initial.output.inner) (g.W.Write.contents l.output.inner)
      (lines_of (g.L.PairLine.line l.line) (g.P.TrieListing.left l.pairs).pairs) (lines_of (g.L.PairLine.line l.line) (g.P.TrieListing.left l.initial.pairs).pairs);
  empty : l.text.items ≡ [];
  failed : l.output.failed ≡ l.initial.output.failed;
}

abbrev pub decreases-loop-text : goal.decreases-loop-text
decreases-loop-text g l = g.P.TrieListing.most l.pairs
