use Rattle.std.proofs.Common.{◌≡◌, false}
use Rattle.zerotrie_queries.specs.Json.{member_texts}
use Rattle.zerotrie_files.proofs.WroteLemmas.{Wrote}
use Rattle.zerotrie_queries.proofs.listing.json_object.write_members.Given as goal

abbrev pub invariant-loop-text : goal.invariant-loop-text
invariant-loop-text g l = record {
  valid : g.P.TrieListing.IsValid l.initial.pairs → g.P.TrieListing.IsValid l.pairs;
  wrote : g.P.TrieListing.IsValid l.initial.pairs → Wrote (g.W.Write.contents l.initial.output.inner) (g.W.Write.contents l.output.inner)
      (member_texts l.later (g.P.TrieListing.left l.pairs).pairs) (member_texts false (g.P.TrieListing.left l.initial.pairs).pairs);
  failed : l.output.failed ≡ l.initial.output.failed;
}

abbrev pub decreases-loop-text : goal.decreases-loop-text
decreases-loop-text g l = g.P.TrieListing.most l.pairs
