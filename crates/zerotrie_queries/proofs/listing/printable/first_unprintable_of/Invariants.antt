use Rattle.std.proofs.Common.{◌≡◌, ℕ, List}
use Rattle.zerotrie_queries.specs.Printed.{IsFirstUnprintable, are_printable}
use Rattle.zerotrie_queries.proofs.listing.printable.first_unprintable_of.Given as goal

abbrev pub invariant-loop-pairs : goal.invariant-loop-pairs
invariant-loop-pairs g l = record {
  valid : g.P.TrieListing.IsValid l.initial.pairs → g.P.TrieListing.IsValid l.pairs;
  some : g.P.TrieListing.IsValid l.initial.pairs → (key : List ℕ) → IsFirstUnprintable l.form (g.P.TrieListing.left l.pairs).pairs key → IsFirstUnprintable l.form (g.P.TrieListing.left l.initial.pairs).pairs key;
  none : g.P.TrieListing.IsValid l.initial.pairs → are_printable l.form (g.P.TrieListing.left l.pairs).pairs ≡ are_printable l.form (g.P.TrieListing.left l.initial.pairs).pairs;
}

abbrev pub decreases-loop-pairs : goal.decreases-loop-pairs
decreases-loop-pairs g l = g.P.TrieListing.most l.pairs
