use Rattle.std.proofs.Common.{◌≡◌, ◌++◌}
use Rattle.zerotrie_queries.specs.Ranked.{greatest, held_pairs}
use Rattle.zerotrie_queries.proofs.listing.greatest.greatest.Given as goal

abbrev pub invariant-loop-held : goal.invariant-loop-held
invariant-loop-held g l = g.P.TrieListing.IsValid l.fn.pairs → g.P.TrieListing.IsValid l.pairs
    × (greatest l.most (held_pairs l.held.items ++ (g.P.TrieListing.left l.pairs).pairs) ≡ greatest l.most (g.P.TrieListing.left l.fn.pairs).pairs)

abbrev pub decreases-loop-held : goal.decreases-loop-held
decreases-loop-held g l = g.P.TrieListing.most l.pairs
