use Rattle.std.proofs.Common.{◌≡◌, ◌++◌}
use Rattle.zerotrie_core.specs.Listings.{turns_left}
use Rattle.zerotrie_queries.proofs.any_case.collect.Given as goal

abbrev pub invariant-loop-table : goal.invariant-loop-table
invariant-loop-table g l = l.table ++ (g.S.PairStream.left l.stream).pairs ≡ (g.S.PairStream.left l.fn.stream).pairs

abbrev pub decreases-loop-table : goal.decreases-loop-table
decreases-loop-table g l = turns_left (g.S.PairStream.left l.stream)
