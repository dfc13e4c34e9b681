use Rattle.std.proofs.Common.{length}
use Rattle.zerotrie_core.proofs.ListingLemmas.Rows.{Counted}
use Rattle.zerotrie_core.proofs.walk.count_pairs.Given as goal

abbrev pub invariant-loop-node : goal.invariant-loop-node
invariant-loop-node g l = Counted g.K.ZeroTrieWithOptions.kind l.initial.rest l.count l.rest

abbrev pub decreases-loop-node : goal.decreases-loop-node
decreases-loop-node g l = length l.rest
