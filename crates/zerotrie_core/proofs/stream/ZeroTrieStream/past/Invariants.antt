use Rattle.std.proofs.Common.{length}
use Rattle.zerotrie_core.proofs.ListingLemmas.Passed.{Passing}
use Rattle.zerotrie_core.proofs.stream.ZeroTrieStream.past.Given as goal

abbrev pub invariant-loop-node : goal.invariant-loop-node
invariant-loop-node g l = Passing g.K.ZeroTrieWithOptions.kind l.bytes l.fn.front.items l.sought l.at.rest.now l.left l.key.items l.branches

abbrev pub decreases-loop-node : goal.decreases-loop-node
decreases-loop-node g l = length l.at.rest.now
