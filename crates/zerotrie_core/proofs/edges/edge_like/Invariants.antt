use Rattle.std.proofs.Common.{length}
use Rattle.zerotrie_core.specs.cursor.Edges.{HasTheEdges}
use Rattle.zerotrie_core.specs.listing.Runs.{EndsWith}
use Rattle.zerotrie_core.proofs.CursorLemmas.Runs.{SameSpan}
use Rattle.zerotrie_core.proofs.edges.edge_like.Given as goal

abbrev pub invariant-loop-node : goal.invariant-loop-node
invariant-loop-node g l = record {
  edges : HasTheEdges g.K.ZeroTrieWithOptions.kind l.bytes l.rest;
  ends : EndsWith l.bytes l.rest;
  span : SameSpan g.K.ZeroTrieWithOptions.kind l.bytes l.rest;
}

abbrev pub decreases-loop-node : goal.decreases-loop-node
decreases-loop-node g l = length l.rest
