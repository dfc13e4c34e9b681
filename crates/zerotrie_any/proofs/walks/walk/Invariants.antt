use Rattle.std.proofs.Common.{drop}
use Rattle.zerotrie_any.proofs.WalkLemmas.{Walked}
use Rattle.zerotrie_any.proofs.walks.walk.Given as goal

abbrev pub invariant-loop-op : goal.invariant-loop-op
invariant-loop-op g l = Walked g.K.ZeroTrieWithOptions.kind l.bytes l.ops l.cursor l.answers.items (drop l.op-index l.ops)
