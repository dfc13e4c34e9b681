use Rattle.std.proofs.Common.{◌≡◌, ◌++◌}
use Rattle.zerotrie_core.specs.Maps.{Pairs}
use Rattle.zerotrie_core.specs.Items.{keyed}
use Rattle.zerotrie_core.specs.Texts.{Lists}
use Rattle.zerotrie_any.proofs.list.map_of.Given as goal

abbrev pub invariant-loop-item : goal.invariant-loop-item
invariant-loop-item g l = (pairs : Pairs) → Lists g.K.ZeroTrieWithOptions.kind l.bytes pairs → keyed (λ k. k.items) l.pairs.items ++ l.item-iterator.pairs ≡ pairs
