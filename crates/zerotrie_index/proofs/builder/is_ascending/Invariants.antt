use Rattle.std.proofs.Common.{◌↔◌, length}
use Rattle.zerotrie_base.specs.Items.{keyed}
use Rattle.zerotrie_base.specs.Maps.{Ascends}
use Rattle.zerotrie_index.proofs.builder.is_ascending.Given as goal

abbrev pub invariant-loop-first : goal.invariant-loop-first
invariant-loop-first g l = Ascends (keyed g.K.TrieKey.key l.items) ↔ Ascends (keyed g.K.TrieKey.key l.left)

abbrev pub decreases-loop-first : goal.decreases-loop-first
decreases-loop-first g l = length l.left
