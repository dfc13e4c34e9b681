use Rattle.std.proofs.Common.{◌≡◌, ◌++◌, map, drop}
use Rattle.zerotrie_core.specs.Items.{pairs_of}
use Rattle.zerotrie_core.specs.Maps.{Pairs}
use Rattle.zerotrie_making.proofs.combine.slices_of.Given as goal

abbrev pub invariant-loop-pairs : goal.invariant-loop-pairs
invariant-loop-pairs l = map {B = Pairs} (λ s. s.left.pairs) l.streams.items ++ map {B = Pairs} (λ pairs. pairs_of pairs.items) (drop l.pairs-index l.items)
    ≡ map {B = Pairs} (λ pairs. pairs_of pairs.items) l.items
