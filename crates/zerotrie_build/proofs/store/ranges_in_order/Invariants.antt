use Rattle.std.proofs.Common.{◌≡◌, ◌++◌, drop}
use Rattle.std.specs.Prelude.{map}
use Rattle.zerotrie_build.specs.Ranges.{range_at}
use Rattle.std.specs.List.{concat}
use Rattle.zerotrie_build.proofs.store.ranges_in_order.Given as goal

abbrev pub invariant-loop-index : goal.invariant-loop-index
invariant-loop-index l = l.out.items ++ concat (map (range_at l.lengths l.bytes) (drop l.index-index l.order)) ≡ concat (map (range_at l.lengths l.bytes) l.order)
