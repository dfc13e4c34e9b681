use Rattle.std.proofs.Common.{refl}
use Rattle.zerotrie_base.specs.Kind.{simple_ascii}
use Rattle.zerotrie_build.proofs.OrderLemmas.Below.{ordered_ascends}
use Rattle.zerotrie_build.proofs.OrderLemmas.Sorting.{ascends_ordered}
use Rattle.zerotrie_build.proofs.items.ByteSliceWithIndices.is_sorted.Goals as goal

pub returns : goal.returns
returns c = (λ t. ordered_ascends _ (c.is_ordered.ensures.0 t), λ up. c.is_ordered.ensures.1 (ascends_ordered simple_ascii _ refl up))
