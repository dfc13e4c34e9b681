use Rattle.std.proofs.Common.{◌≡◌, take}
use Rattle.zerotrie_base.specs.Items.{pairs_of}
use Rattle.zerotrie_build.specs.Items.{pairs}
use Rattle.zerotrie_build.proofs.items.ByteSliceWithIndices.to_vec_u8.Given as goal

abbrev pub invariant-loop-index : goal.invariant-loop-index
invariant-loop-index l = pairs_of l.items.items ≡ take l.index (pairs l.self)
