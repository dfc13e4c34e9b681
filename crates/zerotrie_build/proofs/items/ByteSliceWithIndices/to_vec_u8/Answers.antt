use Rattle.std.proofs.Common.{sym}
use Rattle.std.proofs.lemmas.List.{map-append}
use Rattle.zerotrie_build.specs.Items.{pairs}
use Rattle.zerotrie_build.proofs.ItemLemmas.{take_one_more}
use Rattle.zerotrie_build.proofs.items.ByteSliceWithIndices.to_vec_u8.Goals as goal

pub loop-index-preserved : goal.loop-index-preserved
loop-index-preserved c =
    rw (c.in_ok-push.ensures.items, map-append, c.loop-index.invariant) (sym (take_one_more (pairs c.args.self) c.loop-index.index (c.get.result.0.now, c.get.result.1) c.get.ensures))
