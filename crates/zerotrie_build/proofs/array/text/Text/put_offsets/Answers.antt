use Rattle.std.proofs.Common.{◌≡◌, ◌+◌, suc, ap, arith}
use Rattle.zerotrie_base.specs.Branches.{blocks, ends}
use Rattle.zerotrie_build.specs.array.Texts.{newest_first, lens_of}
use Rattle.zerotrie_build.proofs.ArrayLemmas.Text.{puts_then, puts_same}
use Rattle.zerotrie_build.proofs.array.text.Text.put_offsets.Goals as goal

pub loop-place-preserved : goal.loop-place-preserved
loop-place-preserved c =
    let next : suc c.loop-place.place ≡ c.loop-place.place + 1 = omega arith in
    puts_same _ _ _ _ (ap (λ p. blocks p (ends (lens_of (newest_first c.args.siblings.now)))) next) (puts_then _ _ _ _ _ c.loop-place.invariant c.put_block.ensures)
