use Rattle.std.proofs.Common.{◌≡◌, take}
use Rattle.zerotrie_base.specs.Branches.{total}
use Rattle.zerotrie_build.specs.passes.Writing.{target_lens}
use Rattle.zerotrie_build.proofs.write.total.Given as goal

abbrev pub invariant-loop-number : goal.invariant-loop-number
invariant-loop-number l = l.total ≡ total (target_lens l.lens (take l.number-index l.numbers))
