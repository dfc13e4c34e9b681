use Rattle.std.proofs.Common.{◌≡◌, ◌+◌, drop}
use Rattle.zerotrie_base.specs.Branches.{total}
use Rattle.zerotrie_build.proofs.measure.total.Given as goal

abbrev pub invariant-loop-len : goal.invariant-loop-len
invariant-loop-len l = total l.lens ≡ l.total + total (drop l.len-index l.lens)
