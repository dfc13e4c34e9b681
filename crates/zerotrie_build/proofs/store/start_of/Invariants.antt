use Rattle.std.proofs.Common.{◌≡◌, take}
use Rattle.zerotrie_base.specs.Branches.{total}
use Rattle.zerotrie_build.proofs.store.start_of.Given as goal

abbrev pub invariant-loop-i : goal.invariant-loop-i
invariant-loop-i l = l.start ≡ total (take l.i l.lengths)
