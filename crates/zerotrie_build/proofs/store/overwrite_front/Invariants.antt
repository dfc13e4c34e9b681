use Rattle.std.proofs.Common.{◌≡◌, ◌++◌, take, drop}
use Rattle.zerotrie_build.proofs.store.overwrite_front.Given as goal

abbrev pub invariant-loop-i : goal.invariant-loop-i
invariant-loop-i l = l.store.items ≡ take l.i l.bytes ++ drop l.i l.initial.store.items
