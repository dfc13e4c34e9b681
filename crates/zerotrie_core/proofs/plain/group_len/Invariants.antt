use Rattle.std.proofs.Common.{take}
use Rattle.zerotrie_base.specs.plain.Encoding.{BeginsAll}
use Rattle.zerotrie_core.proofs.plain.group_len.Given as goal

abbrev pub invariant-loop-i : goal.invariant-loop-i
invariant-loop-i l = BeginsAll l.depth l.byte (take l.i l.items)
