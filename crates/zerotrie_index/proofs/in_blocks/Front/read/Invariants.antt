use Rattle.std.proofs.Common.{◌-◌, ◌≤◌, length}
use Rattle.zerotrie_index.specs.InBlocks.{MayBeIndex}
use Rattle.zerotrie_index.specs.Placed.{IsPart, MayStill, FailsNoMore}
use Rattle.zerotrie_index.proofs.in_blocks.Front.read.Given as goal

abbrev pub invariant-loop-alloc : goal.invariant-loop-alloc
invariant-loop-alloc g l =
    (length l.part.items ≤ l.len) × IsPart (MayBeIndex (g.S.ReadAt.MayHold l.initial.source) l.self) l.place l.part.items
    × MayStill (g.S.ReadAt.MayHold l.initial.source) (g.S.ReadAt.MayHold l.source)
    × FailsNoMore (g.S.ReadAt.MayRefuse l.initial.source) (g.S.ReadAt.MayRefuse l.source)

abbrev pub decreases-loop-alloc : goal.decreases-loop-alloc
decreases-loop-alloc g l = l.len - length l.part.items
