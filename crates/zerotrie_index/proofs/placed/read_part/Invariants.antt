use Rattle.std.proofs.Common.{◌-◌, ◌≤◌, length}
use Rattle.zerotrie_index.specs.Placed.{IsPart, MayStill, FailsNoMore}
use Rattle.zerotrie_index.proofs.placed.read_part.Given as goal

abbrev pub invariant-loop-part : goal.invariant-loop-part
invariant-loop-part g l =
    (length l.part.items ≤ l.len) × IsPart (g.S.ReadAt.MayHold l.initial.source) l.place l.part.items × MayStill (g.S.ReadAt.MayHold l.initial.source) (g.S.ReadAt.MayHold l.source)
    × FailsNoMore (g.S.ReadAt.MayRefuse l.initial.source) (g.S.ReadAt.MayRefuse l.source)

abbrev pub decreases-loop-part : goal.decreases-loop-part
decreases-loop-part g l = l.len - length l.part.items
