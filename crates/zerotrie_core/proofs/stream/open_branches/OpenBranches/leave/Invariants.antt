use Rattle.std.proofs.Common.{◌∷◌, length, reverse}
use Rattle.zerotrie_core.specs.listing.Opened.{Leaves}
use Rattle.zerotrie_core.proofs.stream.open_branches.OpenBranches.leave.Given as goal

abbrev pub invariant-loop-self : goal.invariant-loop-self
invariant-loop-self g l =
    Leaves l.depth (l.initial.self-inside.top ∷ reverse l.initial.self-inside.outer.items) (l.self-inside.top ∷ reverse l.self-inside.outer.items)

abbrev pub decreases-loop-self : goal.decreases-loop-self
decreases-loop-self g l = length l.self-inside.outer.items
