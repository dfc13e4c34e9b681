use Rattle.std.proofs.Common.{◌≡◌, take, map}
use Rattle.zerotrie_build.specs.passes.Writing.{place_in}
use Rattle.zerotrie_build.proofs.branch.set_places.Given as goal

abbrev pub invariant-loop-edge : goal.invariant-loop-edge
invariant-loop-edge g l = l.numbers.items ≡ map (λ b. place_in l.edges b) (take l.edge-index l.placed)
