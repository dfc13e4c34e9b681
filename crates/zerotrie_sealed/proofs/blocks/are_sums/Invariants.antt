-- What is left of the one is that of the other exactly if all is.
use Rattle.std.proofs.Common.{◌≡◌, ◌↔◌, length}
use Rattle.zerotrie_sealed.specs.Sealed.{sums_of}
use Rattle.zerotrie_sealed.proofs.blocks.are_sums.Given as goal

abbrev pub invariant-loop-rest : goal.invariant-loop-rest
invariant-loop-rest l = (l.left ≡ sums_of l.rest) ↔ (l.sums ≡ sums_of l.bytes)

abbrev pub decreases-loop-rest : goal.decreases-loop-rest
decreases-loop-rest l = length l.rest
