-- The checksums so far, with those of the bytes that are left.
use Rattle.std.proofs.Common.{◌≡◌, ◌++◌, length}
use Rattle.zerotrie_sealed.specs.Sealed.{sums_of}
use Rattle.zerotrie_sealed.proofs.blocks.add_sums.Given as goal

abbrev pub invariant-loop-rest : goal.invariant-loop-rest
invariant-loop-rest l = l.sums.items ++ sums_of l.rest ≡ l.initial.sums.items ++ sums_of l.bytes

abbrev pub decreases-loop-rest : goal.decreases-loop-rest
decreases-loop-rest l = length l.rest
