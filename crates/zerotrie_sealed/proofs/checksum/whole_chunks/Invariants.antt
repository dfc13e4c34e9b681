-- The remainder so far, with the bytes that are left.
use Rattle.std.proofs.Common.{◌≡◌, length}
use Rattle.zerotrie_sealed.specs.Checksum.{after}
use Rattle.zerotrie_sealed.proofs.checksum.whole_chunks.Given as goal

abbrev pub invariant-loop-chunk : goal.invariant-loop-chunk
invariant-loop-chunk l = after l.remainder l.rest ≡ after l.start l.bytes

abbrev pub decreases-loop-chunk : goal.decreases-loop-chunk
decreases-loop-chunk l = length l.rest
