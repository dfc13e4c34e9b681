-- The remainder so far, with the bytes that are left.
use Rattle.std.proofs.Common.{◌≡◌, drop}
use Rattle.zerotrie_sealed.specs.Checksum.{after}
use Rattle.zerotrie_sealed.proofs.checksum.after.Given as goal

abbrev pub invariant-loop-byte : goal.invariant-loop-byte
invariant-loop-byte l = after l.remainder (drop l.byte-index l.rest) ≡ after l.fn.start l.fn.bytes
