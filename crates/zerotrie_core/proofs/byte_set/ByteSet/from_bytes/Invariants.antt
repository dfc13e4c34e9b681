use Rattle.std.proofs.Common.{◌≡◌, ◌↔◌, ℕ, true, take, Contains}
use Rattle.zerotrie_core.specs.ByteSets.{is_in}
use Rattle.zerotrie_core.proofs.byte_set.ByteSet.from_bytes.Given as goal

abbrev pub invariant-loop-byte : goal.invariant-loop-byte
invariant-loop-byte l = (byte : ℕ) → (is_in l.set byte ≡ true) ↔ Contains (take l.byte-index l.bytes) byte
