use Rattle.std.proofs.Common.{◌≡◌, ◌<◌, ◌*◌, ℕ, false}
use Rattle.zerotrie_core.proofs.ByteSetLemmas.{has_bit}
use Rattle.zerotrie_core.proofs.byte_set.ByteSet.least.Given as goal

abbrev pub invariant-loop-place : goal.invariant-loop-place
invariant-loop-place l = (byte : ℕ) → byte < 64 * l.place → has_bit l.self.words byte ≡ false
