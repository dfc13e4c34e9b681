use Rattle.std.proofs.Common.{◌≡◌, ℕ, ◌<◌, length, get_or}
use Rattle.zerotrie_base.specs.Hashes.{f1}
use Rattle.zerotrie_base.proofs.byte_phf.remainders.Remainders.by.Given as goal

abbrev pub invariant-loop-byte : goal.invariant-loop-byte
invariant-loop-byte l = record { size : length l.of ≡ 256; each : (x : ℕ) → x < l.byte → get_or l.of x 0 ≡ f1 x 0 l.n }
