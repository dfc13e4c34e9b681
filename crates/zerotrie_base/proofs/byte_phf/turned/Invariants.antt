use Rattle.std.proofs.Common.{◌≡◌, ◌-◌}
use Rattle.std.specs.Prelude.{bit_xor}
use Rattle.zerotrie_base.specs.Hashes.{turned}
use Rattle.zerotrie_base.proofs.byte_phf.turned.Given as goal

abbrev pub invariant-loop-turn : goal.invariant-loop-turn
invariant-loop-turn l = turned (l.q - l._turn) l.turned ≡ turned (l.q - 95) (bit_xor l.byte l.q)
