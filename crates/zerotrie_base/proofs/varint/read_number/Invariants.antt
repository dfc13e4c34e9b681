use Rattle.std.proofs.Common.{◌≡◌, ◌%◌, drop}
use Rattle.zerotrie_base.proofs.varint.read_number.Given as goal
use Rattle.zerotrie_base.proofs.NumberLemmas.Numbers.{read_from}

abbrev pub invariant-loop-i : goal.invariant-loop-i
invariant-loop-i l = read_from l.latent l.value (drop l.i l.rest) ≡ read_from l.latent (l.start % l.latent) l.rest
