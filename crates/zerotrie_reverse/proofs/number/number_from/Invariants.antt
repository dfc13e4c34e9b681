use Rattle.std.proofs.Common.{◌≡◌, length}
use Rattle.zerotrie_reverse.specs.Descent.{number_from}
use Rattle.zerotrie_reverse.proofs.number.number_from.Given as goal

abbrev pub invariant-loop-byte : goal.invariant-loop-byte
invariant-loop-byte l = number_from l.latent l.value l.rest ≡ number_from l.latent l.digit l.trail

abbrev pub decreases-loop-byte : goal.decreases-loop-byte
decreases-loop-byte l = length l.rest
