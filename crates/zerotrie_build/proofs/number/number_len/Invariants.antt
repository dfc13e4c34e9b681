use Rattle.std.proofs.Common.{◌≡◌, ℕ, List, suc, length}
use Rattle.zerotrie_base.proofs.CallerLemmas.{Completes}
use Rattle.zerotrie_build.proofs.number.number_len.Given as goal

abbrev pub invariant-loop-rest : goal.invariant-loop-rest
invariant-loop-rest l = record {
  trail : List ℕ;
  len : l.len ≡ suc (length trail);
  completes : Completes l.latent l.number l.rest trail;
}

abbrev pub decreases-loop-rest : goal.decreases-loop-rest
decreases-loop-rest l = l.rest
