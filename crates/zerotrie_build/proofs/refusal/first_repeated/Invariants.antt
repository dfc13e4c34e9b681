use Rattle.std.proofs.Common.{ℕ, suc, ◌<◌}
use Rattle.std.specs.Prelude.{◌≢◌}
use Rattle.zerotrie_base.specs.Items.{pairs_of}
use Rattle.zerotrie_build.specs.Refused.{key_at}
use Rattle.zerotrie_build.proofs.refusal.first_repeated.Given as goal

abbrev pub invariant-loop-place : goal.invariant-loop-place
invariant-loop-place l = (k : ℕ) → suc k < l.place → key_at (pairs_of l.items) k ≢ key_at (pairs_of l.items) (suc k)
