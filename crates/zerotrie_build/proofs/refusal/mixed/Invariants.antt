use Rattle.std.proofs.Common.{ℕ, suc, ◌<◌}
use Rattle.zerotrie_base.specs.Items.{keyed}
use Rattle.zerotrie_build.specs.Refused.{key_at}
use Rattle.zerotrie_build.specs.passes.OtherCase.{NoneHasOtherCase}
use Rattle.zerotrie_build.proofs.refusal.mixed.Given as goal

abbrev pub invariant-loop-number : goal.invariant-loop-number
invariant-loop-number g l = (k : ℕ) → suc k < l.number
    → NoneHasOtherCase g.K.ZeroTrieWithOptions.kind (key_at (keyed g.Key.TrieKey.key l.items) k) (key_at (keyed g.Key.TrieKey.key l.items) (suc k)) (keyed g.Key.TrieKey.key l.items)
