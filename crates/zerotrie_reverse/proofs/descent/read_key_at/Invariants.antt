use Rattle.std.proofs.Common.{◌≡◌, ◌-◌, ◌++◌}
use Rattle.zerotrie_reverse.specs.Descent.{key_by}
use Rattle.zerotrie_reverse.proofs.descent.read_key_at.Given as goal

abbrev pub invariant-loop-step : goal.invariant-loop-step
invariant-loop-step g l =
    l.key.items ++ key_by (l.place - l._step) g.K.ZeroTrieWithOptions.kind l.rest l.to ≡ key_by l.place g.K.ZeroTrieWithOptions.kind l.bytes l.place
