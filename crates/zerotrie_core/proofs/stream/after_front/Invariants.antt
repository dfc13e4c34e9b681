use Rattle.std.proofs.Common.{◌≡◌, ◌++◌, List, ℕ, take, true}
use Rattle.zerotrie_base.specs.Maps.{same_key}
use Rattle.zerotrie_core.proofs.stream.after_front.Given as goal

abbrev pub invariant-loop-edge : goal.invariant-loop-edge
invariant-loop-edge g l = (taken : List ℕ) × (l.key ≡ taken ++ l.left) × (same_key g.K.ZeroTrieWithOptions.kind (take l.edge-index l.front) taken ≡ true)
