use Rattle.std.proofs.Common.{ℕ, ◌+◌, ◌<◌, ◌≤◌, get_or}
use Rattle.zerotrie_base.specs.Kind.{fold_byte}
use Rattle.zerotrie_core.proofs.well_formed.branches.rises.Given as goal

abbrev pub invariant-loop-index : goal.invariant-loop-index
invariant-loop-index g l = record {
  one : 1 ≤ l.index;
  up : (k : ℕ) → k + 1 < l.index → fold_byte g.K.ZeroTrieWithOptions.kind (get_or l.edges k 0) < fold_byte g.K.ZeroTrieWithOptions.kind (get_or l.edges (k + 1) 0);
}
