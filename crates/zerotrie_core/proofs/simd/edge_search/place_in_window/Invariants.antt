use Rattle.std.proofs.Common.{◌≡◌, ℕ, ◌+◌, ◌≤◌, ◌<◌, length, get_or}
use Rattle.zerotrie_base.specs.Kind.{fold_byte}
use Rattle.zerotrie_base.specs.reader.Reading.{AlwaysRises}
use Rattle.zerotrie_core.proofs.simd.edge_search.place_in_window.Given as goal

abbrev pub invariant-loop-left : goal.invariant-loop-left
invariant-loop-left g l = record {
  some : 0 < l.left;
  inside : l.base + l.left ≤ length l.table;
  within : (k : ℕ) → AlwaysRises g.K.ZeroTrieWithOptions.kind l.table → fold_byte g.K.ZeroTrieWithOptions.kind (get_or l.table k 0) ≡ l.sought → l.first ≤ k → k < l.first + l.count → (l.base ≤ k) × (k < l.base + l.left);
}

abbrev pub decreases-loop-left : goal.decreases-loop-left
decreases-loop-left g l = l.left
