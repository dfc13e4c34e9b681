use Rattle.std.proofs.Common.{◌≡◌, ℕ, ◌-◌, ◌<◌, ◌≤◌, length, slice_index}
use Rattle.zerotrie_build.proofs.windows.low_end.Given as goal

abbrev pub invariant-loop-end : goal.invariant-loop-end
invariant-loop-end l = record {
  from : l.fn.from ≤ l.end;
  key : l.end ≤ length l.key;
  other : l.end ≤ length l.other;
  same : (i : ℕ) → l.fn.from ≤ i → i < l.end → (slice_index l.key i ≡ slice_index l.other i) × (slice_index l.key i < 128);
}

abbrev pub decreases-loop-end : goal.decreases-loop-end
decreases-loop-end l = length l.key - l.end
