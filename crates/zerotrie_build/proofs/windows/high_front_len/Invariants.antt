use Rattle.std.proofs.Common.{◌≡◌, ◌+◌, ◌-◌, ◌≤◌, length, drop}
use Rattle.zerotrie_build.specs.passes.Windows.{high_front}
use Rattle.zerotrie_build.proofs.windows.high_front_len.Given as goal

abbrev pub invariant-loop-count : goal.invariant-loop-count
invariant-loop-count l = record {
  so_far : high_front l.key l.other ≡ l.count + high_front (drop l.count l.key) (drop l.count l.other);
  key : l.count ≤ length l.key;
  other : l.count ≤ length l.other;
}

abbrev pub decreases-loop-count : goal.decreases-loop-count
decreases-loop-count l = length l.key - l.count
