use Rattle.std.proofs.Common.{◌≡◌, ◌≤◌, length, reverse, take}
use Rattle.zerotrie_search.specs.Forks.{outer}
use Rattle.zerotrie_search.proofs.sorted.fork.drop_inner.Given as goal

abbrev pub invariant-loop-count : goal.invariant-loop-count
invariant-loop-count g l = record {
  within : l.count ≤ length l.forks.items;
  same : outer l.depth (reverse (take l.count l.forks.items)) ≡ outer l.depth (reverse l.forks.items);
}

abbrev pub decreases-loop-count : goal.decreases-loop-count
decreases-loop-count g l = l.count
