use Rattle.std.proofs.Common.{◌≡◌, ◌+◌, ◌-◌, ◌≤◌, ◌++◌}
use Rattle.std.specs.Prelude.{replicate}
use Rattle.std.specs.VecDeque.{deque_len, deque_capacity}
use Rattle.zerotrie_build.proofs.store.VecDequeU8TrieBuilderStore.atbs_prepend_n_zeros.Given as goal

abbrev pub invariant-loop-left : goal.invariant-loop-left
invariant-loop-left l = record {
  list : l.self.items ≡ replicate (l.count - l.left) 0 ++ l.initial.self.items;
  room : deque_len l.self + l.left ≤ deque_capacity l.self;
  in_range : l.left ≤ l.count;
}

abbrev pub decreases-loop-left : goal.decreases-loop-left
decreases-loop-left l = l.left
