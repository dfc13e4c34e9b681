use Rattle.std.proofs.Common.{◌≡◌, ◌+◌, ◌≤◌, ◌++◌, length, drop}
use Rattle.std.specs.VecDeque.{deque_len, deque_capacity}
use Rattle.zerotrie_build.proofs.store.VecDequeU8TrieBuilderStore.atbs_extend_front.Given as goal

abbrev pub invariant-loop-index : goal.invariant-loop-index
invariant-loop-index l = record {
  list : l.self.items ≡ drop l.index l.bytes ++ l.initial.self.items;
  room : deque_len l.self + l.index ≤ deque_capacity l.self;
  in_range : l.index ≤ length l.bytes;
}
