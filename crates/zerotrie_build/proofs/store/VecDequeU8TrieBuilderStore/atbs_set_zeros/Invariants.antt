use Rattle.std.proofs.Common.{◌≡◌, take}
use Rattle.zerotrie_build.specs.Zeros.{set_to}
use Rattle.zerotrie_build.proofs.store.VecDequeU8TrieBuilderStore.atbs_set_zeros.Given as goal

abbrev pub invariant-loop-i : goal.invariant-loop-i
invariant-loop-i l = l.self.items ≡ set_to l.initial.self.items l.index (take l.i l.bytes)
