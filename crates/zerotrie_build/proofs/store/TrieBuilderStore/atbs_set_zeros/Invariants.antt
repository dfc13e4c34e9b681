use Rattle.std.proofs.Common.{◌≡◌, take}
use Rattle.zerotrie_build.specs.Zeros.{set_to}
use Rattle.zerotrie_build.proofs.store.TrieBuilderStore.atbs_set_zeros.Given as goal

abbrev pub invariant-loop-i : goal.invariant-loop-i
invariant-loop-i g l = g.Self.TrieBuilderStore.list l.self ≡ set_to (g.Self.TrieBuilderStore.list l.initial.self) l.index (take l.i l.bytes)
