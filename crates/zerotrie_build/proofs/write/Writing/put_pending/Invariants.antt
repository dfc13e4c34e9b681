use Rattle.std.proofs.Common.{◌+◌, ◌-◌, List, length, reverse}
use Rattle.zerotrie_build.specs.declared.windows.Window.{Window}
use Rattle.zerotrie_build.specs.passes.Writing.{IsPending}
use Rattle.zerotrie_build.specs.passes.Writes.{WrittenTo}
use Rattle.zerotrie_build.proofs.write.Writing.put_pending.Given as goal

abbrev pub invariant-loop-next : goal.invariant-loop-next
invariant-loop-next g l = (ws : List Window) × WrittenTo g.K.ZeroTrieWithOptions.kind (g.I.IndexedItems.pairs l.items) l.self ws
    × IsPending g.K.ZeroTrieWithOptions.kind (g.I.IndexedItems.pairs l.items) l.input.slots.now l.position (reverse l.pending.items) ws

abbrev pub decreases-loop-next : goal.decreases-loop-next
decreases-loop-next g l = (l.self.len - length l.self.bytes) + length (reverse l.pending.items)
