use Rattle.std.proofs.Common.{◌≡◌, ◌+◌, ◌-◌, ◌*◌, ◌^◌, length, reverse}
use Rattle.zerotrie_build.specs.passes.Walking.{IsInside, left_open}
use Rattle.zerotrie_build.proofs.measure.measure_all.Given as goal

abbrev pub invariant-loop-pass : goal.invariant-loop-pass
invariant-loop-pass g l = record {
  items : l.pass.items ≡ l.items;
  waits : IsInside g.K.ZeroTrieWithOptions.kind (g.I.IndexedItems.pairs l.items) l.window (reverse l.pass.branches.items) l.pass.slots.items;
}

abbrev pub decreases-loop-pass : goal.decreases-loop-pass
decreases-loop-pass g l = 2 * (2 ^ 64 - length l.pass.slots.items) + left_open (reverse l.pass.branches.items)
