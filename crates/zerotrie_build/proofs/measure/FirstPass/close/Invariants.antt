use Rattle.std.proofs.Common.{◌≡◌, ◌≤◌, length, reverse}
use Rattle.zerotrie_build.specs.passes.Walking.{Closing, left_open}
use Rattle.zerotrie_build.proofs.measure.FirstPass.close.Given as goal

abbrev pub invariant-loop-branch : goal.invariant-loop-branch
invariant-loop-branch g l = record {
  closing : Closing g.K.ZeroTrieWithOptions.kind (g.I.IndexedItems.pairs l.initial.self.items) (reverse l.self.branches.items) l.self.slots.items l.len;
  items : l.self.items ≡ l.initial.self.items;
  same : length l.self.slots.items ≡ length l.initial.self.slots.items;
  fewer : left_open (reverse l.self.branches.items) ≤ left_open (reverse l.initial.self.branches.items);
}

abbrev pub decreases-loop-branch : goal.decreases-loop-branch
decreases-loop-branch g l = length l.self.branches.items
