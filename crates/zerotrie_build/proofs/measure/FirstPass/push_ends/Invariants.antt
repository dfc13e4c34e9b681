use Rattle.std.proofs.Common.{◌≡◌, List, ◌-◌, ◌≤◌, ◌++◌}
use Rattle.zerotrie_build.specs.declared.windows.Window.{Window}
use Rattle.zerotrie_build.specs.Order.{Ordered}
use Rattle.zerotrie_build.specs.passes.Windows.{window, GoesOnWith}
use Rattle.zerotrie_build.specs.passes.Measured.{TargetWindows}
use Rattle.zerotrie_build.specs.passes.Walking.{item_ends}
use Rattle.zerotrie_build.proofs.measure.FirstPass.push_ends.Given as goal

abbrev pub invariant-loop-rest : goal.invariant-loop-rest
invariant-loop-rest g l = record {
  items : l.self.items ≡ l.initial.self.items;
  branches : l.self.branches.items ≡ l.initial.self.branches.items;
  added : List Window;
  slots : l.self.slots.items ≡ l.initial.self.slots.items ++ item_ends added;
  parts : (more : List Window) → TargetWindows (g.I.IndexedItems.pairs l.initial.self.items) l.rest more → TargetWindows (g.I.IndexedItems.pairs l.initial.self.items) l.fn.window (added ++ more);
  order : l.rest.from ≤ l.fn.window.to;
  to : l.rest.to ≡ l.fn.window.to;
  depth : l.rest.depth ≡ l.fn.window.depth;
  ordered : Ordered g.K.ZeroTrieWithOptions.kind (window (g.I.IndexedItems.pairs l.initial.self.items) l.rest);
  byte : GoesOnWith (g.I.IndexedItems.pairs l.initial.self.items) l.rest l.byte;
}

abbrev pub decreases-loop-rest : goal.decreases-loop-rest
decreases-loop-rest g l = l.rest.to - l.rest.from
