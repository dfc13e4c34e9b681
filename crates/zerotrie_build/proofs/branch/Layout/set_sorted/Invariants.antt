use Rattle.std.proofs.Common.{◌≡◌, ◌-◌, ◌≤◌, List, ◌++◌, map}
use Rattle.zerotrie_build.specs.declared.windows.Window.{Window}
use Rattle.zerotrie_build.specs.Order.{Ordered}
use Rattle.zerotrie_build.specs.passes.Windows.{window, edge_of, GoesOnWith}
use Rattle.zerotrie_build.specs.passes.Measured.{TargetWindows}
use Rattle.zerotrie_build.proofs.branch.Layout.set_sorted.Given as goal

abbrev pub invariant-loop-rest : goal.invariant-loop-rest
invariant-loop-rest g l = record {
  parts : (cs : List Window) → TargetWindows (g.I.IndexedItems.pairs l.items) l.rest cs → TargetWindows (g.I.IndexedItems.pairs l.items) l.fn.window (l.self.windows.items ++ cs);
  table : l.self.table.items ≡ map (edge_of (g.I.IndexedItems.pairs l.items)) l.self.windows.items;
  order : l.rest.from ≤ l.rest.to;
  to_is : l.rest.to ≡ l.fn.window.to;
  depth_is : l.rest.depth ≡ l.fn.window.depth;
  ordered : Ordered g.K.ZeroTrieWithOptions.kind (window (g.I.IndexedItems.pairs l.items) l.rest);
  byte : GoesOnWith (g.I.IndexedItems.pairs l.items) l.rest l.byte;
}

abbrev pub decreases-loop-rest : goal.decreases-loop-rest
decreases-loop-rest g l = l.rest.to - l.rest.from
