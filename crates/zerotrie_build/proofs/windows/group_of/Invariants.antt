use Rattle.std.proofs.Common.{◌≡◌, ◌≢◌, ℕ, ◌-◌, ◌<◌, ◌≤◌}
use Rattle.zerotrie_build.specs.passes.Windows.{byte_of}
use Rattle.zerotrie_build.proofs.windows.group_of.Given as goal

abbrev pub invariant-loop-low : goal.invariant-loop-low
invariant-loop-low g l = record {
  some : l.window.from < l.low;
  order : l.low ≤ l.high;
  within : l.high ≤ l.window.to;
  same : (i : ℕ) → l.window.from ≤ i → i < l.low → byte_of (g.I.IndexedItems.pairs l.items) i l.window.depth ≡ byte_of (g.I.IndexedItems.pairs l.items) l.window.from l.window.depth;
  other : l.high < l.window.to → byte_of (g.I.IndexedItems.pairs l.items) l.high l.window.depth ≢ byte_of (g.I.IndexedItems.pairs l.items) l.window.from l.window.depth;
  next : l.high < l.window.to → l.next ≡ byte_of (g.I.IndexedItems.pairs l.items) l.high l.window.depth;
}

abbrev pub decreases-loop-low : goal.decreases-loop-low
decreases-loop-low g l = l.high - l.low
