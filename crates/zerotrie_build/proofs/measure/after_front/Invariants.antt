use Rattle.std.proofs.Common.{◌≡◌, ℕ, ◌+◌, ◌-◌, ◌^◌}
use Rattle.zerotrie_build.specs.declared.windows.Window.{Window}
use Rattle.zerotrie_build.specs.passes.Measured.{Passes}
use Rattle.zerotrie_build.proofs.measure.after_front.Given as goal

abbrev pub invariant-loop-value : goal.invariant-loop-value
invariant-loop-value g l = record {
  goes_on : (n : ℕ) (last : Window) → Passes g.K.ZeroTrieWithOptions.kind (g.I.IndexedItems.pairs l.items) l.rest last n → Passes g.K.ZeroTrieWithOptions.kind (g.I.IndexedItems.pairs l.items) l.fn.start last (l.len + n);
  to_is : l.rest.to ≡ l.fn.start.to;
}

abbrev pub decreases-loop-value : goal.decreases-loop-value
decreases-loop-value g l = (l.rest.to - l.rest.from) + (2 ^ 64 - l.rest.depth)
