use Rattle.std.proofs.Common.{◌-◌, List, length}
use Rattle.zerotrie_build.proofs.WriteLemmas.Fronts.{Going}
use Rattle.zerotrie_build.specs.declared.windows.Window.{Window}
use Rattle.zerotrie_build.specs.passes.Measured.{HasFirstTargets}
use Rattle.zerotrie_build.proofs.write.Writing.put_front.Given as goal

abbrev pub invariant-loop-value : goal.invariant-loop-value
invariant-loop-value g l =
    (targets : List Window) × (o : HasFirstTargets g.K.ZeroTrieWithOptions.kind (g.I.IndexedItems.pairs l.items) l.fn.window targets)
    × Going g.K.ZeroTrieWithOptions.kind (g.I.IndexedItems.pairs l.items) l.fn.window o.bytes o.behind l.initial.self l.self l.rest

abbrev pub decreases-loop-value : goal.decreases-loop-value
decreases-loop-value g l = l.self.len - length l.self.bytes
