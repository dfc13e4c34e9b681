use Rattle.std.proofs.Common.{◌≡◌, ◌≤◌, ◌++◌, map, drop, length, reverse}
use Rattle.zerotrie_build.specs.passes.Writing.{text_of}
use Rattle.zerotrie_build.proofs.branch.Layout.push_sorted.Given as goal

abbrev pub invariant-loop-index : goal.invariant-loop-index
invariant-loop-index g l = record {
  pending : reverse l.pending.items ≡ map text_of (drop l.index l.self.windows.items) ++ reverse l.initial.pending.items;
  within : l.index ≤ length l.self.windows.items;
}
