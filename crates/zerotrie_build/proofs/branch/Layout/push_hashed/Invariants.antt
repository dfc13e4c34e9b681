use Rattle.std.proofs.Common.{◌≡◌, ◌≤◌, ◌+◌, ◌-◌, [], ◌∷◌, ◌++◌, drop, length, reverse, get_or}
use Rattle.zerotrie_build.specs.declared.branch.Next.TheVariants.{Go}
use Rattle.zerotrie_build.specs.passes.Writing.{window_at, position_at, placed_next}
use Rattle.zerotrie_build.proofs.branch.Layout.push_hashed.Given as goal

abbrev pub invariant-loop-index : goal.invariant-loop-index
invariant-loop-index g l = record {
  pending : reverse l.pending.items
      ≡ (placed_next l.ends l.slot l.self.windows.items (drop l.index l.self.numbers.items)
      ++ Go (position_at (window_at l.self.windows.items (length l.self.windows.items - 1)).to (l.slot + get_or l.ends (length l.ends - 1) 0)) ∷ []) ++ reverse l.fn.pending.items;
  within : l.index ≤ length l.self.numbers.items;
}
