use Rattle.std.proofs.Common.{◌≡◌}
use Rattle.std.specs.List.{range_with_len}
use Rattle.zerotrie_build.proofs.branch.Layout.number_in_order.Given as goal

abbrev pub invariant-loop-number : goal.invariant-loop-number
invariant-loop-number g l = record {
  numbers : l.self.numbers.items ≡ range_with_len 0 l.number;
  windows : l.self.windows.items ≡ l.fn.self.windows.items;
  table : l.self.table.items ≡ l.fn.self.table.items;
}
