use Rattle.std.proofs.Common.{◌≡◌, ◌++◌, take, drop, []}
use Rattle.zerotrie_sets.specs.Rows.{EachAscends}
use Rattle.zerotrie_making.specs.Combinations.{OfMeant, in_first_case}
use Rattle.zerotrie_making.proofs.combine.in_first_cases.Given as goal

abbrev pub invariant-loop-at : goal.invariant-loop-at
invariant-loop-at l = record {
  ascend : EachAscends l.tables.items;
  are : OfMeant l.tries (λ maps. l.tables.items ++ in_first_case (take l.at maps) (drop l.at maps) ≡ in_first_case [] maps);
}
