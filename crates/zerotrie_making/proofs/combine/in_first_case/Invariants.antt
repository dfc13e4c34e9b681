use Rattle.std.proofs.Common.{◌≡◌, ◌≤◌, take, drop}
use Rattle.std.specs.Prelude.{IfSome}
use Rattle.std.specs.List.{slice_get}
use Rattle.zerotrie_core.specs.Maps.{Ascends}
use Rattle.zerotrie_making.specs.Combinations.{OfMeant, in_case_of}
use Rattle.zerotrie_making.proofs.combine.in_first_case.Given as goal

abbrev pub invariant-loop-before : goal.invariant-loop-before
invariant-loop-before l = record {
  up : Ascends l.table;
  within : l.before ≤ l.at;
  is : OfMeant l.tries (λ maps. IfSome (slice_get maps l.at) (λ m. l.table ≡ in_case_of (drop l.before (take l.at maps)) m));
}

abbrev pub decreases-loop-before : goal.decreases-loop-before
decreases-loop-before l = l.before
