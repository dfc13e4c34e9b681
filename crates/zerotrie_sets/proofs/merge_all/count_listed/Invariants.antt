use Rattle.std.proofs.Common.{◌≡◌, ◌≤◌, length, take}
use Rattle.zerotrie_sets.specs.ManyInputs.{listed_all}
use Rattle.zerotrie_sets.specs.Selections.{present}
use Rattle.zerotrie_sets.proofs.merge_all.count_listed.Given as goal

abbrev pub invariant-loop-input : goal.invariant-loop-input
invariant-loop-input g l = record {
  counted : l.count ≡ length (present (take l.input-index (listed_all g.S.PairStream.current l.inputs)));
  most : l.count ≤ l.input-index;
}
