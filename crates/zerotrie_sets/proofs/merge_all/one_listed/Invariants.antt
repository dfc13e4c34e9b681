use Rattle.std.proofs.Common.{◌≡◌, ◌≤◌, length, take}
use Rattle.zerotrie_sets.specs.ManyInputs.{listed_all}
use Rattle.zerotrie_sets.specs.Selections.{present, as_one, AreSame, IsSmall}
use Rattle.zerotrie_sets.specs.declared.selection.Rule.TheVariants.{Equal, Refuse}
use Rattle.zerotrie_sets.proofs.merge_all.one_listed.Given as goal

abbrev pub invariant-loop-input : goal.invariant-loop-input
invariant-loop-input g l = record {
  one : as_one l.rule (present (take l.input-index (listed_all g.S.PairStream.current l.inputs))) ≡ l.one;
  few : l.rule ≡ Refuse → length (present (take l.input-index (listed_all g.S.PairStream.current l.inputs))) ≤ 1;
  same : l.rule ≡ Equal → AreSame (present (take l.input-index (listed_all g.S.PairStream.current l.inputs)));
  small : IsSmall l.one;
}
