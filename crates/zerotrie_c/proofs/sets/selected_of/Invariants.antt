use Rattle.std.proofs.Common.{◌≡◌, ◌++◌, length}
use Rattle.zerotrie_sets.specs.Selections.{selected_rows, SomeRowErrs}
use Rattle.zerotrie_sets.specs.Streams.{turns}
use Rattle.zerotrie_sets.specs.declared.selection.RuleError.{RuleError}
use Rattle.zerotrie_c.specs.Listed.{joined, ends_from, values_of}
use Rattle.zerotrie_c.proofs.sets.selected_of.Given as goal

abbrev pub invariant-loop-flat : goal.invariant-loop-flat
invariant-loop-flat l = record {
  keys : l.flat.keys.items ++ joined (selected_rows l.selection l.rule l.rows.left.items) ≡ joined (selected_rows l.selection l.rule l.fn.rows.left.items);
  ends : l.flat.ends.items ++ ends_from (length l.flat.keys.items) (selected_rows l.selection l.rule l.rows.left.items)
      ≡ ends_from 0 (selected_rows l.selection l.rule l.fn.rows.left.items);
  values : l.flat.values.items ++ values_of (selected_rows l.selection l.rule l.rows.left.items) ≡ values_of (selected_rows l.selection l.rule l.fn.rows.left.items);
  later : (e : RuleError) → SomeRowErrs l.selection l.rule l.fn.rows.left.items e → SomeRowErrs l.selection l.rule l.rows.left.items e;
  before : (e : RuleError) → SomeRowErrs l.selection l.rule l.rows.left.items e → SomeRowErrs l.selection l.rule l.fn.rows.left.items e;
}

abbrev pub decreases-loop-flat : goal.decreases-loop-flat
decreases-loop-flat l = turns l.rows.left
