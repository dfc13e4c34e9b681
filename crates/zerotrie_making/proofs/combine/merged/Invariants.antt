use Rattle.std.proofs.Common.{◌≡◌, ◌++◌, map}
use Rattle.zerotrie_core.specs.Maps.{Pairs}
use Rattle.zerotrie_sets.specs.Rows.{all_joined}
use Rattle.zerotrie_sets.specs.Selections.{selected_rows, SomeRowErrs}
use Rattle.zerotrie_sets.specs.Streams.{turns}
use Rattle.zerotrie_sets.specs.declared.selection.RuleError.{RuleError}
use Rattle.zerotrie_making.proofs.CombineLemmas.{AreOf}
use Rattle.zerotrie_making.proofs.combine.merged.Given as goal

abbrev pub invariant-loop-table : goal.invariant-loop-table
invariant-loop-table g l = record {
  pairs : l.table ++ selected_rows l.combination.selection l.combination.rule l.rows.left.items
      ≡ selected_rows l.combination.selection l.combination.rule (all_joined (map {B = Pairs} (λ s. (g.S.PairStream.left s).pairs) l.fn.streams.items));
  later : (e : RuleError) → SomeRowErrs l.combination.selection l.combination.rule (all_joined (map {B = Pairs} (λ s. (g.S.PairStream.left s).pairs) l.fn.streams.items)) e
      → SomeRowErrs l.combination.selection l.combination.rule l.rows.left.items e;
  each : AreOf (map {B = Pairs} (λ s. (g.S.PairStream.left s).pairs) l.fn.streams.items) l.rows.left.items;
}

abbrev pub decreases-loop-table : goal.decreases-loop-table
decreases-loop-table g l = turns l.rows.left
