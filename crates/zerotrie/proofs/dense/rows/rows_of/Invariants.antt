use Rattle.std.proofs.Common.{◌≡◌, ◌++◌, map}
use Rattle.zerotrie.specs.dense.Layout.{laid}
use Rattle.zerotrie.specs.dense.RowFaults.{AllAscend, AreAsciiTexts, SomeWideWindow}
use Rattle.zerotrie.specs.dense.Views.{row_shown, rows_in}
use Rattle.zerotrie.specs.dense.Rows.{texts}
use Rattle.zerotrie.proofs.dense.rows.rows_of.Given as goal

abbrev pub invariant-loop-prefix : goal.invariant-loop-prefix
invariant-loop-prefix l = (map row_shown l.rows.items ++ map (laid l.columns) (rows_in l.prefix-iterator) ≡ map (laid l.columns) (rows_in l.entries.entries))
    × AreAsciiTexts (texts (rows_in l.prefix-iterator))
    × (SomeWideWindow (rows_in l.prefix-iterator) → SomeWideWindow (rows_in l.entries.entries))
    × (AllAscend (map (laid l.columns) (rows_in l.prefix-iterator)) → AllAscend (map (laid l.columns) (rows_in l.entries.entries)))
