use Rattle.zerotrie_core.specs.declared.ZeroTrieBuildError.{ZeroTrieBuildError}
use Rattle.zerotrie.specs.dense.RowFaults.{AllInRange, AreAsciiTexts, AreApart, HasTextFault}
use Rattle.zerotrie.specs.dense.Views.{rows_in}
use Rattle.zerotrie.specs.dense.Rows.{texts}
use Rattle.zerotrie.proofs.dense.build.check_texts.Given as goal

abbrev pub invariant-loop-prefix : goal.invariant-loop-prefix
invariant-loop-prefix l = (AreAsciiTexts (texts (rows_in l.prefix-iterator)) → AreAsciiTexts (texts (rows_in l.entries.entries)))
    × (AreApart l.delimiter (texts (rows_in l.prefix-iterator)) → AreApart l.delimiter (texts (rows_in l.entries.entries)))
    × (AllInRange (rows_in l.prefix-iterator) → AllInRange (rows_in l.entries.entries))
    × ((e : ZeroTrieBuildError) → HasTextFault l.delimiter (texts (rows_in l.prefix-iterator)) e → HasTextFault l.delimiter (texts (rows_in l.entries.entries)) e)
