use Rattle.zerotrie_core.specs.declared.ZeroTrieBuildError.{ZeroTrieBuildError}
use Rattle.zerotrie.specs.dense.RowFaults.{AreAsciiTexts, AreApart, AreInRange, HasTextFault}
use Rattle.zerotrie.specs.dense.Views.{pairs_in}
use Rattle.zerotrie.specs.dense.Rows.{keys}
use Rattle.zerotrie.proofs.dense.build.check_row.Given as goal

abbrev pub invariant-loop-suffix : goal.invariant-loop-suffix
invariant-loop-suffix l = (AreAsciiTexts (keys (pairs_in l.suffix-iterator)) → AreAsciiTexts (keys (pairs_in l.entries.entries)))
    × (AreApart l.delimiter (keys (pairs_in l.suffix-iterator)) → AreApart l.delimiter (keys (pairs_in l.entries.entries)))
    × (AreInRange (pairs_in l.suffix-iterator) → AreInRange (pairs_in l.entries.entries))
    × ((e : ZeroTrieBuildError) → HasTextFault l.delimiter (keys (pairs_in l.suffix-iterator)) e → HasTextFault l.delimiter (keys (pairs_in l.entries.entries)) e)
