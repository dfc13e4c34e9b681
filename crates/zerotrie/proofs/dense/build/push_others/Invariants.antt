use Rattle.std.proofs.Common.{◌≡◌, ◌++◌, map, drop}
use Rattle.zerotrie_core.specs.Items.{keyed}
use Rattle.zerotrie.specs.dense.Layout.{others}
use Rattle.zerotrie.specs.dense.Views.{row_shown}
use Rattle.zerotrie.proofs.dense.build.push_others.Given as goal

abbrev pub invariant-loop-row : goal.invariant-loop-row
invariant-loop-row l = keyed (λ k. k.items) l.pairs.items ++ others l.delimiter (map row_shown (drop l.row-index l.rows))
    ≡ keyed (λ k. k.items) l.initial.pairs.items ++ others l.delimiter (map row_shown l.rows)
