use Rattle.std.proofs.Common.{◌≡◌, ◌++◌}
use Rattle.zerotrie_core.specs.Items.{keyed}
use Rattle.zerotrie.specs.dense.Layout.{beside, under}
use Rattle.zerotrie.specs.dense.Views.{row_shown, pairs_in}
use Rattle.zerotrie.proofs.dense.build.push_others_of.Given as goal

abbrev pub invariant-loop-suffix : goal.invariant-loop-suffix
invariant-loop-suffix l = keyed (λ k. k.items) l.pairs.items
    ++ under l.row.prefix.now l.delimiter (beside (record { prefix = l.row.prefix.now; pairs = pairs_in l.suffix-iterator; offset = l.row.offset; dense = l.row.is_dense }))
    ≡ keyed (λ k. k.items) l.initial.pairs.items ++ under l.row.prefix.now l.delimiter (beside (row_shown l.row))
