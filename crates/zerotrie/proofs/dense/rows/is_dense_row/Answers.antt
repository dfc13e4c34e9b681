use Rattle.zerotrie.specs.dense.Views.{pairs_in}
use Rattle.zerotrie.proofs.RefusalLemmas.{dense_is}
use Rattle.zerotrie.proofs.dense.rows.is_dense_row.Goals as goal

pub returns-then-len-columns-clause-dense : goal.returns-then-len-columns-clause-dense
returns-then-len-columns-clause-dense c =
    dense_is c.args.columns c.in_ok-len.len c.args.start (pairs_in c.args.entries.now.entries) c.has_empty_outside.result
    c.requires.start c.in_ok-len.ensures.len c.if-len-columns.true c.has_empty_outside.ensures
