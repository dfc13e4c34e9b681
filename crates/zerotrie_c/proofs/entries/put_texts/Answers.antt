use Rattle.std.proofs.lemmas.Result.{err_from_is_err_and}
use Rattle.zerotrie.specs.dense.Views.{rows_in}
use Rattle.zerotrie_c.proofs.EntryLemmas.{high_prefix, high_suffix}
use Rattle.zerotrie_c.proofs.entries.put_texts.Goals as goal

pub returns-in_err-prefix-clause-refused : goal.returns-in_err-prefix-clause-refused
returns-in_err-prefix-clause-refused c =
    let same = err_from_is_err_and c.from_residual.result c.from_residual.ensures.1 in
    rw (same.1, same.2, c.in_err-prefix.ensures.refused.0)
    (high_prefix (c.args.prefix.now, c.args.suffix.now, c.args.value) (rows_in c.args.rows.now.entries) c.in_err-prefix.ensures.refused.1)

pub returns-in_err-suffix-clause-refused : goal.returns-in_err-suffix-clause-refused
returns-in_err-suffix-clause-refused c =
    let same = err_from_is_err_and c.from_residual-in_err-suffix.result c.from_residual-in_err-suffix.ensures.1 in
    rw (same.1, same.2, c.in_err-suffix.ensures.refused.0)
    (high_suffix (c.args.prefix.now, c.args.suffix.now, c.args.value) (rows_in c.args.rows.now.entries) c.in_err-suffix.ensures.refused.1)
