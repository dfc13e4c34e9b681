use Rattle.std.proofs.lemmas.Result.{err_from_is_err_and}
use Rattle.zerotrie_c.specs.Entries.{rows_given}
use Rattle.zerotrie_c.proofs.DenseLemmas.{no_rows_refused}
use Rattle.zerotrie_c.proofs.dense.record_given.Goals as goal

pub returns-in_err-rows-clause-refused : goal.returns-in_err-rows-clause-refused
returns-in_err-rows-clause-refused c =
    let same = err_from_is_err_and c.from_residual.result c.from_residual.ensures.1 in
    rw (same.1, same.2) (no_rows_refused c.args.delimiter
    (rows_given c.args.prefixes.bytes.now c.args.prefixes.ends.now c.args.suffixes.bytes.now c.args.suffixes.ends.now c.args.values.now)
    c.in_err-rows.field-0.0 c.in_err-rows.ensures.refused)

pub returns-clause-built : goal.returns-clause-built
returns-clause-built c = rw c.in_ok-rows.ensures.rows at c.record_of_rows.ensures.built

pub returns-clause-refused : goal.returns-clause-refused
returns-clause-refused c = rw c.in_ok-rows.ensures.rows at c.record_of_rows.ensures.refused
