use Rattle.std.proofs.Common.{◌∙◌, ap}
use Rattle.std.proofs.lemmas.Result.{err_from_is_err_and}
use Rattle.zerotrie_core.specs.Items.{pairs_of}
use Rattle.zerotrie.specs.dense.Views.{pairs_in}
use Rattle.zerotrie.proofs.RefusalLemmas.{row_refused, window_size}
use Rattle.zerotrie.proofs.dense.rows.window_len.Goals as goal

pub returns-in_err-len-clause-refused : goal.returns-in_err-len-clause-refused
returns-in_err-len-clause-refused c =
    let same = err_from_is_err_and c.from_residual-in_err-len.result c.from_residual-in_err-len.ensures.1 in
    let is = ap pairs_of c.as_slice.ensures.value ∙ c.in_ok-pairs.ensures in
    let refused = rw (c.of.ensures.kind, c.from_str_slice-items.ensures) at c.in_err-len.ensures in
    rw (same.1, same.2) (row_refused (pairs_of c.as_slice.result.now) (pairs_in c.args.entries.now.entries) c.args.start c.in_err-len.field-0.0 is
    c.requires.start c.requires.ascends c.requires.plain refused.0 refused.1)

pub returns-clause-len : goal.returns-clause-len
returns-clause-len c =
    let is = ap pairs_of c.as_slice.ensures.value ∙ c.in_ok-pairs.ensures in
    let len = rw (c.of.ensures.kind, c.from_str_slice-items.ensures) at c.in_ok-len.ensures in
    window_size (pairs_of c.as_slice.result.now) (pairs_in c.args.entries.now.entries) c.args.start c.in_ok-len.len is c.requires.ascends len.2
