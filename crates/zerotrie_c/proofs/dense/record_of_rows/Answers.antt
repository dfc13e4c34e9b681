use Rattle.std.proofs.Common.{◌∙◌, ap, inl, inr}
use Rattle.std.proofs.lemmas.Result.{err_from_is_err_and}
use Rattle.zerotrie.specs.dense.Records.{record_of}
use Rattle.zerotrie.specs.dense.Views.{owned_parts}
use Rattle.zerotrie_c.proofs.dense.record_of_rows.Goals as goal

pub returns-in_err-table-clause-refused : goal.returns-in_err-table-clause-refused
returns-in_err-table-clause-refused c =
    let same = err_from_is_err_and c.from_residual.result c.from_residual.ensures.1 in
    rw (same.1, same.2) (elim c.in_err-table.ensures [ inl memory ↦ inl memory | inr cause ↦ inr (inl cause) ])

pub returns-clause-built : goal.returns-clause-built
returns-clause-built c = (owned_parts c.in_ok-table.table, c.in_ok-table.ensures, c.in_ok-record.ensures ∙ ap record_of c.as_borrowed.ensures)
