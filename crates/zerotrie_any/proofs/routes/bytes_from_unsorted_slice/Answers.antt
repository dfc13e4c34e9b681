use Rattle.std.proofs.lemmas.Result.{err_from_is_err_and}
use Rattle.zerotrie_any.proofs.routes.bytes_from_unsorted_slice.Goals as goal

pub returns-in_err-builder : goal.returns-in_err-builder
returns-in_err-builder g c =
    let same = err_from_is_err_and c.from_residual.result c.from_residual.ensures.1 in
    rw (same.1, same.2) (rw c.of.ensures.kind at c.in_err-builder.ensures)
