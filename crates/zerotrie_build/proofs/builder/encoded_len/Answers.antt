use Rattle.std.proofs.lemmas.Result.{err_from_is_err_and}
use Rattle.zerotrie_base.specs.Kind.{kind_with}
use Rattle.zerotrie_build.specs.Items.{pairs}
use Rattle.zerotrie_build.proofs.Building.{ascending_length}
use Rattle.zerotrie_build.proofs.builder.encoded_len.Goals as goal

pub returns-in_err-len : goal.returns-in_err-len
returns-in_err-len c =
    let p = err_from_is_err_and c.from_residual.result c.from_residual.ensures.1 in
    rw (p.1, p.2) (ascending_length (kind_with c.args.options) (pairs c.args.items) _ (c.is_sorted.ensures.0 c.if-not-is_sorted.false) c.in_err-len.ensures)
