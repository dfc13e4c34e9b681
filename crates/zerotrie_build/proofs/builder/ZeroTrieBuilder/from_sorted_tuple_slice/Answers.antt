use Rattle.std.proofs.lemmas.Result.{err_from_is_err_and}
use Rattle.zerotrie_base.specs.Kind.{kind_with}
use Rattle.zerotrie_build.specs.Items.{pairs}
use Rattle.zerotrie_build.proofs.Building.{ascending_refusal}
use Rattle.zerotrie_build.proofs.builder.ZeroTrieBuilder.from_sorted_tuple_slice.Goals as goal

pub returns-in_err-data : goal.returns-in_err-data
returns-in_err-data g c =
    let p = err_from_is_err_and c.from_residual.result c.from_residual.ensures.1 in
    rw (p.1, p.2) (ascending_refusal (kind_with c.args.options) (pairs c.args.items) _ (c.is_sorted.ensures.0 c.if-not-is_sorted.false) c.in_err-data.ensures)
