use Rattle.std.proofs.lemmas.Result.{err_from_is_err_and}
use Rattle.std.proofs.Common.{inr}
use Rattle.zerotrie_build.specs.Items.{pairs}
use Rattle.zerotrie_build.proofs.Building.{some_foreign}
use Rattle.zerotrie_build.proofs.builder.build_ascending.Goals as goal

pub returns-in_err-are_in_order : goal.returns-in_err-are_in_order
returns-in_err-are_in_order g c =
    let p = err_from_is_err_and c.from_residual.result c.from_residual.ensures.1 in
    let r = c.in_err-are_in_order.ensures.refused in
    rw (p.1, p.2, r.0) (inr ((λ e. cc), some_foreign g.K.ZeroTrieWithOptions.kind (pairs c.args.items) r.1))
