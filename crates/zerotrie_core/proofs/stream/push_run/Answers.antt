use Rattle.std.proofs.lemmas.Result.{IfOk-weaker}
use Rattle.zerotrie_core.proofs.ListingLemmas.Left.{moves_any}
use Rattle.zerotrie_core.proofs.stream.push_run.Goals as goal

pub returns : goal.returns
returns g c =
    let told = c.literals.ensures in
    IfOk-weaker _ _ _ (λ next. moves_any c.args.here.rest.now c.args.key.now.items next.rest.now c.push_some.new.key.items c.literals.result told.within told.literals) c.push_some.ensures
