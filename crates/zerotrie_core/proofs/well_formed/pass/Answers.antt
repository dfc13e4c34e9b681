use Rattle.std.proofs.Common.{length, subst, ap, arith}
use Rattle.std.proofs.lemmas.List.{length-drop}
use Rattle.zerotrie_core.specs.well_formed.Testing.{IsPastValue}
use Rattle.zerotrie_core.proofs.WellFormedLemmas.Steps.{past_reduces, past_within}
use Rattle.zerotrie_core.proofs.well_formed.pass.Goals as goal

pub returns-clause-reduces : goal.returns-clause-reduces
returns-clause-reduces c = λ some kind. (
    let after = c.past_value.result.0.rest.now in
    let next = c.past_value.result.1 in
    past_reduces kind c.literals.result c.args.here.rest.now after next some c.literals.ensures.within c.literals.ensures.literals (subst (λ x. IsPastValue x after next) c.after.ensures c.past_value.ensures)
    )

pub returns-clause-shorter : goal.returns-clause-shorter
returns-clause-shorter c =
    let within = past_within c.after.result.rest.now c.past_value.result.0.rest.now c.past_value.result.1 c.past_value.ensures in
    let gone = length-drop c.literals.result c.args.here.rest.now in
    let is = ap length c.after.ensures in
    omega arith
