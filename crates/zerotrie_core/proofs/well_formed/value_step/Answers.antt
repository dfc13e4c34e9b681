use Rattle.zerotrie_base.proofs.NumberLemmas.Numbers.{after_shorter}
use Rattle.zerotrie_core.proofs.ListingLemmas.Left.{value_end}
use Rattle.zerotrie_core.proofs.WellFormedLemmas.Steps.{value_reduces, value_allowed, value_unfit}
use Rattle.zerotrie_core.proofs.well_formed.value_step.Goals as goal

pub returns-then-takes_value : goal.returns-then-takes_value
returns-then-takes_value c kind v =
    let rest = c.args.rest.now in
    (λ bytes b. (after_shorter 16 4 v bytes rest b, value_end kind bytes rest v b), value_allowed kind v rest c.args.expected (c.takes_value.ensures.0 c.if-takes_value.true), value_reduces kind v rest)

pub returns-else-takes_value : goal.returns-else-takes_value
returns-else-takes_value c kind v bytes b allowed text =
    value_unfit kind v c.args.rest.now c.args.expected (λ other. (let e = c.takes_value.ensures.1 other in let f = c.if-takes_value.false in cc)) bytes b allowed
