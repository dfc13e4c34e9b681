use Rattle.zerotrie_core.proofs.WellFormedLemmas.Steps.{reduces_more, low_first}
use Rattle.zerotrie_core.proofs.well_formed.pass_twice.Goals as goal

pub returns-in-Some-clause-reduces : goal.returns-in-Some-clause-reduces
returns-in-Some-clause-reduces c = λ some kind. (
    let item = c.in-Some.ensures.item in
    let first = low_first kind c.pass-expected.result.0.rest.now c.in-Some.byte.now c.pass-expected.result.1 item.3.0 item.1 c.if-byte-lt128.true in
    reduces_more (c.pass-expected.ensures.reduces some kind) first.1 (c.pass.ensures.reduces first.0 kind)
    )
