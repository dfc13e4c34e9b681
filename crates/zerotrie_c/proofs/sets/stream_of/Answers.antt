use Rattle.std.proofs.Common.{◌≡◌, true, false, is_some, inr, refl, ap, sym, ◌∙◌}
use Rattle.zerotrie_c.proofs.sets.stream_of.Goals as goal

pub returns-in-Ok-Some-clause-pairs : goal.returns-in-Ok-Some-clause-pairs
returns-in-Ok-Some-clause-pairs c =
    let well = c.in-Ok-Some.ensures.valid.0 (ap is_some c.in-Ok-Some.field-0-is) in
    let listed = (rw c.in-Ok-Some.field-0-is at c.in-Ok-Some.ensures.lists) well.0 well.1 in
    (well.0, well.1, ap (λ l. l.pairs) listed.0)

pub returns-in-Ok-Some-clause-ascend : goal.returns-in-Ok-Some-clause-ascend
returns-in-Ok-Some-clause-ascend c =
    let well = c.in-Ok-Some.ensures.valid.0 (ap is_some c.in-Ok-Some.field-0-is) in
    let listed = (rw c.in-Ok-Some.field-0-is at c.in-Ok-Some.ensures.lists) well.0 well.1 in
    listed.1

pub returns-in-Ok-None-clause-err : goal.returns-in-Ok-None-clause-err
returns-in-Ok-None-clause-err c = inr (
  refl,
  λ well. (let same : false ≡ true = sym (ap is_some c.in-Ok-None.field-0-is) ∙ c.in-Ok-None.ensures.valid.1 well in absurd (cc)),
)
