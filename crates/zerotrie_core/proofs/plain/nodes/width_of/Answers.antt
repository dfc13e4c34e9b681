use Rattle.std.proofs.Common.{◌≤◌, ◌<◌, ◌^◌, arith, inl, inr}
use Rattle.std.proofs.lemmas.Bool.{leb-true, leb-false, cases_lt}
use Rattle.std.specs.Prelude.{IfSome, IfNone}
use Rattle.zerotrie_base.specs.Branches.{IsWidth}
use Rattle.zerotrie_core.proofs.Chosen.{chosen}
use Rattle.zerotrie_core.proofs.plain.nodes.width_of.Goals as goal

pub returns-clause-width : goal.returns-clause-width
returns-clause-width c =
    chosen (λ r. IfSome r (λ w. (w ≤ 3) × IsWidth c.args.total w)) _ _ c.then_some.result c.then_some.ensures
    (λ small. (leb-true _ _ small, c.least_width-width.ensures.width)) (λ large. tt)

pub returns-clause-none : goal.returns-clause-none
returns-clause-none c =
    chosen (λ r. IfNone r (2 ^ 32 ≤ c.args.total)) _ _ c.then_some.result c.then_some.ensures
    (λ small. tt)
    (λ large. elim (cases_lt c.args.total 4294967296) [
      | inl less ↦ absurd (
          let most : c.least_width-width.result ≤ 3 = c.least_width-width.ensures.width.least 3 less in
          let over : 3 < c.least_width-width.result = leb-false _ _ large in
          omega arith
          )
      | inr enough ↦ enough
    ])
