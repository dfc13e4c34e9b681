use Rattle.std.proofs.Common.{subst}
use Rattle.zerotrie_making.specs.Made.{IsMade}
use Rattle.zerotrie_run_tests.specs.Making.{MeanSame}
use Rattle.zerotrie_run_tests.proofs.MakingLemmas.{mean_pairs}
use Rattle.zerotrie_run_tests.proofs.making.makes_again.Goals as goal

pub returns : goal.returns
returns c =
    let lines = c.args.lines.items in
    let first = c.in_ok-first.first in
    let second = c.in_ok-second.second in
    let made = subst (λ plan. IsMade plan lines first) c.plan_of.ensures c.in_ok-first.ensures.ok in
    mean_pairs c.args.kind lines first second made (subst (λ bytes. MeanSame c.args.kind bytes second.file.items) c.as_slice.ensures.value c.in_ok-second.ensures.same)
