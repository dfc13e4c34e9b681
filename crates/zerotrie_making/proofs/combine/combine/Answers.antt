use Rattle.std.proofs.Common.{◌≡◌, ◌∙◌, sym, subst, true, false}
use Rattle.std.specs.List.{AllZip}
use Rattle.std.proofs.lemmas.Result.{IfOk-weaker, IfErr-weaker}
use Rattle.zerotrie_making.specs.Combinations.{AreTaken, IsNotTaken}
use Rattle.zerotrie_making.proofs.CombineLemmas.{all_ignore_meant, listed_in_case, listed_as_is}
use Rattle.zerotrie_making.proofs.combine.combine.Goals as goal

pub returns-then-all_ignore_case-clause-ok : goal.returns-then-all_ignore_case-clause-ok
returns-then-all_ignore_case-clause-ok c =
    IfOk-weaker c.combine_in_any_case.result _ _
    (λ table taken maps meant. subst (λ lists. AreTaken c.args.combination lists table)
    (listed_in_case maps (sym (all_ignore_meant c.args.tries.now maps meant) ∙ sym c.all_ignore_case.ensures ∙ c.if-all_ignore_case.true)) (taken maps meant))
    c.combine_in_any_case.ensures.ok

pub returns-then-all_ignore_case-clause-err : goal.returns-then-all_ignore_case-clause-err
returns-then-all_ignore_case-clause-err c =
    IfErr-weaker c.combine_in_any_case.result _ _
    (λ e why maps meant. subst (λ lists. IsNotTaken c.args.combination lists e)
    (listed_in_case maps (sym (all_ignore_meant c.args.tries.now maps meant) ∙ sym c.all_ignore_case.ensures ∙ c.if-all_ignore_case.true)) (why maps meant))
    c.combine_in_any_case.ensures.err

pub returns-in-Some-clause-ok : goal.returns-in-Some-clause-ok
returns-in-Some-clause-ok c = λ maps meant.
    let known = rw c.in-Some.is at c.in_ok-table.ensures in
    subst (λ lists. AreTaken c.args.combination lists c.in-Some.table)
    (listed_as_is maps (sym (all_ignore_meant c.args.tries.now maps meant) ∙ sym c.all_ignore_case.ensures ∙ c.if-all_ignore_case.false)) (known maps meant)

pub returns-in_ok-streams_of-in-None-clause-ok : goal.returns-in_ok-streams_of-in-None-clause-ok
returns-in_ok-streams_of-in-None-clause-ok c =
    IfOk-weaker c.merged.result _ _
    (λ table taken maps meant. subst (λ lists. AreTaken c.args.combination lists table)
    (c.in_ok-streams_of-in-None.ensures.lists maps meant ∙ listed_as_is maps (sym (all_ignore_meant c.args.tries.now maps meant) ∙ sym c.all_ignore_case.ensures ∙ c.if-all_ignore_case.false)) taken)
    c.merged.ensures.ok

pub returns-in_ok-streams_of-in-None-clause-err : goal.returns-in_ok-streams_of-in-None-clause-err
returns-in_ok-streams_of-in-None-clause-err c =
    IfErr-weaker c.merged.result _ _
    (λ e why maps meant. subst (λ lists. IsNotTaken c.args.combination lists e)
    (c.in_ok-streams_of-in-None.ensures.lists maps meant ∙ listed_as_is maps (sym (all_ignore_meant c.args.tries.now maps meant) ∙ sym c.all_ignore_case.ensures ∙ c.if-all_ignore_case.false)) why)
    c.merged.ensures.err
