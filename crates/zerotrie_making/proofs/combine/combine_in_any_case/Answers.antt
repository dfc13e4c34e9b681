use Rattle.std.proofs.Common.{◌≡◌, ◌∙◌, ap, sym, subst, map}
use Rattle.std.proofs.lemmas.Result.{IfOk-weaker, IfErr-weaker}
use Rattle.zerotrie_core.specs.Items.{pairs_of}
use Rattle.zerotrie_core.specs.Maps.{Pairs}
use Rattle.zerotrie_sets.specs.Rows.{EachAscends}
use Rattle.zerotrie_making.specs.Combinations.{AreTaken, IsNotTaken}
use Rattle.zerotrie_making.proofs.combine.combine_in_any_case.Goals as goal

pub slices_of-requires : goal.slices_of-requires
slices_of-requires c =
    let items = ap (map {B = Pairs} (λ pairs. pairs_of pairs.items)) c.as_slice-2.ensures.value ∙ c.in_ok-items.ensures ∙ c.as_slice.ensures.value in
    subst (λ lists. EachAscends lists) (sym items) c.in_ok-tables.ensures.ascend

pub merged-requires : goal.merged-requires
merged-requires c =
    let lists = c.in_ok-streams.ensures ∙ ap (map {B = Pairs} (λ pairs. pairs_of pairs.items)) c.as_slice-2.ensures.value ∙ c.in_ok-items.ensures ∙ c.as_slice.ensures.value in
    subst (λ lists. EachAscends lists) (sym lists) c.in_ok-tables.ensures.ascend

pub returns-clause-ok : goal.returns-clause-ok
returns-clause-ok c =
    let lists = c.in_ok-streams.ensures ∙ ap (map {B = Pairs} (λ pairs. pairs_of pairs.items)) c.as_slice-2.ensures.value ∙ c.in_ok-items.ensures ∙ c.as_slice.ensures.value in
    IfOk-weaker c.merged.result _ _ (λ table taken maps meant. subst (λ lists. AreTaken c.args.combination lists table) (lists ∙ c.in_ok-tables.ensures.are maps meant) taken) c.merged.ensures.ok

pub returns-clause-err : goal.returns-clause-err
returns-clause-err c =
    let lists = c.in_ok-streams.ensures ∙ ap (map {B = Pairs} (λ pairs. pairs_of pairs.items)) c.as_slice-2.ensures.value ∙ c.in_ok-items.ensures ∙ c.as_slice.ensures.value in
    IfErr-weaker c.merged.result _ _ (λ e why maps meant. subst (λ lists. IsNotTaken c.args.combination lists e) (lists ∙ c.in_ok-tables.ensures.are maps meant) why) c.merged.ensures.err
