use Rattle.std.proofs.Common.{◌∙◌, ap, subst, sym}
use Rattle.std.proofs.lemmas.Result.{IfOk-weaker}
use Rattle.std.specs.declared.ops.Bound.TheVariants.{Unbounded}
use Rattle.zerotrie_core.specs.Listings.{to_come}
use Rattle.zerotrie_core.specs.Maps.{Ascends}
use Rattle.zerotrie_queries.proofs.RecasedLemmas.{within_all}
use Rattle.zerotrie_queries.proofs.sorted.sorted_pairs.Goals as goal

pub returns : goal.returns
returns c =
    IfOk-weaker c.stream_sorted.result _ _
    (λ s lists m means.
    (let left = lists m means in
    (left ∙ ap to_come (within_all m), subst (λ l. Ascends l.pairs) (sym left) (c.sorted_listing_ascends.ensures Unbounded Unbounded m))))
    c.stream_sorted.ensures.lists
