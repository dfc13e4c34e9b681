use Rattle.std.proofs.Common.{sym, subst, arith}
use Rattle.zerotrie_core.specs.Items.{pairs_of}
use Rattle.zerotrie_core.specs.Maps.{Ascends}
use Rattle.zerotrie_making.proofs.CombineLemmas.{ascends_at}
use Rattle.zerotrie_making.proofs.combine.slices_of.Goals as goal

pub of_sorted-requires : goal.of_sorted-requires
of_sorted-requires c =
    let l = c.loop-pairs in
    let here = ascends_at c.args.items.now (λ pairs. pairs_of pairs.items) l.pairs-index c.pairs-item.result (omega (arith, c.loop-pairs-test.true)) c.requires in
    subst (λ is. Ascends (pairs_of is)) (sym c.as_slice.ensures.value) (subst (λ v. Ascends (pairs_of v.items)) (sym c.pairs-item.is) here)
