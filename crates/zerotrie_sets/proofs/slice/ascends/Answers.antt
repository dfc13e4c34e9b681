use Rattle.std.proofs.Common.{◌-◌, arith, refl}
use Rattle.zerotrie_base.proofs.PlainLemmas.Items.{ascends_all, ascends_not, ascends_more, below_by_less, key_at}
use Rattle.zerotrie_sets.proofs.slice.ascends.Goals as goal

pub returns-then-not-lt : goal.returns-then-not-lt
returns-then-not-lt c =
    let items = c.args.pairs.now in
    let i = c.loop-i.i in
    let below = below_by_less (key_at items (i - 1)) (key_at items i) c.lt.result c.lt.ensures in
    (λ h. absurd (cc), λ up. absurd (ascends_not items i c.loop-i.auto.i c.loop-i-test.true (λ less. let t = below.1 less in absurd (cc)) up))

pub loop-i-preserved : goal.loop-i-preserved
loop-i-preserved c =
    let items = c.args.pairs.now in
    let i = c.loop-i.i in
    ascends_more items i c.loop-i.auto.i c.loop-i.invariant ((below_by_less (key_at items (i - 1)) (key_at items i) c.lt.result c.lt.ensures).0 c.if-not-lt.false)

pub returns : goal.returns
returns c = (λ h. ascends_all c.args.pairs.now (λ i l. c.loop-i.invariant i (omega arith)), λ up. refl)
