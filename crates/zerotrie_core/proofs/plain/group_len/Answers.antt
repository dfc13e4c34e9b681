use Rattle.std.proofs.Common.{take, subst, sym}
use Rattle.std.proofs.lemmas.List.{take_more}
use Rattle.zerotrie_base.specs.plain.Encoding.{BeginsAll}
use Rattle.zerotrie_base.proofs.PlainLemmas.Items.{BeginsAll-push}
use Rattle.zerotrie_core.proofs.plain.group_len.Goals as goal

pub loop-i-preserved : goal.loop-i-preserved
loop-i-preserved c =
    subst (BeginsAll c.args.depth c.args.byte) (sym (take_more c.args.items.now c.loop-i.i _ c.loop-i-test.true))
    (BeginsAll-push c.args.depth c.args.byte (take c.loop-i.i c.args.items.now) _ c.loop-i.invariant c.if-key-depth.false c.if-key-depth-2.false)
