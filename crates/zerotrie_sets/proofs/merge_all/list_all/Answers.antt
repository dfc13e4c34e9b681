use Rattle.std.proofs.Common.{arith, ◌∙◌, ap, get_or}
use Rattle.std.proofs.Math.ListN.{set}
use Rattle.zerotrie_sets.specs.ManyInputs.{after_key}
use Rattle.zerotrie_sets.proofs.ManyLemmas.{mapped_more}
use Rattle.zerotrie_sets.proofs.merge_all.list_all.Goals as goal

pub loop-input-preserved : goal.loop-input-preserved
loop-input-preserved g c =
    let l = c.loop-input in
    let f = after_key g.S.PairStream.current c.args.key.now in
    let d = c.input-item.result in
    let xs = c.args.inputs.now in
    let n = l.input-index in
    ap (λ y. set l.inputs n y) c.list_key.ensures ∙ ap (λ is. set is n (f (get_or is n d))) l.invariant
    ∙ mapped_more f xs n d (omega (arith, l.auto.inputs, c.loop-input-test.true))
