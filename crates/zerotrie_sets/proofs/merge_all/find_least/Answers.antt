use Rattle.std.proofs.Common.{arith, ◌+◌, ◌∙◌, ap, sym, subst, take}
use Rattle.zerotrie_sets.specs.ManyInputs.{found_as, lesser, IsLeast}
use Rattle.zerotrie_sets.proofs.ManyLemmas.{least_next}
use Rattle.zerotrie_sets.proofs.merge_all.find_least.Goals as goal

pub loop-at-preserved : goal.loop-at-preserved
loop-at-preserved g c =
    let l = c.loop-at in
    let current = g.S.PairStream.current in
    let inputs = c.args.inputs.now in
    let least = found_as l.least in
    let found = c.lesser-least.ensures ∙ ap (lesser least l.at) c.waiting.ensures in
    subst (λ f. IsLeast current f (take (l.at + 1) inputs)) (sym found)
    (least_next current least inputs l.at c.index-inputs-at.result (omega (arith, c.loop-at-test.true)) c.index-inputs-at.is l.invariant)
