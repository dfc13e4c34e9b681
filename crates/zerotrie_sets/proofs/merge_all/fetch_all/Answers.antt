use Rattle.std.proofs.Common.{arith, ◌∙◌, get_or}
use Rattle.zerotrie_sets.specs.Inputs.{pending}
use Rattle.zerotrie_sets.proofs.ManyLemmas.{fetched_more, fetched_is, map_same}
use Rattle.zerotrie_sets.proofs.merge_all.fetch_all.Goals as goal

pub loop-input-preserved : goal.loop-input-preserved
loop-input-preserved g c =
    let l = c.loop-input in
    let left = g.S.PairStream.left in
    let current = g.S.PairStream.current in
    let d = c.input-item.result in
    let x = get_or l.inputs l.input-index d in
    let y = c.fetch.new.self in
    let is = fetched_is (pending (left x.stream) (current x.stream) x.held) (left y.stream) (current y.stream) y.held c.in_ok-fetch.field-0 c.in_ok-fetch.ensures.fetches in
    record {
      fetched = fetched_more l.inputs l.input-index y (omega (arith, l.auto.inputs, c.loop-input-test.true)) l.invariant.fetched is.0;
      same = map_same (λ i. pending (left i.stream) (current i.stream) i.held) l.inputs l.input-index d y (omega (arith, l.auto.inputs, c.loop-input-test.true)) is.1 ∙ l.invariant.same;
    }
