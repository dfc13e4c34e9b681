use Rattle.std.proofs.Common.{arith, ◌≡◌, inl, inr}
use Rattle.zerotrie_sets.specs.ManyInputs.{listed_all}
use Rattle.zerotrie_sets.proofs.SelectionLemmas.{listed_at, counted_next}
use Rattle.zerotrie_sets.proofs.merge_all.count_listed.Goals as goal

pub loop-input-preserved : goal.loop-input-preserved
loop-input-preserved g c =
    let l = c.loop-input in
    let vs = listed_all g.S.PairStream.current c.args.inputs.now in
    let i = l.input-index in
    let o = c.listed.result in
    let at = listed_at g.S.PairStream.current c.args.inputs.now i c.input-item.result o (omega (arith, c.loop-input-test.true)) c.input-item.is c.listed.ensures in
    elim (counted_next vs i o c.is_some.result at.0 at.1 c.is_some.ensures) [
      | inl h ↦ let one : c.from-count.result ≡ 1 = rw h.0 at c.from-count.ensures in
          record { counted = omega (arith, one, h.1, l.invariant.counted); most = omega (arith, one, l.invariant.most) }
      | inr h ↦ let none : c.from-count.result ≡ 0 = rw h.0 at c.from-count.ensures in
          record { counted = omega (arith, none, h.1, l.invariant.counted); most = omega (arith, none, l.invariant.most) }
    ]
