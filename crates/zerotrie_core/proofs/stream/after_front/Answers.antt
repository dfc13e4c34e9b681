use Rattle.std.proofs.Common.{◌∙◌, [], refl, ap, arith, sym}
use Rattle.std.proofs.lemmas.List.{take_all}
use Rattle.zerotrie_base.specs.Maps.{same_key}
use Rattle.zerotrie_core.proofs.ListingLemmas.Passed.{front_none, front_more}
use Rattle.zerotrie_core.proofs.stream.after_front.Goals as goal

pub loop-edge-init : goal.loop-edge-init
loop-edge-init g c = ([], refl, refl)

pub returns-in_err-left : goal.returns-in_err-left
returns-in_err-left g c =
    let l = c.loop-edge in
    let h = l.invariant in
    rw c.from_residual.ensures (front_none g.K.ZeroTrieWithOptions.kind c.args.front.now c.args.key.now l.left.now h.0 l.edge-index (omega arith) h.1 h.2 c.in_err-left.ensures)

pub loop-edge-preserved : goal.loop-edge-preserved
loop-edge-preserved g c =
    let l = c.loop-edge in
    let h = l.invariant in
    front_more g.K.ZeroTrieWithOptions.kind c.args.front.now c.args.key.now l.left.now h.0 l.edge-index c.in_ok-left.left.now (omega arith) h.1 h.2 c.in_ok-left.ensures

pub returns : goal.returns
returns g c =
    let h = c.loop-edge.invariant in
    (h.0, h.1, ap (λ f. same_key g.K.ZeroTrieWithOptions.kind f h.0) (sym (take_all c.loop-edge.edge-index c.args.front.now (omega arith))) ∙ h.2)
