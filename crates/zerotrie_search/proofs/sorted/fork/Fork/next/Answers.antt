use Rattle.std.proofs.Common.{◌∙◌, arith, refl, sym, subst}
use Rattle.zerotrie_base.specs.Texts.{Lists}
use Rattle.zerotrie_search.proofs.ForkLemmas.{has_room, taken_open}
use Rattle.zerotrie_search.proofs.sorted.fork.Fork.next.Goals as goal

pub returns-in_err-edge-clause-takes : goal.returns-in_err-edge-clause-takes
returns-in_err-edge-clause-takes g c pairs f = rw c.from_residual.ensures c.in_err-edge.ensures.none

pub returns-in_err-target-clause-takes : goal.returns-in_err-target-clause-takes
returns-in_err-target-clause-takes g c pairs f =
    let edge = c.in_ok-edge.edge in
    absurd ((f.edges edge c.in_ok-edge.ensures.some).1 (sym (f.same edge) ∙ c.in_err-target.ensures.target f.bytes f.below f.text f.begins))

pub returns-in_err-self-clause-takes : goal.returns-in_err-self-clause-takes
returns-in_err-self-clause-takes g c pairs f =
    let kind = g.K.ZeroTrieWithOptions.kind in
    let edge = c.in_ok-edge.edge in
    let old = c.args.self.now in
    let target = c.in_ok-target.target.now in
    let small = c.in_err-self.ensures in
    absurd (has_room kind pairs old (record { branch = old.branch; left = c.remove.new.self; depth = old.depth; room = old.room }) edge f c.in_ok-edge.ensures.some c.remove.ensures target
    (c.in_ok-target.ensures.target f.bytes f.below f.text f.begins) (omega (arith, small)))

pub returns-clause-takes : goal.returns-clause-takes
returns-clause-takes g c pairs f =
    let kind = g.K.ZeroTrieWithOptions.kind in
    let edge = c.in_ok-edge.edge in
    let old = c.args.self.now in
    let here = c.in_ok-edge.ensures.some in
    let target = c.in_ok-target.target.now in
    let text = c.in_ok-target.ensures.target f.bytes f.below f.text f.begins in
    let room = c.in_ok-self.ensures in (
      here,
      c.in_ok-edge.ensures.least,
      subst (Lists kind target) (f.same edge) text,
      taken_open kind pairs old (record { branch = old.branch; left = c.remove.new.self; depth = old.depth; room = _ }) edge f here c.remove.ensures target text refl (omega (arith, room)),
      c.remove.ensures,
    )
