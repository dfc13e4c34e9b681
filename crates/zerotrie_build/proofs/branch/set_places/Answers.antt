use Rattle.std.proofs.Common.{refl, get_or, Ok, Err}
use Rattle.zerotrie_build.specs.passes.Writing.{place_in}
use Rattle.zerotrie_build.proofs.WriteLemmas.Layouts.{place_more, found}
use Rattle.zerotrie_build.proofs.branch.set_places.Goals as goal

pub unreachable-requires : goal.unreachable-requires
unreachable-requires g c = found c.args.edges.now c.args.placed.now c.loop-edge.edge-index _ (Err _) c.requires.rises c.requires.same c.loop-edge-test.true refl c.in-Err.ensures.position

pub loop-edge-preserved : goal.loop-edge-preserved
loop-edge-preserved g c =
    let i = c.loop-edge.edge-index in
    let ps = c.args.placed.now in
    let es = c.args.edges.now in
    let f = found es ps i (get_or ps i 0) (Ok c.in-Ok.place) c.requires.rises c.requires.same c.loop-edge-test.true refl c.in-Ok.ensures.position in
    place_more (λ b. place_in es b) c.loop-edge.numbers.items c.push.new.self.items ps i c.in-Ok.place c.in_ok-push-in-Ok.ensures.items c.loop-edge.invariant c.loop-edge-test.true f.1
