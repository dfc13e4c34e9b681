use Rattle.std.proofs.Common.{◌∙◌, ◌&&◌, ap, sym, nat_le, slice_index, take}
use Rattle.zerotrie_core.specs.ByteSets.{is_in}
use Rattle.zerotrie_search.specs.Forks.{is_among}
use Rattle.zerotrie_search.proofs.ForkLemmas.{among_taken, fill_more, fill_less}
use Rattle.zerotrie_search.proofs.sorted.fork.edges_from.Goals.{then-from-edge, else-from-edge}
use Rattle.zerotrie_search.proofs.sorted.fork.edges_from.Goals as goal

pub loop-edge-preserved : goal.loop-edge-preserved
loop-edge-preserved c x =
    let i = c.loop-edge.edge-index in
    let edges = c.split_at.result.0.now in
    let e = slice_index edges i in
    let old = is_in c.loop-edge.left x in
    let more = sym (ap (λ t. nat_le c.args.from x && t) (among_taken x i edges c.loop-edge-test.true)) in
    elim c.if-from-edge.branch [
      | then-from-edge w ↦ rw w.left-is (w.insert.ensures x ∙ fill_more c.args.from e x old (is_among x (take i edges)) (c.loop-edge.invariant x) w.if-from-edge.true ∙ more)
      | else-from-edge w ↦ rw w.left-is (fill_less c.args.from e x old (is_among x (take i edges)) (c.loop-edge.invariant x) w.if-from-edge.false ∙ more)
    ]
