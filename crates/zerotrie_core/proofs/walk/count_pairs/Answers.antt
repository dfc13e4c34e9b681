use Rattle.std.proofs.Common.{◌∙◌, sym}
use Rattle.zerotrie_core.specs.Shapes.{shape}
use Rattle.zerotrie_core.proofs.ListingLemmas.Rows.{row_shorter, counted_more, counted_all}
use Rattle.zerotrie_base.proofs.MapLemmas.Collected.{meant_len}
use Rattle.zerotrie_core.proofs.walk.count_pairs.Goals as goal

pub loop-node-smaller : goal.loop-node-smaller
loop-node-smaller g c =
    let short = row_shorter g.K.ZeroTrieWithOptions.kind c.loop-node.rest.now (shape c.in-Some.node) c.in-Some.ensures.node in
    rw c.row_behind-rest.ensures short.1

pub loop-node-preserved : goal.loop-node-preserved
loop-node-preserved g c =
    rw (c.values_in-count.ensures, c.row_behind-rest.ensures)
    (counted_more g.K.ZeroTrieWithOptions.kind c.args.bytes.now c.loop-node.count c.loop-node.rest.now (shape c.in-Some.node) c.loop-node.invariant c.in-Some.ensures.node)

pub returns-clause-listed : goal.returns-clause-listed
returns-clause-listed g c = λ pairs text. counted_all c.loop-node.count c.loop-node.rest.now c.loop-node.invariant c.in_default.ensures.node text

pub returns-clause-map : goal.returns-clause-map
returns-clause-map g c = λ m means. counted_all c.loop-node.count c.loop-node.rest.now c.loop-node.invariant c.in_default.ensures.node means.lists ∙ sym (meant_len means)
