use Rattle.zerotrie_build.proofs.ArrayLemmas.Text.{puts_then, puts_same, edges_take}
use Rattle.zerotrie_build.proofs.array.text.Text.put_edges.Goals as goal

pub loop-sibling-preserved : goal.loop-sibling-preserved
loop-sibling-preserved c =
    puts_same _ _ _ _ (edges_take c.args.siblings.now c.loop-sibling.sibling-index (record { depth = 0; byte = 0; len = 0 }) c.loop-sibling-test.true)
    (puts_then _ _ _ _ _ c.loop-sibling.invariant c.put.ensures)
