use Rattle.std.proofs.Common.{◌≡◌, drop}
use Rattle.zerotrie_files.proofs.WroteLemmas.{Wrote}
use Rattle.zerotrie_queries.specs.code.Items.{items}
use Rattle.zerotrie_queries.proofs.code.items.write_items.Given as goal

abbrev pub invariant-loop-index : goal.invariant-loop-index
invariant-loop-index g l = Wrote (g.W.Write.contents l.initial.output.inner) (g.W.Write.contents l.output.inner) (items l.index (drop l.index l.bytes)) (items 0 l.bytes)
    × (l.output.failed ≡ l.initial.output.failed)
