use Rattle.std.proofs.Common.{◌≡◌, ◌++◌, drop}
use Rattle.zerotrie_base.specs.Items.{pairs_of}
use Rattle.zerotrie_index.specs.Lent.{marked_pairs}
use Rattle.zerotrie_index.proofs.lent.items_of.Given as goal

abbrev pub invariant-loop-mark : goal.invariant-loop-mark
invariant-loop-mark l = pairs_of l.items.items ++ marked_pairs l.text (drop l.mark-index l.marks) ≡ marked_pairs l.text l.marks
