use Rattle.zerotrie_base.proofs.PlainLemmas.Items.{AscendsTo}
use Rattle.zerotrie_sets.proofs.slice.ascends.Given as goal

abbrev pub invariant-loop-i : goal.invariant-loop-i
invariant-loop-i l = AscendsTo l.i l.pairs
