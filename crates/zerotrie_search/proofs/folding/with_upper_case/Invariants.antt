use Rattle.zerotrie_core.specs.ByteSets.{is_in}
use Rattle.zerotrie_search.proofs.FoldLemmas.{IsOutside}
use Rattle.zerotrie_search.proofs.folding.with_upper_case.Given as goal

abbrev pub invariant-loop-letter : goal.invariant-loop-letter
invariant-loop-letter l = IsOutside (is_in l.set) (is_in l.both) l.letter
