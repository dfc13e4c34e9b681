use Rattle.zerotrie_index.proofs.opened.OpenedIndex.new.Goals as goal

pub invariant_of-result : goal.invariant_of-result
invariant_of-result c pairs is = absurd (c.in-None.ensures.first pairs is)
