use Rattle.zerotrie_sets.proofs.sorted.SortedTrie.validated.Goals as goal

pub new-requires : goal.new-requires
new-requires g c = c.is_well_formed.ensures.0 c.if-is_well_formed.true
