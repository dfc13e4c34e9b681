use Rattle.zerotrie_search.proofs.keys_of.KeysOf.validated.Goals as goal

pub new-requires : goal.new-requires
new-requires g c = c.is_well_formed.ensures.0 c.if-is_well_formed.true
