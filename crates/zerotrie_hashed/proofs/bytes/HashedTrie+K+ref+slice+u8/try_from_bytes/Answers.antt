use Rattle.zerotrie_hashed.proofs.bytes.HashedTrie+K+ref+slice+u8.try_from_bytes.Goals as goal

pub returns-then-is_well_formed-clause-ok : goal.returns-then-is_well_formed-clause-ok
returns-then-is_well_formed-clause-ok g c = c.is_well_formed.ensures.0 c.if-is_well_formed.true
