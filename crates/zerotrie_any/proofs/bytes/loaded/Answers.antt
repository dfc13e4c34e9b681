use Rattle.zerotrie_any.proofs.bytes.loaded.Goals as goal

pub returns-then-is_well_formed-clause-ok : goal.returns-then-is_well_formed-clause-ok
returns-then-is_well_formed-clause-ok g c = (c.in_ok-rest.ensures.ok, c.is_well_formed.ensures.0 c.if-is_well_formed.true)
