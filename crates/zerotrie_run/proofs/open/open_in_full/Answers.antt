use Rattle.zerotrie_run.proofs.open.open_in_full.Goals as goal

pub returns-then-is_well_formed-clause-ok : goal.returns-then-is_well_formed-clause-ok
returns-then-is_well_formed-clause-ok c = (c.in_ok-trie.ensures.ok, c.is_well_formed.ensures.0 c.if-is_well_formed.true)
