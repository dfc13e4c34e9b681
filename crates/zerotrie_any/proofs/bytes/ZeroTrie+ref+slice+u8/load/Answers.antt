use Rattle.zerotrie_any.proofs.bytes.ZeroTrie+ref+slice+u8.load.Goals as goal

pub returns-then-is_well_formed-clause-ok : goal.returns-then-is_well_formed-clause-ok
returns-then-is_well_formed-clause-ok c = (c.in_ok-trie.ensures.ok, c.is_well_formed.ensures.0 c.if-is_well_formed.true)
