use Rattle.zerotrie_hashed.proofs.bytes.HashedTrie+K+ref+slice+u8.load.Goals as goal

pub returns-clause-ok : goal.returns-clause-ok
returns-clause-ok g c = rw c.from_bytes.ensures c.in_ok-rest.ensures.ok
