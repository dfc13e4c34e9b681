use Rattle.std.proofs.Common.{subst}
use Rattle.std.specs.Prelude.{◌↔◌, IsTrue}
use Rattle.zerotrie_core.specs.WellFormed.{IsWellFormed}
use Rattle.zerotrie_hashed.proofs.trie.HashedTrie.is_well_formed.Goals as goal

pub returns : goal.returns
returns g c = subst (λ b. IsTrue c.is_well_formed.result ↔ IsWellFormed g.K.ZeroTrieWithOptions.kind b) c.as_bytes.ensures c.is_well_formed.ensures
