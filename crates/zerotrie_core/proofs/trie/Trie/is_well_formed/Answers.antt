use Rattle.std.specs.Prelude.{◌↔◌, IsTrue}
use Rattle.zerotrie_core.specs.WellFormed.{IsWellFormed}
use Rattle.zerotrie_core.proofs.TrieLemmas.{of_trie}
use Rattle.zerotrie_core.proofs.trie.Trie.is_well_formed.Goals as goal

pub returns-in-Simple-by_kind : goal.returns-in-Simple-by_kind
returns-in-Simple-by_kind g c =
    of_trie (λ k b. IsTrue c.by_kind-is_well_formed.result ↔ IsWellFormed k b) c.in-Simple-by_kind.is c.trie_kind.ensures c.as_bytes.ensures c.by_kind-is_well_formed.ensures

pub returns-in-Ignore-by_kind : goal.returns-in-Ignore-by_kind
returns-in-Ignore-by_kind g c =
    of_trie (λ k b. IsTrue c.by_kind-is_well_formed-2.result ↔ IsWellFormed k b) c.in-Ignore-by_kind.is c.trie_kind.ensures c.as_bytes-2.ensures c.by_kind-is_well_formed-2.ensures

pub returns-in-Hash-by_kind : goal.returns-in-Hash-by_kind
returns-in-Hash-by_kind g c =
    of_trie (λ k b. IsTrue c.by_kind-is_well_formed-3.result ↔ IsWellFormed k b) c.in-Hash-by_kind.is c.trie_kind.ensures c.as_bytes-3.ensures c.by_kind-is_well_formed-3.ensures

pub returns-in-Ext-by_kind : goal.returns-in-Ext-by_kind
returns-in-Ext-by_kind g c =
    of_trie (λ k b. IsTrue c.by_kind-is_well_formed-4.result ↔ IsWellFormed k b) c.in-Ext-by_kind.is c.trie_kind.ensures c.as_bytes-4.ensures c.by_kind-is_well_formed-4.ensures
