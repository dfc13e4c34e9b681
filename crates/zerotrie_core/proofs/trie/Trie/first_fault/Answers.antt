use Rattle.std.specs.Prelude.{◌≡◌, ◌↔◌, IfOk, None}
use Rattle.zerotrie_core.specs.WellFormed.{IsWellFormed}
use Rattle.zerotrie_core.proofs.TrieLemmas.{of_trie}
use Rattle.zerotrie_core.proofs.trie.Trie.first_fault.Goals as goal

pub returns-in-Simple-by_kind-clause-none : goal.returns-in-Simple-by_kind-clause-none
returns-in-Simple-by_kind-clause-none g c =
    of_trie (λ k b. IfOk c.by_kind-first_fault.result (λ fault. (fault ≡ None) ↔ IsWellFormed k b)) c.in-Simple-by_kind.is c.trie_kind.ensures c.as_bytes.ensures c.by_kind-first_fault.ensures.none

pub returns-in-Ignore-by_kind-clause-none : goal.returns-in-Ignore-by_kind-clause-none
returns-in-Ignore-by_kind-clause-none g c =
    of_trie (λ k b. IfOk c.by_kind-first_fault-2.result (λ fault. (fault ≡ None) ↔ IsWellFormed k b)) c.in-Ignore-by_kind.is c.trie_kind.ensures c.as_bytes-2.ensures c.by_kind-first_fault-2.ensures.none

pub returns-in-Hash-by_kind-clause-none : goal.returns-in-Hash-by_kind-clause-none
returns-in-Hash-by_kind-clause-none g c =
    of_trie (λ k b. IfOk c.by_kind-first_fault-3.result (λ fault. (fault ≡ None) ↔ IsWellFormed k b)) c.in-Hash-by_kind.is c.trie_kind.ensures c.as_bytes-3.ensures c.by_kind-first_fault-3.ensures.none

pub returns-in-Ext-by_kind-clause-none : goal.returns-in-Ext-by_kind-clause-none
returns-in-Ext-by_kind-clause-none g c =
    of_trie (λ k b. IfOk c.by_kind-first_fault-4.result (λ fault. (fault ≡ None) ↔ IsWellFormed k b)) c.in-Ext-by_kind.is c.trie_kind.ensures c.as_bytes-4.ensures c.by_kind-first_fault-4.ensures.none
