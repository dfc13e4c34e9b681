use Rattle.std.specs.Prelude.{◌≡◌, IfOk, None}
use Rattle.zerotrie_core.specs.Maps.{Pairs}
use Rattle.zerotrie_core.specs.Texts.{Lists}
use Rattle.zerotrie_core.specs.walk.Texts.{text_visits}
use Rattle.zerotrie_core.proofs.TrieLemmas.{of_trie}
use Rattle.zerotrie_core.proofs.trie.Trie.nodes.Goals as goal

pub returns-in-Simple-by_kind-clause-text : goal.returns-in-Simple-by_kind-clause-text
returns-in-Simple-by_kind-clause-text g c =
    of_trie (λ k b. IfOk c.by_kind-new.result (λ s. (pairs : Pairs) (text : Lists k b pairs) → s ≡ text_visits text 0 0 None None)) c.in-Simple-by_kind.is c.trie_kind.ensures c.as_bytes.ensures c.by_kind-new.ensures.text

pub returns-in-Ignore-by_kind-clause-text : goal.returns-in-Ignore-by_kind-clause-text
returns-in-Ignore-by_kind-clause-text g c =
    of_trie (λ k b. IfOk c.by_kind-new-2.result (λ s. (pairs : Pairs) (text : Lists k b pairs) → s ≡ text_visits text 0 0 None None)) c.in-Ignore-by_kind.is c.trie_kind.ensures c.as_bytes-2.ensures c.by_kind-new-2.ensures.text

pub returns-in-Hash-by_kind-clause-text : goal.returns-in-Hash-by_kind-clause-text
returns-in-Hash-by_kind-clause-text g c =
    of_trie (λ k b. IfOk c.by_kind-new-3.result (λ s. (pairs : Pairs) (text : Lists k b pairs) → s ≡ text_visits text 0 0 None None)) c.in-Hash-by_kind.is c.trie_kind.ensures c.as_bytes-3.ensures c.by_kind-new-3.ensures.text

pub returns-in-Ext-by_kind-clause-text : goal.returns-in-Ext-by_kind-clause-text
returns-in-Ext-by_kind-clause-text g c =
    of_trie (λ k b. IfOk c.by_kind-new-4.result (λ s. (pairs : Pairs) (text : Lists k b pairs) → s ≡ text_visits text 0 0 None None)) c.in-Ext-by_kind.is c.trie_kind.ensures c.as_bytes-4.ensures c.by_kind-new-4.ensures.text
