use Rattle.std.proofs.Common.{inl, inr}
use Rattle.std.specs.Vec.Iter.{into_iter_items}
use Rattle.serde_json.specs.View.{view}
use Rattle.zerotrie_core.specs.Items.{keyed}
use Rattle.zerotrie_core.specs.Routes.{any_order, HasCause, IsRefusal}
use Rattle.zerotrie_any.specs.Auto.{auto_kind}
use Rattle.zerotrie_any.proofs.Elements.{of_elements}
use Rattle.zerotrie_any.proofs.JsonLemmas.{refused_read}
use Rattle.zerotrie_any.proofs.json.reading.ZeroTrie+Vec+u8.try_from_json_value.Goals as goal

pub returns-in_err-trie-clause-build : goal.returns-in_err-trie-clause-build
returns-in_err-trie-clause-build c =
    let pairs = keyed (λ k. k.items) c.in_ok-pairs.pairs.items in
    let e = c.in_err-trie.field-0.0 in
    let refusal : IsRefusal any_order (auto_kind pairs) pairs e = elim c.in_err-trie.ensures [
      | inl memory ↦ inl memory
      | inr h ↦ inr (of_elements into_iter_items (λ items. HasCause any_order (auto_kind (keyed (λ k. k.items) items)) (keyed (λ k. k.items) items) e) c.in_ok-pairs.pairs.items h.0 h.1.0 h.1.3 h.2)
    ] in
    refused_read auto_kind (λ trie. trie.store.items) (view c.args.value.now) pairs e c.from_residual-in_err-trie.result c.in_ok-pairs.ensures refusal c.from_residual-in_err-trie.ensures.1
