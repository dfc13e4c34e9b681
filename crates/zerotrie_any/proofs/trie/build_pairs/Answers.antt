use Rattle.std.proofs.Common.{inl, inr}
use Rattle.std.specs.Vec.Iter.{into_iter_items}
use Rattle.std.proofs.lemmas.Result.{err_from_is_err_and}
use Rattle.zerotrie_core.specs.Items.{keyed}
use Rattle.zerotrie_core.specs.Routes.{any_order, HasCause}
use Rattle.zerotrie_any.proofs.Elements.{of_elements}
use Rattle.zerotrie_any.proofs.trie.build_pairs.Goals as goal

pub returns-in_err-store-clause-build : goal.returns-in_err-store-clause-build
returns-in_err-store-clause-build g c =
    let same = err_from_is_err_and c.from_residual.result c.from_residual.ensures.1 in
    rw (same.1, same.2) (elim c.in_err-store.ensures [
      | inl memory ↦ inl memory
      | inr h ↦ inr (of_elements into_iter_items (λ items. HasCause any_order g.K.ZeroTrieWithOptions.kind (keyed g.Key.TrieKey.key items) c.in_err-store.field-0.0) c.args.pairs.items h.0 h.1.0 h.1.3 h.2)
    ])
