use Rattle.std.proofs.Common.{inl, inr, Ok}
use Rattle.std.specs.Vec.Iter.{into_iter_items}
use Rattle.serde_json.specs.View.{view}
use Rattle.zerotrie_core.specs.Items.{keyed}
use Rattle.zerotrie_core.specs.Routes.{any_order, HasCause, IsBuild, IsRefusal}
use Rattle.zerotrie_any.proofs.Elements.{of_elements}
use Rattle.zerotrie_any.proofs.JsonLemmas.{refused_read}
use Rattle.zerotrie_any.proofs.json.reading.bytes_from_json.Goals as goal

pub returns-in_err-bytes : goal.returns-in_err-bytes
returns-in_err-bytes g c =
    let kind = g.K.ZeroTrieWithOptions.kind in
    let pairs = keyed (λ k. k.items) c.in_ok-pairs.pairs.items in
    let refusal : IsRefusal any_order kind pairs c.in_err-bytes.field-0.0 = elim (c.in_err-bytes.ensures) [
      | inl memory ↦ inl memory
      | inr h ↦ inr (of_elements into_iter_items (λ items. HasCause any_order kind (keyed (λ k. k.items) items) c.in_err-bytes.field-0.0) c.in_ok-pairs.pairs.items h.0 h.1.0 h.1.3 h.2)
    ] in
    refused_read (λ _. kind) (λ bytes. bytes.items) (view c.args.value.now) pairs c.in_err-bytes.field-0.0 c.from_residual-in_err-bytes.result (c.in_ok-pairs.ensures) refusal c.from_residual-in_err-bytes.ensures.1

pub returns : goal.returns
returns g c =
    let h = c.in_ok-bytes.ensures in (
      keyed (λ k. k.items) c.in_ok-pairs.pairs.items,
      c.in_ok-pairs.ensures,
      of_elements into_iter_items (λ items. IsBuild any_order g.K.ZeroTrieWithOptions.kind (λ b. b) (keyed (λ k. k.items) items) (Ok c.in_ok-bytes.bytes.items)) c.in_ok-pairs.pairs.items h.0 h.1.0 h.1.3 h.2,
    )
