use Rattle.std.proofs.Common.{◌∙◌, subst, ap}
use Rattle.zerotrie_base.specs.Items.{pairs_of, keyed}
use Rattle.zerotrie_base.specs.Routes.{any_order, IsLength}
use Rattle.zerotrie_build.proofs.OrderLemmas.Permuted.{length_permuted}
use Rattle.zerotrie_build.proofs.builder.len_sorted.Goals as goal

pub returns : goal.returns
returns g c =
    let kind = g.K.ZeroTrieWithOptions.kind in
    length_permuted kind (keyed g.Key.TrieKey.key c.args.given.now) (pairs_of c.in_ok-items.items.items) c.len_ordered.result c.in_ok-items.ensures.same
    (subst (λ p. IsLength any_order kind p c.len_ordered.result) (c.from_byte_slice.ensures ∙ ap pairs_of c.as_slice.ensures.value) c.len_ordered.ensures)
