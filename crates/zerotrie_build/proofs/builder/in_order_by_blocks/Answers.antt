use Rattle.std.proofs.Common.{◌∙◌, subst, ap}
use Rattle.zerotrie_base.specs.Items.{pairs_of, keyed}
use Rattle.zerotrie_build.specs.Order.{Ordered}
use Rattle.zerotrie_build.proofs.OrderLemmas.Permuted.{keys_permuted, values_permuted}
use Rattle.zerotrie_build.proofs.builder.in_order_by_blocks.Goals as goal

pub returns-clause-ordered : goal.returns-clause-ordered
returns-clause-ordered g c =
    let from = c.from_byte_slice-sorted.ensures ∙ ap pairs_of c.as_slice.ensures.value in
    subst (Ordered g.K.ZeroTrieWithOptions.kind) from (c.is_ordered.ensures.0 c.if-not-is_ordered.false)

pub returns-clause-keys : goal.returns-clause-keys
returns-clause-keys g c =
    keys_permuted g.K.ZeroTrieWithOptions.kind (keyed g.Key.TrieKey.key c.args.given.now) (pairs_of c.in-Ok.items.items) c.in-Ok.ensures
    (c.are_keys.ensures.keys.0 c.if-not-are_keys.false)

pub returns-clause-values : goal.returns-clause-values
returns-clause-values g c =
    values_permuted (keyed g.Key.TrieKey.key c.args.given.now) (pairs_of c.in-Ok.items.items) c.in-Ok.ensures
    (c.are_keys.ensures.values c.if-not-are_keys.false)
