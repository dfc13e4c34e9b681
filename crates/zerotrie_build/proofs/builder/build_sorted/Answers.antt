use Rattle.std.proofs.Common.{◌∙◌, refl, subst, sym, ap, IsTrue}
use Rattle.std.proofs.lemmas.List.Sorted.{IsPermutation-sym}
use Rattle.zerotrie_base.specs.Items.{pairs_of, keyed}
use Rattle.zerotrie_base.specs.Routes.{any_order, IsBuild}
use Rattle.zerotrie_build.specs.Order.{Ordered, AreKeys, AreAsciiKeys}
use Rattle.zerotrie_build.proofs.OrderLemmas.Permuted.{build_permuted, keys_permuted, ascii_permuted}
use Rattle.zerotrie_build.proofs.builder.build_sorted.Goals as goal

pub are_ascii-ascii-requires : goal.are_ascii-ascii-requires
are_ascii-ascii-requires g c =
    let all = keyed g.Key.TrieKey.key c.args.given.now in
    let sorted = pairs_of c.in_ok-items.items.items in
    λ k. ((refl, tt), keys_permuted g.K.ZeroTrieWithOptions.kind sorted all (IsPermutation-sym all sorted c.in_ok-items.ensures.same) c.in_ok-items.ensures.keys)

pub build_ordered-requires : goal.build_ordered-requires
build_ordered-requires g c =
    let kind = g.K.ZeroTrieWithOptions.kind in
    let all = keyed g.Key.TrieKey.key c.args.given.now in
    let sorted = pairs_of c.in_ok-items.items.items in
    let from = sym (c.from_byte_slice-items.ensures ∙ ap pairs_of c.as_slice.ensures.value) in
    let ascii = λ (yes : IsTrue c.are_ascii-ascii.result). ascii_permuted all sorted c.in_ok-items.ensures.same (c.are_ascii-ascii.ensures yes) in
    λ k. ((refl, tt), (subst (Ordered kind) from c.in_ok-items.ensures.ordered, (subst (AreKeys kind) from c.in_ok-items.ensures.keys, λ yes. subst AreAsciiKeys from (ascii yes))))

pub returns : goal.returns
returns g c =
    let kind = g.K.ZeroTrieWithOptions.kind in
    let list = g.S.TrieBuilderStore.list in
    build_permuted kind list (keyed g.Key.TrieKey.key c.args.given.now) (pairs_of c.in_ok-items.items.items) c.build_ordered.result c.in_ok-items.ensures.same
    (subst (λ p. IsBuild any_order kind list p c.build_ordered.result) (c.from_byte_slice-items.ensures ∙ ap pairs_of c.as_slice.ensures.value) c.build_ordered.ensures)
