use Rattle.std.proofs.Common.{◌≡◌, map, arith, ◌∙◌, refl}
use Rattle.std.specs.List.{concat}
use Rattle.zerotrie_build.specs.Ranges.{range_at}
use Rattle.zerotrie_build.proofs.Ranges.{order_in_range, length-laid}
use Rattle.zerotrie_build.proofs.store.VecDequeU8TrieBuilderStore.atbs_permute_front.Goals as goal

pub ranges_in_order-requires-clause-in_range : goal.ranges_in_order-requires-clause-in_range
ranges_in_order-requires-clause-in_range c = order_in_range c.args.lengths.now c.args.order.now c.requires.permutation

pub overwrite_front-requires : goal.overwrite_front-requires
overwrite_front-requires c =
    let is : c.as_slice-2.result.now ≡ concat (map (range_at c.args.lengths.now c.args.self.now.items) c.args.order.now) =
    c.as_slice-2.ensures.value ∙ rw (← c.in_ok-bytes.ensures, ← c.as_slice.ensures.value) c.in_ok-ranges.ensures in
    rw is (omega (arith, length-laid c.args.lengths.now c.args.self.now.items c.args.order.now c.requires.fit c.requires.permutation, c.requires.fit))

pub returns-clause-ok : goal.returns-clause-ok
returns-clause-ok c =
    let is : c.as_slice-2.result.now ≡ concat (map (range_at c.args.lengths.now c.args.self.now.items) c.args.order.now) =
    c.as_slice-2.ensures.value ∙ rw (← c.in_ok-bytes.ensures, ← c.as_slice.ensures.value) c.in_ok-ranges.ensures in
    rw (c.overwrite_front.ensures, is, length-laid c.args.lengths.now c.args.self.now.items c.args.order.now c.requires.fit c.requires.permutation) refl
