use Rattle.std.proofs.Common.{◌≡◌, ◌<◌, arith, get_or, refl, subst, ℕ}
use Rattle.zerotrie_base.specs.Nodes.{number_from}
use Rattle.zerotrie_base.proofs.NodeLemmas.Offsets.{rest_long, below_more, number_more, none_left, all_left}
use Rattle.zerotrie_core.proofs.offsets.long_offset_at.Goals as goal

pub overflow_mul-value : goal.overflow_mul-value
overflow_mul-value c = let h = below_more c.loop-block.value 0 c.loop-block._block c.loop-block.invariant.bound (omega arith) (omega arith) in omega (arith, h.1)

pub overflow_add-value : goal.overflow_add-value
overflow_add-value c = let h = below_more c.loop-block.value (get_or c.loop-block.rest.now c.args.place 0) c.loop-block._block c.loop-block.invariant.bound (omega (arith, c.type_inv.rest c.args.place)) (omega arith) in omega (arith, h.1)

pub bounds-rest-place : goal.bounds-rest-place
bounds-rest-place c = let h = rest_long c.args.width c.loop-block._block c.args.count _ c.loop-block-test.true c.loop-block.invariant.len in omega (arith, h.0)

pub split_at-requires : goal.split_at-requires
split_at-requires c = let h = rest_long c.args.width c.loop-block._block c.args.count _ c.loop-block-test.true c.loop-block.invariant.len in omega (arith, h.0)

pub loop-block-init : goal.loop-block-init
loop-block-init c = rw (all_left c.args.width) (record { bound = omega arith; len = c.requires.len; same = refl })

pub loop-block-preserved : goal.loop-block-preserved
loop-block-preserved c =
    let byte : get_or c.loop-block.rest.now c.args.place 0 < 256 = omega arith in
    let more = below_more c.loop-block.value (get_or c.loop-block.rest.now c.args.place 0) c.loop-block._block c.loop-block.invariant.bound byte (omega arith) in
    let long = rest_long c.args.width c.loop-block._block c.args.count _ c.loop-block-test.true c.loop-block.invariant.len in
    let back_len = c.split_at.ensures.back_len in
    record {
      bound = more.0;
      len = omega (arith, long.0, long.1);
      same = rw c.split_at.ensures.back (number_more c.loop-block.value c.args.width c.loop-block._block c.args.count c.args.place _ c.loop-block.rest.now c.loop-block-test.true c.loop-block.invariant.same);
    }

pub returns : goal.returns
returns c =
    subst (λ (n : ℕ). number_from c.loop-block.value n c.args.count c.args.place c.loop-block.rest.now ≡ number_from 0 c.args.width c.args.count c.args.place c.args.table.now)
    (none_left c.args.width c.loop-block._block c.loop-block-test.false) c.loop-block.invariant.same
