use Rattle.std.proofs.Common.{rules, get_or, ◌≤◌, ◌+◌, ◌-◌, ◌*◌, arith, refl}
use Rattle.zerotrie_lines.proofs.ItemLemmas.{digits_more, tens_more, tens_fit}
use Rattle.zerotrie_lines.proofs.items.leading_number.Goals as goal

pub overflow_mul-value : goal.overflow_mul-value
overflow_mul-value c = let t = tens_fit c.loop-count.value c.loop-count.count c.loop-count.invariant.small c.loop-count-test.true in record { fits = omega (arith, t) }

pub overflow_add-value : goal.overflow_add-value
overflow_add-value c =
    let t = tens_fit c.loop-count.value c.loop-count.count c.loop-count.invariant.small c.loop-count-test.true in
    let high : get_or c.args.text.now c.loop-count.count 0 ≤ 57 = search rules in
    record { fits = omega (arith, t, high) }

pub loop-count-preserved : goal.loop-count-preserved
loop-count-preserved c =
    let text = c.args.text.now in
    let count = c.loop-count.count in
    let value = c.loop-count.value in
    let t = tens_fit value count c.loop-count.invariant.small c.loop-count-test.true in
    let low : 48 ≤ get_or text count 0 = search rules in
    let high : get_or text count 0 ≤ 57 = search rules in record {
      few = omega (arith, c.loop-count-test.true);
      read = digits_more text count value (value * 10 + (get_or text count 0 - 48)) c.loop-count.invariant.read (search rules) low high refl (omega (arith, t, high));
      small = tens_more value (get_or text count 0 - 48) count c.loop-count.invariant.small (omega (arith, high));
    }
