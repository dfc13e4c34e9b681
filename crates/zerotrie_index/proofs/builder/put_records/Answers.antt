use Rattle.std.proofs.Common.{arith, ◌++◌, length, length-append, get_or, ap, refl, inr, ◌∙◌}
use Rattle.std.proofs.lemmas.List.{append_assoc}
use Rattle.zerotrie_index.proofs.WrittenLemmas.{length-record, unset, onward_more, onward_all, size_more}
use Rattle.zerotrie_index.proofs.builder.put_records.Goals as goal

pub returns-then-len-clause-err : goal.returns-then-len-clause-err
returns-then-len-clause-err g c =
    let next = c.in_ok-put_record.ensures in
    let more = size_more c.args.bucket.now c.loop-pair.pair-index unset (omega (arith, c.loop-pair-test.true)) in
    let pair = get_or c.args.bucket.now c.loop-pair.pair-index unset in
    let own = length-record pair.key.now pair.value next.0 next.2 in
    let long = ap length next.1 ∙ length-append c.loop-pair.pool.items next.0 in
    let size = c.loop-pair.invariant.size in
    inr (refl, omega (arith, c.if-len.true, c.len.ensures))

pub loop-pair-preserved : goal.loop-pair-preserved
loop-pair-preserved g c =
    let next = c.in_ok-put_record.ensures in
    let inv = c.loop-pair.invariant in
    let more = size_more c.args.bucket.now c.loop-pair.pair-index unset (omega (arith, c.loop-pair-test.true)) in
    let pair = get_or c.args.bucket.now c.loop-pair.pair-index unset in
    let own = length-record pair.key.now pair.value next.0 next.2 in
    let long = ap length next.1 ∙ length-append c.loop-pair.pool.items next.0 in
    let size = inv.size in
    record {
      written = (
        inv.written.0 ++ next.0,
        next.1 ∙ ap (λ x. x ++ next.0) inv.written.1 ∙ append_assoc c.args.pool.now.items inv.written.0 next.0,
        onward_more c.args.bucket.now c.loop-pair.pair-index unset (omega (arith, c.loop-pair-test.true)) inv.written.0 next.0 next.2 inv.written.2,
      );
      small = omega (arith, c.if-len.false, c.len.ensures);
      size = omega arith;
    }

pub returns-clause-ok : goal.returns-clause-ok
returns-clause-ok g c =
    let inv = c.loop-pair.invariant in
    (inv.written.0, inv.written.1, onward_all c.args.bucket.now c.loop-pair.pair-index inv.written.0 (omega (arith, c.loop-pair-test.false)) inv.written.2, inv.small)
