use Rattle.std.proofs.Common.{◌≡◌, ◌*◌, ◌%◌, ◌+◌, ◌≤◌, ◌^◌, length, get_or, arith, add-one}
use Rattle.std.proofs.lemmas.Slice.{between_to_end}
use Rattle.zerotrie_base.proofs.varint.read_number.Goals as goal
use Rattle.zerotrie_base.proofs.NumberLemmas.Numbers.{is_read, read_alone, too_large, too_large_next, cut, ended}

pub returns-then-start-latent-eq0-clause-found : goal.returns-then-start-latent-eq0-clause-found
returns-then-start-latent-eq0-clause-found c =
    is_read _ _ _ _ _ (omega arith) (λ i. omega (arith, c.type_inv.rest i)) (omega arith) (read_alone _ _ _ c.if-start-latent-eq0.true)

pub returns-in_err-checked_mul-clause-none : goal.returns-in_err-checked_mul-clause-none
returns-in_err-checked_mul-clause-none c =
    let big : 2 ^ 64 ≤ 128 * c.loop-i.value = omega (arith, c.in_err-checked_mul.ensures) in
    rw c.from_residual.ensures (too_large c.args.latent c.args.start c.loop-i.value c.loop-i.i c.args.rest.now c.if-start-latent-eq0.false c.loop-i.invariant big)

pub returns-in_err-value-clause-none : goal.returns-in_err-value-clause-none
returns-in_err-value-clause-none c =
    let big : 2 ^ 64 ≤ 128 * c.loop-i.value + get_or c.args.rest.now c.loop-i.i 0 % 128 + c.args.latent = omega (arith, c.in_ok-checked_mul.ensures, c.in_err-value.ensures) in
    rw c.from_residual-in_err-value.ensures (too_large_next c.args.latent c.args.start c.loop-i.value c.loop-i.i c.args.rest.now c.loop-i-test.true c.if-start-latent-eq0.false c.loop-i.invariant big)

pub returns-then-t-lt128-clause-found : goal.returns-then-t-lt128-clause-found
returns-then-t-lt128-clause-found c =
    let v_is : c.in_ok-value.value ≡ 128 * c.loop-i.value + get_or c.args.rest.now c.loop-i.i 0 % 128 + c.args.latent = omega (arith, c.in_ok-checked_mul.ensures, c.in_ok-value.ensures) in
    let e = ended c.args.latent c.args.start c.loop-i.value c.loop-i.i c.args.rest.now c.loop-i-test.true c.if-t-lt128.true c.if-start-latent-eq0.false c.loop-i.invariant in
    rw (between_to_end c.args.rest.now (c.loop-i.i + 1) (length c.args.rest.now) (omega arith), add-one)
    (is_read _ _ _ _ _ (omega arith) (λ i. omega (arith, c.type_inv.rest i)) (omega arith) (rw v_is e))

pub returns-clause-none : goal.returns-clause-none
returns-clause-none c = cut _ _ _ _ _ (omega arith) c.if-start-latent-eq0.false c.loop-i.invariant
