use Rattle.std.proofs.Common.{◌≤◌, ◌+◌, ◌-◌, ◌*◌, ◌/◌, ◌∙◌, ap, arith, subst, sym}
use Rattle.std.proofs.Math.Nat.{mod-eq-sub-div-mul}
use Rattle.zerotrie_base.proofs.ReciprocalLemmas.{product_quotient, product_short}
use Rattle.zerotrie_base.proofs.byte_phf.remainders.remainder.Goals as goal

pub overflow_sub-result : goal.overflow_sub-result
overflow_sub-result c =
    let x = c.args.byte in
    let n = c.args.n in
    let whole = ap (λ q. x * (q + 1) / 65536) c.quotient.ensures ∙ product_quotient x n (omega arith) c.requires (omega arith) in
    subst (λ v. v * n ≤ x) (sym whole) (product_short x n)

pub returns : goal.returns
returns c =
    let x = c.args.byte in
    let n = c.args.n in
    let whole = ap (λ q. x * (q + 1) / 65536) c.quotient.ensures ∙ product_quotient x n (omega arith) c.requires (omega arith) in
    ap (λ v. x - v * n) whole ∙ sym (mod-eq-sub-div-mul x n)
