use Rattle.std.proofs.Common.{◌++◌, ap, length, length-append, arith}
use Rattle.zerotrie_base.proofs.NumberLemmas.Numbers.{one_reading}
use Rattle.zerotrie_core.proofs.node.span_at.Goals as goal

pub returns-in_err-len-clause-none : goal.returns-in_err-len-clause-none
returns-in_err-len-clause-none c = rw c.from_residual.ensures (λ run after b. c.in_err-len.ensures.none _ _ _ b)

pub returns-then-behind-len-clause-none : goal.returns-then-behind-len-clause-none
returns-then-behind-len-clause-none c run after b =
    let one = one_reading 16 _ 5 _ _ _ c.in_ok-len.behind.now (run ++ after) c.in_ok-len.ensures.found b in
    let parts = length-append run after in
    omega (arith, one.0, ap length one.1)
