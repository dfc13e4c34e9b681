use Rattle.std.proofs.Common.{arith}
use Rattle.zerotrie_build.proofs.WindowLemmas.Steps.{high_past}
use Rattle.zerotrie_build.proofs.windows.high_front_len.Goals as goal

pub returns-after-loop-count : goal.returns-after-loop-count
returns-after-loop-count c =
    let past = high_past c.args.key.now c.args.other.now c.loop-count.count (λ key other. let done = c.loop-count-test.false in omega arith) in
    let so_far = c.loop-count.invariant.so_far in
    omega arith
