use Rattle.std.proofs.Common.{◌*◌, ◌-◌, ◌^◌, arith, length}
use Rattle.zerotrie_core.proofs.CallerLemmas.{meant_bound}
use Rattle.zerotrie_c.proofs.BoundLemmas.{bound_most, within_stopped}
use Rattle.zerotrie_c.proofs.bounds.zerotrie_build_bound.Goals as goal

pub returns-clause-enough : goal.returns-clause-enough
returns-clause-enough c route kind pairs bytes built few short =
    let most = meant_bound kind bytes pairs built.1.means in
    let bound = bound_most pairs in
    let below = built.1.means.short in
    rw c.saturating_add.ensures (rw (c.saturating_mul.ensures, c.saturating_mul-2.ensures)
    (within_stopped (length bytes) (c.args.count * 20) (c.args.key_bytes * 2) (2 ^ 64 - 1) (omega (arith, most, bound, few, short)) (omega (arith, below))))
