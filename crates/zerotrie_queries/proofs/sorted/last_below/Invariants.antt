use Rattle.std.proofs.Common.{◌≤◌, length}
use Rattle.zerotrie_queries.proofs.sorted.last_below.Given as goal

abbrev pub invariant-loop-len : goal.invariant-loop-len
invariant-loop-len l = l.len ≤ length l.prefix

abbrev pub decreases-loop-len : goal.decreases-loop-len
decreases-loop-len l = l.len
