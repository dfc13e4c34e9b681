use Rattle.std.proofs.Common.{◌≡◌, ◌++◌, ◌≤◌, ◌-◌, length, take, drop}
use Rattle.zerotrie_lines.specs.Escapes.{escaped}
use Rattle.zerotrie_lines.proofs.escapes.shown_run.Given as goal

abbrev pub invariant-loop-len : goal.invariant-loop-len
invariant-loop-len l = (l.len ≤ length l.bytes) × (take l.len l.bytes ++ escaped (drop l.len l.bytes) ≡ escaped l.bytes)

abbrev pub decreases-loop-len : goal.decreases-loop-len
decreases-loop-len l = length l.bytes - l.len
