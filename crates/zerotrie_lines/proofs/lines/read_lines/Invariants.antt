use Rattle.std.proofs.Common.{◌≡◌, ◌++◌, length, map}
use Rattle.zerotrie_lines.specs.Lines.{ended_lines}
use Rattle.zerotrie_lines.proofs.lines.read_lines.Given as goal

abbrev pub invariant-loop-rest : goal.invariant-loop-rest
invariant-loop-rest l = map (λ line. line.now) l.lines.items ++ ended_lines l.end l.rest ≡ ended_lines l.end l.text

abbrev pub decreases-loop-rest : goal.decreases-loop-rest
decreases-loop-rest l = length l.rest
