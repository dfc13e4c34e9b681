use Rattle.std.proofs.Common.{◌≡◌, ◌++◌, drop}
use Rattle.std.specs.Prelude.{map, option_map}
use Rattle.zerotrie_making.specs.JsonLines.{pairs_in_lines}
use Rattle.zerotrie_making.proofs.json_lines.pairs_of_lines.Given as goal

abbrev pub invariant-loop-line : goal.invariant-loop-line
invariant-loop-line l = option_map (λ more. l.table ++ more) (pairs_in_lines l.names (map (λ line. line.now) (drop l.line-index l.lines))) ≡ pairs_in_lines l.names (map (λ line. line.now) l.lines)
