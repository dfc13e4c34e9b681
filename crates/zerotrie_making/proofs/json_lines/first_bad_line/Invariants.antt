use Rattle.std.proofs.Common.{◌≡◌, ◌+◌, drop}
use Rattle.std.specs.Prelude.{map, option_map}
use Rattle.zerotrie_making.specs.JsonLines.{first_bad_line}
use Rattle.zerotrie_making.proofs.json_lines.first_bad_line.Given as goal

abbrev pub invariant-loop-index : goal.invariant-loop-index
invariant-loop-index l = option_map (λ n. l.index + n) (first_bad_line l.names (map (λ line. line.now) (drop l.index l.lines))) ≡ first_bad_line l.names (map (λ line. line.now) l.lines)
