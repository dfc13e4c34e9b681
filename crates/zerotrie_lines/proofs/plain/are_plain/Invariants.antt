use Rattle.std.proofs.Common.{◌≡◌, ◌&&◌, length}
use Rattle.std.specs.List.{list_all}
use Rattle.zerotrie_lines.specs.Escapes.{is_plain}
use Rattle.zerotrie_lines.proofs.plain.are_plain.Given as goal

abbrev pub invariant-loop-rest : goal.invariant-loop-rest
invariant-loop-rest l = (l.plain && list_all is_plain l.rest) ≡ list_all is_plain l.key

abbrev pub decreases-loop-rest : goal.decreases-loop-rest
decreases-loop-rest l = length l.rest
