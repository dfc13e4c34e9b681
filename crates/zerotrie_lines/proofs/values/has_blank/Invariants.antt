use Rattle.std.proofs.Common.{◌≡◌, drop}
use Rattle.std.specs.Prelude.{◌==◌, ◌||◌}
use Rattle.std.specs.List.{list_any}
use Rattle.zerotrie_lines.proofs.values.has_blank.Given as goal

abbrev pub invariant-loop-byte : goal.invariant-loop-byte
invariant-loop-byte l = list_any (λ b. b == 32 || b == 9) (drop l.byte-index l.field) ≡ list_any (λ b. b == 32 || b == 9) l.field
