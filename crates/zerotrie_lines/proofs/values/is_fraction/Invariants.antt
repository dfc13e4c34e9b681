use Rattle.std.proofs.Common.{◌≡◌, drop}
use Rattle.std.specs.List.{list_all}
use Rattle.zerotrie_lines.specs.Faults.{is_of_float}
use Rattle.zerotrie_lines.proofs.values.is_fraction.Given as goal

abbrev pub invariant-loop-byte : goal.invariant-loop-byte
invariant-loop-byte l = list_all is_of_float (drop l.byte-index l.rest) ≡ list_all is_of_float l.rest
