use Rattle.std.proofs.Common.{◌≡◌, ◌++◌, drop}
use Rattle.zerotrie_queries.specs.Printed.{doubled}
use Rattle.zerotrie_queries.proofs.print.add_doubled.Given as goal

abbrev pub invariant-loop-byte : goal.invariant-loop-byte
invariant-loop-byte l = l.line.items ++ doubled (drop l.byte-index l.bytes) ≡ l.initial.line.items ++ doubled l.bytes
