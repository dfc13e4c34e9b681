use Rattle.std.proofs.Common.{◌≡◌, ◌++◌, drop}
use Rattle.zerotrie_queries.specs.views.Dots.{quoted}
use Rattle.zerotrie_queries.proofs.views.dot.add_quoted.Given as goal

abbrev pub invariant-loop-byte : goal.invariant-loop-byte
invariant-loop-byte l = l.line.items ++ quoted (drop l.byte-index l.bytes) ≡ l.initial.line.items ++ quoted l.bytes
