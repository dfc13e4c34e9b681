use Rattle.std.proofs.Common.{◌≡◌, ◌++◌, drop}
use Rattle.zerotrie_queries.specs.views.Meanings.{hex}
use Rattle.zerotrie_queries.proofs.views.meaning.add_hex.Given as goal

abbrev pub invariant-loop-byte : goal.invariant-loop-byte
invariant-loop-byte l = l.line.items ++ hex (drop l.byte-index l.bytes) ≡ l.initial.line.items ++ hex l.bytes
