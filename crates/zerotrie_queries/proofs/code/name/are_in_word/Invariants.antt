use Rattle.std.proofs.Common.{◌≡◌, drop}
use Rattle.zerotrie_queries.specs.code.Names.{are_in_word}
use Rattle.zerotrie_queries.proofs.code.name.are_in_word.Given as goal

abbrev pub invariant-loop-byte : goal.invariant-loop-byte
invariant-loop-byte l = are_in_word (drop l.byte-index l.bytes) ≡ are_in_word l.bytes
