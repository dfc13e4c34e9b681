use Rattle.std.proofs.Common.{◌≡◌, drop}
use Rattle.zerotrie_queries.specs.Texts.{are_text_bytes}
use Rattle.zerotrie_queries.proofs.text.are_text_bytes.Given as goal

abbrev pub invariant-loop-byte : goal.invariant-loop-byte
invariant-loop-byte l = are_text_bytes (drop l.byte-index l.bytes) ≡ are_text_bytes l.bytes
