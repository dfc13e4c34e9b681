use Rattle.std.proofs.Common.{◌≡◌, ◌++◌, string_bytes, drop}
use Rattle.zerotrie_session.specs.Replies.{hex_digits}
use Rattle.zerotrie_session.proofs.reply.write_hex.Given as goal

abbrev pub invariant-loop-byte : goal.invariant-loop-byte
invariant-loop-byte l = string_bytes l.output ++ hex_digits (drop l.byte-index l.bytes) ≡ string_bytes l.initial.output ++ hex_digits l.bytes
