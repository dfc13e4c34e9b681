use Rattle.std.proofs.Common.{◌≡◌, ◌++◌, get_or, string_bytes, arith, rules}
use Rattle.zerotrie_session.specs.Replies.{hex_digits}
use Rattle.zerotrie_session.proofs.HexLemmas.{hex_more, two_digits}
use Rattle.zerotrie_session.proofs.reply.write_hex.Goals as goal

pub loop-byte-preserved : goal.loop-byte-preserved
loop-byte-preserved c =
    let appended : string_bytes c.write.new.self ≡ string_bytes c.loop-byte.output ++ two_digits (get_or c.args.bytes.now c.loop-byte.byte-index 0) = search rules in
    hex_more c.args.bytes.now c.loop-byte.byte-index (string_bytes c.loop-byte.output) (string_bytes c.write.new.self) (string_bytes c.args.output.now ++ hex_digits c.args.bytes.now)
    (omega arith) (omega (arith, c.type_inv.bytes c.loop-byte.byte-index)) c.loop-byte.invariant appended
