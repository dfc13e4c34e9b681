use Rattle.std.proofs.Common.{◌≡◌, ◌++◌, string_bytes}
use Rattle.zerotrie.specs.Items.{keyed}
use Rattle.zerotrie_session.specs.Replies.{list_lines}
use Rattle.zerotrie_session.proofs.reply.write_sorted.Given as goal

abbrev pub invariant-loop-key : goal.invariant-loop-key
invariant-loop-key l = string_bytes l.output ++ list_lines (keyed (λ key. key.items) l.key-iterator)
    ≡ string_bytes l.fn.output ++ list_lines (keyed (λ key. key.items) l.map.entries)
