use Rattle.std.proofs.Common.{rules, refl}
use Rattle.zerotrie_ascii.proofs.trie.AsciiTrie.get_with_write_fn.Goals as goal

pub returns-in-Ok : goal.returns-in-Ok
returns-in-Ok g c = (c.cursor-cursor.result, c.write.new.arg2, c.write.result, c.cursor-cursor.ensures, search rules, rw c.in-Ok.is (λ pairs lists. (c.take_value.ensures.meaning pairs lists).0))

pub returns-in-Err : goal.returns-in-Err
returns-in-Err g c = (c.cursor-cursor.result, c.write.new.arg2, c.write.result, c.cursor-cursor.ensures, search rules, rw c.in-Err.is refl)
