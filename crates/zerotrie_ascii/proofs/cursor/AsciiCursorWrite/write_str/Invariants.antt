use Rattle.std.proofs.Common.{◌≡◌, ℕ, List, drop}
use Rattle.zerotrie_any.specs.Auto.{is_ascii}
use Rattle.zerotrie_ascii.specs.Writing.{ascii_front, StepsBy}
use Rattle.zerotrie_ascii.proofs.cursor.AsciiCursorWrite.write_str.Given as goal

abbrev pub invariant-loop-byte : goal.invariant-loop-byte
invariant-loop-byte g l = let kind = g.K.ZeroTrieWithOptions.kind in record {
  front : (new : List ℕ) → StepsBy kind l.self (ascii_front (drop l.byte-index l.s)) new → StepsBy kind l.fn.self (ascii_front l.s) new;
  ascii : is_ascii (drop l.byte-index l.s) ≡ is_ascii l.s;
}
