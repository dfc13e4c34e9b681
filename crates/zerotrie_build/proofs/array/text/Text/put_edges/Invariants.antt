use Rattle.std.proofs.Common.{take}
use Rattle.zerotrie_build.specs.array.Texts.{Prepends, newest_first, bytes_of}
use Rattle.zerotrie_build.proofs.array.text.Text.put_edges.Given as goal

abbrev pub invariant-loop-sibling : goal.invariant-loop-sibling
invariant-loop-sibling l = Prepends l.initial.self l.self (bytes_of (newest_first (take l.sibling-index l.siblings)))
