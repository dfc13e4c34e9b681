use Rattle.std.proofs.Common.{◌≤◌, drop, length}
use Rattle.zerotrie_build.specs.array.Texts.{Prepends}
use Rattle.zerotrie_build.proofs.array.text.Text.put_all.Given as goal

abbrev pub invariant-loop-index : goal.invariant-loop-index
invariant-loop-index l = Prepends l.initial.self l.self (drop l.index l.bytes) × (l.index ≤ length l.bytes)
