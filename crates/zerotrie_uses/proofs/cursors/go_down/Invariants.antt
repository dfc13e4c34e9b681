use Rattle.std.proofs.Common.{◌≡◌, drop}
use Rattle.zerotrie.specs.Kind.{perfect_hash}
use Rattle.zerotrie.specs.Machine.{after_steps}
use Rattle.zerotrie.specs.Maps.{Pairs}
use Rattle.zerotrie.specs.Places.{ListsAt}
use Rattle.zerotrie_uses.proofs.cursors.go_down.Given as goal

abbrev pub invariant-loop-byte : goal.invariant-loop-byte
invariant-loop-byte l = (pairs : Pairs) → ListsAt perfect_hash l.initial.cursor pairs
    → (left : Pairs) × ListsAt perfect_hash l.cursor left
    × (after_steps perfect_hash (drop l.byte-index l.bytes) left ≡ after_steps perfect_hash l.bytes pairs)
