use Rattle.std.proofs.Common.{◌≡◌, ℕ, ◌+◌, ◌≤◌, List, length, drop}
use Rattle.std.specs.Prelude.{reverse}
use Rattle.zerotrie_lines.specs.Tables.{pairs_of}
use Rattle.zerotrie_making.specs.Kept.{numbered, has_key, lasts, numbers, unnumbered, has_seen}
use Rattle.zerotrie_making.proofs.duplicates.lasts.Given as goal

abbrev pub invariant-loop-left : goal.invariant-loop-left
invariant-loop-left l = ((q : List ℕ) → has_seen l.seen q ≡ has_key q (numbered (l.left + 1) (pairs_of (drop l.left l.all)))) × (l.left ≤ length l.all)
    × (reverse l.kept.numbers.items ≡ numbers (lasts (numbered (l.left + 1) (pairs_of (drop l.left l.all)))))
    × (reverse (pairs_of l.kept.items.items) ≡ unnumbered (lasts (numbered (l.left + 1) (pairs_of (drop l.left l.all)))))

abbrev pub decreases-loop-left : goal.decreases-loop-left
decreases-loop-left l = l.left
