use Rattle.std.proofs.Common.{◌≡◌, ℕ, ◌+◌, ◌-◌, ◌≤◌, List, [], ◌++◌, length, drop}
use Rattle.zerotrie_lines.specs.Tables.{pairs_of}
use Rattle.zerotrie_making.specs.Kept.{Numbered, numbered, has_key, firsts, numbers, unnumbered, has_seen}
use Rattle.zerotrie_making.proofs.duplicates.firsts.Given as goal

abbrev pub invariant-loop-done : goal.invariant-loop-done
invariant-loop-done l = (earlier : Numbered) × ((q : List ℕ) → has_seen l.seen q ≡ has_key q earlier) × (l.done ≤ length l.all)
    × (l.kept.numbers.items ++ numbers (firsts earlier (numbered (l.done + 1) (pairs_of (drop l.done l.all)))) ≡ numbers (firsts [] (numbered 1 (pairs_of l.all))))
    × (pairs_of l.kept.items.items ++ unnumbered (firsts earlier (numbered (l.done + 1) (pairs_of (drop l.done l.all)))) ≡ unnumbered (firsts [] (numbered 1 (pairs_of l.all))))

abbrev pub decreases-loop-done : goal.decreases-loop-done
decreases-loop-done l = length l.all - l.done
