use Rattle.std.proofs.Common.{◌≡◌, ℕ, ◌-◌, ◌≤◌, List, length, take}
use Rattle.zerotrie_lines.specs.Tables.{pairs_of}
use Rattle.zerotrie_making.specs.Kept.{merged, place_in, AreSmall, IsKept}
use Rattle.zerotrie_making.proofs.MergedLemmas.{position}
use Rattle.zerotrie_making.proofs.duplicates.merged.Given as goal

abbrev pub invariant-loop-done : goal.invariant-loop-done
invariant-loop-done l = (l.done ≤ length l.all) × IsKept (merged l.rule (take l.done (pairs_of l.all))) l.kept
    × ((q : List ℕ) → place_in l.places q ≡ position q (pairs_of l.kept.items.items)) × AreSmall (pairs_of l.kept.items.items)

abbrev pub decreases-loop-done : goal.decreases-loop-done
decreases-loop-done l = length l.all - l.done
