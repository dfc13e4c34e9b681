use Rattle.std.proofs.Common.{◌≡◌, ◌≤◌, ◌<◌, ◌+◌, ℕ, length, drop}
use Rattle.std.specs.Int.{bit_at}
use Rattle.zerotrie_search.specs.Globs.{cased, items, items_in}
use Rattle.zerotrie_search.specs.GlobMasks.{letters_in, taken_at}
use Rattle.zerotrie_search.proofs.glob.masks.takers_of.Given as goal

abbrev pub invariant-loop-item : goal.invariant-loop-item
invariant-loop-item l = record {
  few : l.place ≤ 63;
  all : l.place + length (items_in l.in_group (letters_in l.left)) ≡ length (items (letters_in l.pattern));
  at : drop l.place (cased l.any_case (items (letters_in l.pattern))) ≡ cased l.any_case (items_in l.in_group (letters_in l.left));
  takers : (p : ℕ) → p < l.place → bit_at l.takers p ≡ taken_at (drop p (cased l.any_case (items (letters_in l.pattern)))) l.letter;
  none : (p : ℕ) → l.place ≤ p → bit_at l.takers p ≡ 0;
}

abbrev pub decreases-loop-item : goal.decreases-loop-item
decreases-loop-item l = length (letters_in l.left)
