use Rattle.std.proofs.Common.{◌≡◌, ◌≤◌, ◌<◌, ◌-◌, ℕ, length}
use Rattle.std.specs.Prelude.{slice_index}
use Rattle.zerotrie_search.specs.Globs.{cased, items}
use Rattle.zerotrie_search.specs.GlobMasks.{letters_in, AreTakers}
use Rattle.zerotrie_search.proofs.glob.masks.all_takers_of.Given as goal

abbrev pub invariant-loop-letter : goal.invariant-loop-letter
invariant-loop-letter l = record {
  whole : length l.takers ≡ 256;
  within : l.letter ≤ 256;
  are : (b : ℕ) → b < l.letter → AreTakers (cased l.any_case (items (letters_in l.pattern))) b (slice_index l.takers b);
}

abbrev pub decreases-loop-letter : goal.decreases-loop-letter
decreases-loop-letter l = 256 - l.letter
