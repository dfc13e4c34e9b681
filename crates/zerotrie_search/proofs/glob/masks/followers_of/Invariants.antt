use Rattle.std.proofs.Common.{◌≡◌, ◌≤◌, ◌<◌, ℕ, List, length, drop}
use Rattle.std.specs.Prelude.{slice_index}
use Rattle.zerotrie_search.specs.Globs.{Item}
use Rattle.zerotrie_search.specs.GlobMasks.{any_match, after_first, AreRoles}
use Rattle.zerotrie_search.specs.GlobAheads.{AreAhead}
use Rattle.zerotrie_search.proofs.glob.masks.followers_of.Given as goal

abbrev pub invariant-loop-place : goal.invariant-loop-place
invariant-loop-place l = record {
  whole : length l.followers ≡ 64;
  within : l.place ≤ l.last;
  ahead : (all : List Item) → length all ≡ l.last → AreRoles all l.roles → (key : List ℕ) → AreAhead all (drop l.place all) l.ahead key;
  are : (all : List Item) → length all ≡ l.last → AreRoles all l.roles → (p : ℕ) → l.place ≤ p → p < length all → (key : List ℕ)
      → any_match (slice_index l.followers p) 0 all key ≡ after_first (drop p all) key;
}

abbrev pub decreases-loop-place : goal.decreases-loop-place
decreases-loop-place l = l.place
