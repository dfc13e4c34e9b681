use Rattle.std.proofs.Common.{◌≡◌, ◌∷◌, ℕ, List}
use Rattle.std.specs.Prelude.{◌||◌}
use Rattle.std.specs.Int.{bit_at}
use Rattle.zerotrie_search.specs.Globs.{Item}
use Rattle.zerotrie_search.specs.GlobMasks.{any_match, AreTakers}
use Rattle.zerotrie_search.specs.GlobTables.{AreMasks}
use Rattle.zerotrie_search.proofs.glob.masks.Masks.step.Given as goal

abbrev pub invariant-loop-left : goal.invariant-loop-left
invariant-loop-left l = record {
  within : (p : ℕ) → bit_at l.left p ≡ 1 → bit_at l.takers p ≡ 1;
  same : (all : List Item) (letter : ℕ) (key : List ℕ) → AreMasks all l.self → AreTakers all letter l.takers
      → (any_match l.next 0 all key || any_match l.left 0 all (letter ∷ key)) ≡ any_match l.marks 0 all (letter ∷ key);
}

abbrev pub decreases-loop-left : goal.decreases-loop-left
decreases-loop-left l = l.left
