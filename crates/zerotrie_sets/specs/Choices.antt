-- What is chosen of the rows of a merge.
use Rattle.std.specs.Prelude.{◌≡◌, ℕ, List, [], ◌∷◌, Option, Some, None, Result, Ok, Err, false, true}
use Rattle.std.specs.declared.alloc.AllocError.{AllocError}
use Rattle.zerotrie_sets.specs.Streams.{Coming, coming}
use Rattle.zerotrie_sets.specs.Merges.{Both, chosen}

-- what is left of a merge, of the chosen rows alone
abbrev pub chosen_left : {W : Type 0} → (Option ℕ → Option ℕ → Option W) → Coming (List ℕ × Both ℕ ℕ) → Coming (List ℕ × W)
chosen_left choose left = record { items = chosen choose left.items; ended = left.ended }

-- The first item was found, with its value and this key, or nothing was left, or memory failed.
abbrev pub Finds : {W : Type 0} → Coming (List ℕ × W) → Result (Option W) AllocError → List ℕ → Coming (List ℕ × W) → Type 0
Finds before (Ok (Some v)) key after = (before ≡ coming false ((key, v) ∷ after.items)) × (after ≡ coming false after.items)
Finds before (Ok None) key after = (before.items ≡ []) × (after ≡ coming true [])
Finds before (Err e) key after = (before.ended ≡ false) × (after ≡ coming true [])
