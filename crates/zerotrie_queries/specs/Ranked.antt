-- The pairs of the greatest values.
use Rattle.std.specs.Prelude.{ℕ, List, [], ◌∷◌, map, nat_le, take, Option, Some, None, if◌then◌else◌}
use Rattle.std.specs.Vec.Iter.{into_iter_items}
use Rattle.std.specs.declared.alloc.Global.{Global}
use Rattle.std.specs.declared.vec.Vec.{Vec}
use Rattle.zerotrie_core.specs.Listings.{Left, over, to_come}
use Rattle.zerotrie_core.specs.Maps.{Pairs}
use Rattle.zerotrie_queries.specs.declared.listing.greatest.HeldPairs.{HeldPairs}

-- an item among others whose numbers do not rise: behind those of at least its number
abbrev pub among : {X : Type 0} → (X → ℕ) → X → List X → List X
among number x [] = x ∷ []
among number x (y ∷ ys) = if nat_le (number x) (number y) then y ∷ among number x ys else x ∷ y ∷ ys

-- items that are put among others, one after another
abbrev pub ranked_among : {X : Type 0} → (X → ℕ) → List X → List X → List X
ranked_among number done [] = done
ranked_among number done (x ∷ xs) = ranked_among number (among number x done) xs

-- pairs by their values: the greatest first, and those of one value in their order
abbrev pub ranked : Pairs → Pairs
ranked pairs = ranked_among (λ e. e.1) [] pairs

-- the first of these
abbrev pub greatest : ℕ → Pairs → Pairs
greatest most pairs = take most (ranked pairs)

-- pairs, or those of them that have the greatest values
abbrev pub topped : Option ℕ → Pairs → Pairs
topped None pairs = pairs
topped (Some most) pairs = greatest most pairs

-- pairs that own their keys
abbrev pub held_pairs : List (Vec ℕ Global × ℕ) → Pairs
held_pairs items = map {B = List ℕ × ℕ} (λ e. (e.0.items, e.1)) items

-- what is left of a listing of such pairs
abbrev pub left_of_held : HeldPairs → Left
left_of_held s = if s.ended then over else to_come (held_pairs (into_iter_items s.rest))
