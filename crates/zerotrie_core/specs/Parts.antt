-- Listings of keys alone, or of values alone.
use Rattle.std.specs.Prelude.{◌≡◌, ℕ, List, [], ◌∷◌, false, Option, Some, None, Result, Ok, Err}
use Rattle.zerotrie_base.specs.Maps.{Pairs}
use Rattle.zerotrie_core.specs.Listings.{Left, to_come, over}

-- One call of `next`, as `ListsOne` has it, of which a part of the pair comes: the first pair is taken off, or an error
-- ends the listing here, or nothing was left.
module _ {X E : Type 0} (IsPart : List ℕ × ℕ → X → Type 0) (MayEnd : E → Pairs → Type 0) where
  abbrev pub ListsPart : Left → Option (Result X E) → Left → Type 0
  ListsPart before None after = (before.pairs ≡ []) × (after ≡ over)
  ListsPart before (Some (Ok x)) after = (e : List ℕ × ℕ) × IsPart e x × (before ≡ to_come (e ∷ after.pairs)) × (after ≡ to_come after.pairs)
  ListsPart before (Some (Err e)) after = (before.ended ≡ false) × MayEnd e before.pairs × (after ≡ over)
