-- Streams of pairs and of rows: their states, and the result of a call of `advance`.
use Rattle.std.specs.Prelude.{◌≡◌, ℕ, ◌+◌, List, [], ◌∷◌, length, Bool, true, false, if◌then◌else◌, Result, Ok, Err}
use Rattle.std.specs.List.{slice_get}
use Rattle.std.specs.Option.{option_map_or}
use Rattle.zerotrie_core.specs.Maps.{Pairs}
use Rattle.zerotrie_core.specs.Items.{Items}
use Rattle.zerotrie_core.specs.Listings.{Left, to_come, over}
use Rattle.std.specs.declared.alloc.AllocError.{AllocError}

-- the state of a stream: the current pair, and what is left
pub record Stand : Type 0 where
  pub current : List ℕ × ℕ
  pub left : Left

-- what is left: these pairs, unless it has ended
abbrev pub left_of : Bool → Pairs → Left
left_of true pairs = over
left_of false pairs = to_come pairs

-- the pair at a place, and an empty key past the end
abbrev pub pair_at : Items → ℕ → List ℕ × ℕ
pair_at items i = option_map_or {U = List ℕ × ℕ} (λ e. (e.0.now, e.1)) (slice_get items i) ([], 0)

-- What is left of a listing of anything: the items to come, in this order, and whether it has ended.
pub record Coming (X : Type 0) : Type 0 where
  pub items : List X
  pub ended : Bool

-- these items, unless it has ended
abbrev pub coming : {X : Type 0} → Bool → List X → Coming X
coming true items = record { items = []; ended = true }
coming false items = record { items = items; ended = false }

-- One call of `advance`: it moves to the first item, or nothing was left, or memory failed. After an
-- error or the end nothing is left.
abbrev pub Advances : {X : Type 0} → Coming X → Result Bool AllocError → X → Coming X → Type 0
Advances before (Ok true) current after = (before ≡ coming false (current ∷ after.items)) × (after ≡ coming false after.items)
Advances before (Ok false) current after = (before.items ≡ []) × (after ≡ coming true [])
Advances before (Err e) current after = (before.ended ≡ false) × (after ≡ coming true [])

-- at most how many items are to come, and the end
abbrev pub turns : {X : Type 0} → Coming X → ℕ
turns left = if left.ended then 0 else 1 + length left.items
