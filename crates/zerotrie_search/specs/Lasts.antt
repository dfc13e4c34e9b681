-- Ways back to the last pair up to a bound.
use Rattle.std.specs.Prelude.{◌≡◌, ◌≢◌, ◌≤◌, ◌<◌, ℕ, List, [], ◌∷◌, ◌++◌, Bool, true, false, Option, Some, None, length, slice_index, not}
use Rattle.std.specs.Ordering.{match_ordering, nat_cmp}
use Rattle.std.specs.Range.Bound.{is_up_to_end}
use Rattle.std.specs.declared.ops.Bound.{Bound}
use Rattle.zerotrie_base.specs.Kind.{Kind, simple_ascii}
use Rattle.zerotrie_base.specs.Maps.{Pairs, value_at, residual, behind_all}
use Rattle.zerotrie_base.specs.Texts.{Lists}
use Rattle.zerotrie_base.specs.Cursors.{met}
use Rattle.zerotrie_core.specs.Places.{ListsAt}
use Rattle.zerotrie_core.specs.CursorPlaces.{cursor_at}
use Rattle.zerotrie_core.specs.declared.cursor_place.CursorPlace.{CursorPlace}
use Rattle.zerotrie_search.specs.Sets.{by_bytes}
use Rattle.zerotrie_search.specs.Paths.{LeadsTo, edge_of, is_from}
use Rattle.zerotrie_search.specs.declared.sorted.back.Turn.{Turn}
use Rattle.zerotrie_search.specs.declared.sorted.back.Turn.TheVariants.{Nowhere, Value, Edge}

-- whether an edge is below a limit, if there is one
abbrev pub IsUnder : Option ℕ → ℕ → Type 0
IsUnder None edge = Unit {0}
IsUnder (Some limit) edge = edge < limit

-- Of the first i edges, the greatest that is below a limit; or none is.
abbrev pub GreatestOf : List ℕ → ℕ → Option ℕ → Option ℕ → Type 0
GreatestOf edges i limit None = (j : ℕ) → j < i → IsUnder limit (slice_index edges j) → ⊥
GreatestOf edges i limit (Some b) =
    IsUnder limit b × ((k : ℕ) × (k < length edges) × (slice_index edges k ≡ b)) × ((j : ℕ) → j < i → IsUnder limit (slice_index edges j) → slice_index edges j ≤ b)

-- of the first i edges, the greatest that is below a limit, and the place after it
abbrev pub IsGreatest : Kind → List ℕ → Pairs → ℕ → Option ℕ → Option (ℕ × CursorPlace) → Type 0
IsGreatest kind bytes pairs i limit found = GreatestOf (met pairs) i limit (edge_of found) × LeadsTo kind bytes pairs found

-- whether a key comes after all keys that begin with a front
abbrev pub is_beyond : List ℕ → List ℕ → Bool
is_beyond [] key = false
is_beyond (b ∷ front) [] = false
is_beyond (b ∷ front) (c ∷ key) = match_ordering (nat_cmp b c) true (is_beyond front key) false

-- whether a key comes after a front and its edges below a limit
abbrev pub is_past : List ℕ → Option ℕ → List ℕ → Bool
is_past front None key = is_beyond front key
is_past front (Some limit) key = is_from (front ++ limit ∷ []) key

-- two tests agree on the keys of some pairs
abbrev pub Agree : Pairs → (List ℕ → Bool) → (List ℕ → Bool) → Type 0
Agree pairs p q = (key : List ℕ) (v : ℕ) → value_at simple_ascii pairs key ≡ Some v → p key ≡ q key

-- The end of an upper bound: just the keys that are not past it are within the bound, and without a
-- limit its key is empty. With no end, no key is within the bound.
abbrev pub IsEnd : Bound (List ℕ) → Option (List ℕ × Option ℕ) → Type 0
IsEnd to None = (key : List ℕ) → is_up_to_end by_bytes to key ≡ false
IsEnd to (Some end) = ((key : List ℕ) → is_up_to_end by_bytes to key ≡ not (is_past end.0 end.1 key)) × (end.1 ≡ None → end.0 ≡ [])

-- A pair that was reached is the last whose key is not past an end, or all keys are past it.
abbrev pub IsLastIn : Pairs → (List ℕ → Bool) → List ℕ → Option ℕ → Type 0
IsLastIn pairs past key None = Agree pairs past (λ _. true)
IsLastIn pairs past key (Some v) = (value_at simple_ascii pairs key ≡ Some v) × Agree pairs past (is_from (key ++ 0 ∷ []))

-- the same in whatever the bytes list
abbrev pub ReachesLast : Kind → List ℕ → (List ℕ → Bool) → List ℕ → Option ℕ → Type 0
ReachesLast kind bytes past key found = (pairs : Pairs) → Lists kind bytes pairs → IsLastIn pairs past key found

-- where a way back ends, in some pairs: nowhere, as all keys are past the end; at the last pair that is
-- not; or at an edge that leads to it
abbrev pub IsTurn : Kind → List ℕ → Pairs → (List ℕ → Bool) → List ℕ → Turn → Type 0
IsTurn kind bytes pairs past key Nowhere = Agree pairs past (λ _. true)
IsTurn kind bytes pairs past key (Value v) = IsLastIn pairs past key (Some v)
IsTurn kind bytes pairs past key (Edge b below) =
    ListsAt kind (cursor_at bytes below) (residual b (behind_all key pairs)) × (residual b (behind_all key pairs) ≢ []) × Agree pairs past (is_beyond (key ++ b ∷ []))

-- the same in whatever the bytes list
abbrev pub Turns : Kind → List ℕ → (List ℕ → Bool) → List ℕ → Turn → Type 0
Turns kind bytes past key turn = (pairs : Pairs) → Lists kind bytes pairs → IsTurn kind bytes pairs past key turn

-- a place lists what the keys that begin with a front have after it, and some key does
abbrev pub IsBehind : Kind → List ℕ → List ℕ → CursorPlace → Pairs → Type 0
IsBehind kind bytes front here pairs = ListsAt kind (cursor_at bytes here) (behind_all front pairs) × (behind_all front pairs ≢ [])
