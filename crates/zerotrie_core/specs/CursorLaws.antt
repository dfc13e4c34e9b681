-- Laws of cursors, over the definitions alone.
use Rattle.std.specs.Prelude.{◌≡◌, ℕ, List, [], ◌++◌, map, true, Some, None, Contains}
use Rattle.zerotrie_base.specs.Kind.{Kind}
use Rattle.zerotrie_base.specs.Maps.{Pairs, Map, map_of, value_at, same_key, look}
use Rattle.zerotrie_base.specs.Texts.{Lists, Means}
use Rattle.zerotrie_core.specs.Machine.{Op, Answer, run, without_value, after_steps}
use Rattle.zerotrie_core.specs.Places.{Place, ListsAt}

-- the steps by the bytes of a key
abbrev pub steps_by : List ℕ → List Op
steps_by key = map (λ c. Op.step c) key

-- their results if each follows an edge
abbrev pub stepped_along : List ℕ → List Answer
stepped_along edges = map (λ b. Answer.stepped (Some b)) edges

-- a look-up of a key in what is left after steps returns what a look-up of the stepped bytes and
-- the key returns in the whole
abbrev pub StepsAnswer : Type 0
StepsAnswer = (kind : Kind) (place : Place) (pairs : Pairs) → ListsAt kind place pairs → (front key : List ℕ)
    → value_at kind (after_steps kind front pairs) key ≡ value_at kind pairs (front ++ key)

-- if an encoding is left after steps, so does a look-up in its map
abbrev pub SuffixAnswers : Type 0
SuffixAnswers = (kind : Kind) (bytes rest : List ℕ) (m : Map) (means : Means kind bytes m) (front key : List ℕ)
    → Lists kind rest (after_steps kind front means.pairs)
    → look kind (map_of (after_steps kind front means.pairs)) key ≡ look kind m (front ++ key)

-- once the value is taken, there is none
abbrev pub NoSecondValue : Type 0
NoSecondValue = (kind : Kind) (place : Place) (pairs : Pairs) → ListsAt kind place pairs → value_at kind (without_value pairs) [] ≡ None

-- steps by a key that equals a stored key in the kind return the bytes of the stored key
abbrev pub StoredBytes : Type 0
StoredBytes = (kind : Kind) (place : Place) (pairs : Pairs) → ListsAt kind place pairs
    → (key typed : List ℕ) (v : ℕ) → Contains pairs (key, v) → same_key kind key typed ≡ true
    → run kind (steps_by typed) pairs ≡ stepped_along key
