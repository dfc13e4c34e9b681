-- The keys that a text begins with.
use Rattle.std.specs.Prelude.{◌≡◌, ℕ, ◌+◌, ◌-◌, ◌<◌, ◌≤◌, List, [], ◌∷◌, ◌++◌, length, take, drop, Option, Some, None, Bool, true, false, if◌then◌else◌}
use Rattle.std.specs.Option.{option_map, option_to_list}
use Rattle.zerotrie_base.specs.Kind.{Kind}
use Rattle.zerotrie_base.specs.Maps.{Pairs, Map, look, value_at}
use Rattle.zerotrie_core.specs.Places.{Place, ListsAt}

-- Of the prefixes of a text of at most this many bytes, the longest that has a value: its length
-- and the value; or none has.
abbrev pub IsLongest : (List ℕ → Option ℕ) → List ℕ → ℕ → Option (ℕ × ℕ) → Type 0
IsLongest at text most None = (n : ℕ) → n ≤ most → at (take n text) ≡ None
IsLongest at text most (Some r) = (r.0 ≤ most) × (at (take r.0 text) ≡ Some r.1) × ((n : ℕ) → r.0 < n → n ≤ most → at (take n text) ≡ None)

-- the answer is the length and the value of the longest key of the map that the text begins with,
-- if there is one
abbrev pub IsLongestPrefix : Kind → Map → List ℕ → Option (ℕ × ℕ) → Type 0
IsLongestPrefix kind m text answer = IsLongest (look kind m) text (length text) answer

-- the keys that a text begins with, the shortest first: its length plus `len`, and its value
abbrev pub fronts : (List ℕ → Option ℕ) → ℕ → List ℕ → List (ℕ × ℕ)
fronts at len [] = option_to_list (option_map (λ v. (len, v)) (at []))
fronts at len (c ∷ text) = option_to_list (option_map (λ v. (len, v)) (at [])) ++ fronts (λ key. at (c ∷ key)) (len + 1) text

-- the keys of the map that the text begins with
abbrev pub common_prefixes : Kind → Map → List ℕ → List (ℕ × ℕ)
common_prefixes kind m text = fronts (look kind m) 0 text

-- The state of a search along a text: a place of a trie, the number of bytes of the text before it,
-- and whether the value there was looked for.
pub record Along : Type 0 where
  pub kind : Kind
  pub place : Place
  pub text : List ℕ
  pub len : ℕ
  pub looked : Bool

abbrev pub along : Kind → Place → List ℕ → ℕ → Bool → Along
along kind place text len looked = record { kind = kind; place = place; text = text; len = len; looked = looked }

-- at the beginning of a text and a trie
abbrev pub at_front : Kind → List ℕ → List ℕ → Along
at_front kind bytes text = along kind (record { run = []; trie = bytes }) text 0 false

-- the pairs that are left there, none of the empty key once its value was looked for
abbrev pub LeavesAt : Kind → Place → Bool → Pairs → Type 0
LeavesAt kind place looked pairs = ListsAt kind place pairs × (looked ≡ true → value_at kind pairs [] ≡ None)

abbrev pub Leaves : Along → Pairs → Type 0
Leaves s pairs = LeavesAt s.kind s.place s.looked pairs

-- the keys to come
abbrev pub fronts_left : Along → Pairs → List (ℕ × ℕ)
fronts_left s pairs = fronts (value_at s.kind pairs) s.len (drop s.len s.text)

-- at most how many keys are to come
abbrev pub most_left : Along → ℕ
most_left s = length s.text - s.len + (if s.looked then 0 else 1)

-- One call of `next`, on any bytes: it returns the length of a prefix of the text, which stays.
-- Whichever pairs are left, it returns and removes the first of the keys, or none was to come, and none is.
abbrev pub NextFront : Along → Option (ℕ × ℕ) → Along → Type 0
NextFront before None after = (pairs : Pairs) → Leaves before pairs
    → (fronts_left before pairs ≡ []) × (left : Pairs) × Leaves after left × (fronts_left after left ≡ [])
NextFront before (Some f) after = (f.0 ≤ length before.text) × (after.text ≡ before.text)
    × ((pairs : Pairs) → Leaves before pairs → (left : Pairs) × Leaves after left × (fronts_left before pairs ≡ f ∷ fronts_left after left))
