-- The keys that a word finds, as an automaton.
use Rattle.std.specs.Prelude.{ℕ, List, Bool, true, Option, Some, None, if◌then◌else◌}
use Rattle.zerotrie_search.specs.Sets.{some_front, some_front_from}

-- whether a key is found, or if that is asked, begins with a key that is
abbrev pub found_from : (begins : Bool) → (finds : List ℕ → Bool) → List ℕ → Bool
found_from begins finds key = if begins then some_front finds key else finds key

-- whether a key is accepted from a state, or from where all keys are
abbrev pub whole_left : {S : Type 0} → (S → List ℕ → Bool) → Option S → List ℕ → Bool
whole_left accepts_from None key = true
whole_left accepts_from (Some state) key = accepts_from state key

-- the same, or if that is asked, whether a key begins with one that is
abbrev pub found_left : {S : Type 0} → (begins : Bool) → (S → List ℕ → Bool) → Option S → List ℕ → Bool
found_left begins accepts_from state key = if begins then some_front_from accepts_from state key else whole_left accepts_from state key
