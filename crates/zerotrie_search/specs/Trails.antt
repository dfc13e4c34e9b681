-- The states of an automaton along a key.
use Rattle.std.specs.Prelude.{◌≡◌, ℕ, List, [], ◌∷◌, ◌++◌, Bool, false, length, take, map}
use Rattle.zerotrie_search.specs.declared.trail.Verdict.{Verdict}
use Rattle.zerotrie_search.specs.declared.trail.Verdict.TheVariants.{Alive, Dead}

module _ {S : Type 0} (IsAfter : List ℕ → S → Type 0) (accepts_from : S → List ℕ → Bool) (accepts : List ℕ → Bool) where
  -- the automaton may be in the state after these bytes, and accepts from there what it accepts
  abbrev pub StandsAfter : List ℕ → S → Type 0
  StandsAfter front state = IsAfter front state × ((key : List ℕ) → accepts_from state key ≡ accepts (front ++ key))

  -- each state of a trail is that after the bytes up to it
  abbrev pub IsTrail : List ℕ → List (ℕ × S) → Type 0
  IsTrail front [] = Unit {0}
  IsTrail front (e ∷ trail) = StandsAfter (front ++ e.0 ∷ []) e.1 × IsTrail (front ++ e.0 ∷ []) trail

  -- a verdict on the first bytes of keys: the automaton is in the state after them, or it accepts
  -- no key that begins with this many of them
  abbrev pub IsVerdict : List ℕ → Verdict S → Type 0
  IsVerdict key (Alive state) = StandsAfter key state
  IsVerdict key (Dead depth) = (more : List ℕ) → accepts (take depth key ++ more) ≡ false

-- the bytes of a trail
abbrev pub trail_bytes : {S : Type 0} → List (ℕ × S) → List ℕ
trail_bytes {S = S} trail = map {B = ℕ} (λ (e : ℕ × S). e.0) trail

-- the key begins with these bytes
abbrev pub IsFront : List ℕ → List ℕ → Type 0
IsFront bytes key = bytes ≡ take (length bytes) key
