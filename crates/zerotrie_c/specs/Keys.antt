-- Keys that lie one after another, and the values that are written for them.
use Rattle.std.specs.Prelude.{◌≡◌, ℕ, List, [], ◌∷◌, map, take, drop, Option, unwrap_or}

-- the keys in the bytes, each from where the one before it ended to its own end
abbrev pub keys_from : ℕ → List ℕ → List ℕ → List (List ℕ)
keys_from from bytes [] = []
keys_from from bytes (to ∷ ends) = drop from (take to bytes) ∷ keys_from to bytes ends

-- the value that is looked up of each key, or the number for none
abbrev pub values_or : ℕ → (List ℕ → Option ℕ) → List (List ℕ) → List ℕ
values_or missing look keys = map (λ key. unwrap_or (look key) missing) keys

-- all that may be found of a key is what is looked up
abbrev pub FindsAs : (List ℕ → Option ℕ → Type 0) → (List ℕ → Option ℕ) → Type 0
FindsAs MayFind look = (key : List ℕ) (found : Option ℕ) → MayFind key found → found ≡ look key

-- the old numbers with the new ones in place of the first of them, as far as there is room
abbrev pub written_over : List ℕ → List ℕ → List ℕ
written_over [] old = old
written_over (n ∷ new) [] = []
written_over (n ∷ new) (o ∷ old) = n ∷ written_over new old
