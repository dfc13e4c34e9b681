-- The keys that a word finds, or those that begin with one.
use Rattle.std.proofs.Common.{◌≡◌, ◌∙◌, ℕ, List, [], ◌∷◌, Bool, true, false, Option, Some, None, refl, ap}
use Rattle.std.specs.Prelude.{◌||◌}
use Rattle.zerotrie_search.specs.Sets.{some_front, some_front_from}
use Rattle.zerotrie_queries.specs.Found.{found_from, found_left}

-- fronts are accepted alike
front_alike : (p q : List ℕ → Bool) → ((key : List ℕ) → p key ≡ q key) → (key : List ℕ) → some_front p key ≡ some_front q key
front_alike p q same [] = same []
front_alike p q same (b ∷ key) =
    ap (λ x. x || some_front (λ rest. p (b ∷ rest)) key) (same []) ∙ ap (λ x. q [] || x) (front_alike (λ rest. p (b ∷ rest)) (λ rest. q (b ∷ rest)) (λ rest. same (b ∷ rest)) key)

pub no_front : (accepts : List ℕ → Bool) → ((key : List ℕ) → accepts key ≡ false) → (key : List ℕ) → some_front accepts key ≡ false
no_front accepts none [] = none []
no_front accepts none (b ∷ key) = ap (λ x. x || some_front (λ rest. accepts (b ∷ rest)) key) (none []) ∙ no_front (λ rest. accepts (b ∷ rest)) (λ rest. none (b ∷ rest)) key

-- the first state accepts the keys themselves
pub from_start : {S : Type 0} (begins : Bool) (from : S → List ℕ → Bool) (accepts : List ℕ → Bool) (state : S) → ((key : List ℕ) → from state key ≡ accepts key) → (key : List ℕ) → found_left begins from (Some state) key ≡ found_from begins accepts key
from_start true from accepts state same key = front_alike (from state) accepts same key
from_start false from accepts state same key = same key

-- at the end of a key both are one
pub found_here : {S : Type 0} (begins : Bool) (from : S → List ℕ → Bool) (state : Option S) → some_front_from from state [] ≡ found_left begins from state []
found_here true from state = refl
found_here false from None = refl
found_here false from (Some state) = refl

-- and none is found where none is accepted
pub none_from : (begins : Bool) (finds : List ℕ → Bool) → ((key : List ℕ) → finds key ≡ false) → (key : List ℕ) → found_from begins finds key ≡ false
none_from true finds none key = no_front finds none key
none_from false finds none key = none key

pub none_left : {S : Type 0} (begins : Bool) (from : S → List ℕ → Bool) (state : S) → ((key : List ℕ) → from state key ≡ false) → (key : List ℕ) → found_left begins from (Some state) key ≡ false
none_left true from state none key = no_front (from state) none key
none_left false from state none key = none key

-- nor after a byte that no key has next, unless the bytes before it are one
pub none_after : (begins : Bool) (finds : List ℕ → Bool) (byte : ℕ) → (begins ≡ true → finds [] ≡ false) → ((key : List ℕ) → finds (byte ∷ key) ≡ false) → (key : List ℕ) → found_from begins finds (byte ∷ key) ≡ false
none_after true finds byte here none key = ap (λ x. x || some_front (λ rest. finds (byte ∷ rest)) key) (here refl) ∙ no_front (λ rest. finds (byte ∷ rest)) none key
none_after false finds byte here none key = none key
