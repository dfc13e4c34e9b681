-- What is accepted at the end of a key, and what is not.
use Rattle.std.proofs.Common.{◌≡◌, ◌∙◌, ℕ, Bool, List, [], ◌∷◌, length, refl, ap, arith, false, suc}
use Rattle.std.specs.Prelude.{◌==◌, ◌||◌, is_some, not}
use Rattle.std.specs.Range.Bound.{is_from_start, is_up_to_end}
use Rattle.std.specs.declared.ops.Bound.TheVariants.{Included, Excluded}
use Rattle.std.proofs.lemmas.Bool.{ne_eqb}
use Rattle.zerotrie_base.specs.Kind.{Kind}
use Rattle.zerotrie_base.specs.Maps.{after_run, begins_with}
use Rattle.zerotrie_search.specs.Sets.{has_within, by_bytes, some_front}

some_left : (n : ℕ) → (suc n == 0) ≡ false
some_left n = ne_eqb (suc n) 0 (λ e. omega (arith, e))

pub begins_here : (left : List ℕ) → (length left == 0) ≡ is_some (after_run left [])
begins_here [] = refl
begins_here (b ∷ left) = some_left (length left)

pub begins_by_here : (kind : Kind) (left : List ℕ) → (length left == 0) ≡ begins_with kind left []
begins_by_here kind [] = refl
begins_by_here kind (b ∷ left) = some_left (length left)

pub within_here : (left : List ℕ) → (length left == 0) ≡ has_within left []
within_here [] = refl
within_here (b ∷ left) = some_left (length left)

pub from_here : (from : List ℕ) → (length from == 0) ≡ is_from_start by_bytes (Included from) []
from_here [] = refl
from_here (b ∷ from) = some_left (length from)

pub not_from_here : (from : List ℕ) → false ≡ is_from_start by_bytes (Excluded from) []
not_from_here [] = refl
not_from_here (b ∷ from) = refl

pub none_to : (to : List ℕ) → not (length to == 0) ≡ false → (key : List ℕ) → is_up_to_end by_bytes (Excluded to) key ≡ false
none_to [] none [] = refl
none_to [] none (b ∷ key) = refl
none_to (b ∷ to) none key = absurd (let some = some_left (length to) in cc)

-- no front is accepted if nothing is
pub no_front : (accepts : List ℕ → Bool) → ((key : List ℕ) → accepts key ≡ false) → (key : List ℕ) → some_front accepts key ≡ false
no_front accepts none [] = none []
no_front accepts none (b ∷ key) = ap (λ x. x || some_front (λ rest. accepts (b ∷ rest)) key) (none []) ∙ no_front (λ rest. accepts (b ∷ rest)) (λ rest. none (b ∷ rest)) key
