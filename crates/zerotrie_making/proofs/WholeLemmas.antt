-- Numbers in JSON.
use Rattle.std.proofs.Common.{◌≡◌, ℕ, List, [], ◌∷◌, length, Bool, true, false, Option, Some, None, refl, sym, ap}
use Rattle.std.specs.Prelude.{if◌then◌else◌, IfSome, IfNone}
use Rattle.zerotrie_lines.specs.Numbers.{number_behind, IsNumber}
use Rattle.zerotrie_queries.proofs.NumberLemmas.{fits, number_fits, fit_number}
use Rattle.zerotrie_making.specs.Json.{whole, WholeIsNumber, pair_of_items}
use Rattle.json.specs.Value.{items_view}
use Rattle.json.specs.declared.value.Value.{Value}

pub whole_of : (digits : List ℕ) (value : ℕ) → IsNumber digits value → whole digits ≡ Some value
whole_of digits value n = rw (fit_number digits value n) (ap Some (sym n.is))

by_fit : (digits : List ℕ) (b : Bool) → fits digits ≡ b → (value : ℕ) → (if b then Some (number_behind 0 digits) else None) ≡ Some value → IsNumber digits value
by_fit digits true is value h = let same : number_behind 0 digits ≡ value = some_is (number_behind 0 digits) value h in rw (sym same) (number_fits digits is)
  where
    some_is : (a b : ℕ) → Some a ≡ Some b → a ≡ b
    some_is a b e = ap (inside a) e
      where
        inside : ℕ → Option ℕ → ℕ
        inside d None = d
        inside d (Some x) = x
by_fit digits false is value h = absurd (cc h)

pub of_whole : (digits : List ℕ) (value : ℕ) → whole digits ≡ Some value → IsNumber digits value
of_whole digits value h = by_fit digits (fits digits) refl value h

none_fit : (digits : List ℕ) (b : Bool) → fits digits ≡ b → ((value : ℕ) → IsNumber digits value → ⊥) → (if b then Some (number_behind 0 digits) else None) ≡ None
none_fit digits true is none = absurd (none (number_behind 0 digits) (number_fits digits is))
none_fit digits false is none = refl

pub none_whole : (digits : List ℕ) → ((value : ℕ) → IsNumber digits value → ⊥) → whole digits ≡ None
none_whole digits none = none_fit digits (fits digits) refl none

pub whole_is : WholeIsNumber
whole_is digits value = (of_whole digits value, whole_of digits value)

-- what is parsed is the whole number, or there is none
pub parsed : (digits : List ℕ) (r : Option ℕ) → IfSome r (IsNumber digits) → IfNone r ((value : ℕ) → IsNumber digits value → ⊥) → r ≡ whole digits
parsed digits (Some value) some none = sym (whole_of digits value some)
parsed digits None some none = sym (none_whole digits none)

-- items of another number than two are no pair
pub not_two : {A : Type 0} (vs : List (Value A)) → (length vs ≡ 2 → ⊥) → pair_of_items (items_view vs) ≡ None
not_two [] h = refl
not_two (v ∷ []) h = refl
not_two (v ∷ w ∷ []) h = absurd (h refl)
not_two (v ∷ w ∷ x ∷ vs) h = refl
