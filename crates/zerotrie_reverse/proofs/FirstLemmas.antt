-- The first key with a value, by the places of the values.
use Rattle.std.proofs.Common.{◌≡◌, ℕ, List, [], ◌∷◌, ◌++◌, append_assoc, eqb, refl, sym, ◌∙◌, ap, inl, inr}
use Rattle.std.specs.List.{find}
use Rattle.std.specs.Option.{option_map}
use Rattle.std.proofs.lemmas.Bool.{cases_Bool}
use Rattle.std.proofs.lemmas.List.{map-append}
use Rattle.zerotrie_core.specs.Kind.{Kind}
use Rattle.zerotrie_core.specs.Maps.{Pairs}
use Rattle.zerotrie_core.specs.Texts.{Lists}
use Rattle.zerotrie_core.specs.Values.{first_key_of}
use Rattle.zerotrie_reverse.specs.Descent.{key_at, value_at}
use Rattle.zerotrie_reverse.specs.Tables.{pair_at, pairs_at, IsTable}

-- the first of the places' pairs that has a value is at the first place that has it
pub first_at : (kind : Kind) (bytes places : List ℕ) (v : ℕ)
    → first_key_of v (pairs_at kind bytes places) ≡ option_map (key_at kind bytes) (find (λ place. eqb (value_at bytes place) v) places)
first_at kind bytes [] v = refl
first_at kind bytes (place ∷ places) v = elim (cases_Bool (eqb (value_at bytes place) v)) [
  | inl pass ↦ rw pass refl
  | inr fail ↦ rw fail (first_at kind bytes places v)
]

-- places of all pairs, in another order that keeps the first of each value
pub firsts_kept : (kind : Kind) (bytes given sorted : List ℕ) → ((pairs : Pairs) → Lists kind bytes pairs → pairs_at kind bytes given ≡ pairs)
    → ((v : ℕ) → find (λ place. eqb (value_at bytes place) v) sorted ≡ find (λ place. eqb (value_at bytes place) v) given)
    → (pairs : Pairs) → Lists kind bytes pairs → (v : ℕ) → first_key_of v (pairs_at kind bytes sorted) ≡ first_key_of v pairs
firsts_kept kind bytes given sorted all kept pairs text v =
    first_at kind bytes sorted v
    ∙ ap (option_map (key_at kind bytes)) (kept v)
    ∙ sym (first_at kind bytes given v)
    ∙ ap (first_key_of v) (all pairs text)

-- what a table has
pub table_has : {kind : Kind} {bytes places : List ℕ} → IsTable kind bytes places → (v : ℕ) (pairs : Pairs) → Lists kind bytes pairs
    → option_map (key_at kind bytes) (find (λ place. eqb (value_at bytes place) v) places) ≡ first_key_of v pairs
table_has {kind = kind} {bytes = bytes} {places = places} table v pairs text = sym (first_at kind bytes places v) ∙ table.firsts pairs text v

-- the place of one more pair
pub placed_more : (kind : Kind) (bytes places : List ℕ) (place : ℕ) (e : List ℕ × ℕ) (more pairs : Pairs) → pairs_at kind bytes places ++ e ∷ more ≡ pairs → pair_at kind bytes place ≡ e
    → pairs_at kind bytes (places ++ place ∷ []) ++ more ≡ pairs
placed_more kind bytes places place e more pairs all is =
    ap (λ done. done ++ more) (map-append (pair_at kind bytes) places (place ∷ []))
    ∙ append_assoc (pairs_at kind bytes places) (pair_at kind bytes place ∷ []) more
    ∙ ap (λ f. pairs_at kind bytes places ++ f ∷ more) is
    ∙ all
