-- Values that are written over a list, one after another.
use Rattle.std.proofs.Common.{◌≡◌, ℕ, ◌<◌, zero, suc, List, [], ◌∷◌, ◌++◌, map, take, drop, set, get_or, length, refl, ap, arith, ◌∙◌}
use Rattle.std.proofs.lemmas.List.{drop_all, take_all, take-append-drop}
use Rattle.zerotrie_c.specs.Keys.{keys_from, written_over}

-- what is written so far, and what is still to be written over the rest
abbrev pub going_on : (List ℕ → ℕ) → List ℕ → List ℕ → ℕ → ℕ → List ℕ → List ℕ
going_on f keys ends from n values = take n values ++ written_over (map f (keys_from from keys (drop n ends))) (drop n values)

-- one value more
pub going_on-more : (f : List ℕ → ℕ) (keys : List ℕ) (n from : ℕ) (ends values : List ℕ) → n < length ends → n < length values
    → going_on f keys ends (get_or ends n 0) (suc n) (set values n (f (drop from (take (get_or ends n 0) keys)))) ≡ going_on f keys ends from n values
going_on-more f keys n from [] values some room = absurd (omega arith)
going_on-more f keys n from (e ∷ ends) [] some room = absurd (omega arith)
going_on-more f keys zero from (e ∷ ends) (v ∷ values) some room = refl
going_on-more f keys (suc n) from (e ∷ ends) (v ∷ values) some room = ap (λ l. v ∷ l) (going_on-more f keys n from ends values (omega arith) (omega arith))

-- nothing is written if there is no room
written_nowhere : (new : List ℕ) → written_over new [] ≡ []
written_nowhere [] = refl
written_nowhere (n ∷ new) = refl

-- no key or no room is left
pub going_on-end : (f : List ℕ → ℕ) (keys : List ℕ) (n from : ℕ) (ends values : List ℕ) → (n < length ends → n < length values → ⊥)
    → going_on f keys ends from n values ≡ values
going_on-end f keys n from [] values over =
    ap (λ l. take n values ++ written_over (map f (keys_from from keys l)) (drop n values)) (drop_all n [] (omega arith)) ∙ take-append-drop n values
going_on-end f keys n from (e ∷ ends) [] over =
    let new : List ℕ = map f (keys_from from keys (drop n (e ∷ ends))) in
    ap (λ l. l ++ written_over new (drop n [])) (take_all n [] (omega arith)) ∙ ap (λ l. written_over new l) (drop_all n [] (omega arith)) ∙ written_nowhere new
going_on-end f keys zero from (e ∷ ends) (v ∷ values) over = absurd (over (omega arith) (omega arith))
going_on-end f keys (suc n) from (e ∷ ends) (v ∷ values) over =
    ap (λ l. v ∷ l) (going_on-end f keys n from ends values (λ p q. over (omega arith) (omega arith)))
