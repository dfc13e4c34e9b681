-- Pairs of keys that lie one after another, and of values.
use Rattle.std.proofs.Common.{◌≡◌, ℕ, ◌+◌, ◌<◌, zero, suc, List, [], ◌∷◌, ◌++◌, take, drop, get_or, length, refl, sym, ◌∙◌, ap, arith, append_assoc}
use Rattle.std.specs.Prelude.{zip}
use Rattle.std.specs.Borrow.{Bor}
use Rattle.zerotrie_core.specs.Items.{Items, pairs_of}
use Rattle.zerotrie_core.specs.Maps.{Pairs}
use Rattle.zerotrie_c.specs.Keys.{keys_from}

-- the pairs from this number on, whose first key begins here
abbrev pub pairs_from : ℕ → ℕ → List ℕ → List ℕ → List ℕ → Pairs
pairs_from n from keys ends values = zip (keys_from from keys (drop n ends)) (drop n values)

-- the pair of a number, and those after it
next_pair : (n from : ℕ) (keys ends values : List ℕ) → n < length ends → n < length values
    → pairs_from n from keys ends values
    ≡ (drop from (take (get_or ends n 0) keys), get_or values n 0) ∷ pairs_from (suc n) (get_or ends n 0) keys ends values
next_pair n from keys [] values some room = absurd (omega arith)
next_pair n from keys (e ∷ ends) [] some room = absurd (omega arith)
next_pair zero from keys (e ∷ ends) (v ∷ values) some room = refl
next_pair (suc n) from keys (e ∷ ends) (v ∷ values) some room = next_pair n from keys ends values (omega arith) (omega arith)

-- one pair more
pub one_more : (n from : ℕ) (keys ends values : List ℕ) (made : Pairs) → n < length ends → n < length values
    → (made ++ (drop from (take (get_or ends n 0) keys), get_or values n 0) ∷ []) ++ pairs_from (n + 1) (get_or ends n 0) keys ends values
    ≡ made ++ pairs_from n from keys ends values
one_more n from keys ends values made some room =
    let e : List ℕ × ℕ = (drop from (take (get_or ends n 0) keys), get_or values n 0) in
    let next : n + 1 ≡ suc n = omega arith in
    ap (λ k. (made ++ e ∷ []) ++ pairs_from k (get_or ends n 0) keys ends values) next
    ∙ append_assoc made (e ∷ []) (pairs_from (suc n) (get_or ends n 0) keys ends values)
    ∙ ap (λ l. made ++ l) (sym (next_pair n from keys ends values some room))

pub pushed : (items : Items) (key : Bor (List ℕ)) (v : ℕ) → pairs_of (items ++ (key, v) ∷ []) ≡ pairs_of items ++ (key.now, v) ∷ []
pushed [] key v = refl
pushed (e ∷ items) key v = ap (λ l. (e.0.now, e.1) ∷ l) (pushed items key v)

-- none is left after the shorter list
pub no_pairs : (n from : ℕ) (keys ends values : List ℕ) → (n < length ends → n < length values → ⊥) → pairs_from n from keys ends values ≡ []
no_pairs zero from keys [] values over = refl
no_pairs zero from keys (e ∷ ends) [] over = refl
no_pairs zero from keys (e ∷ ends) (v ∷ values) over = absurd (over (omega arith) (omega arith))
no_pairs (suc n) from keys [] values over = refl
no_pairs (suc n) from keys (e ∷ ends) [] over = none_of (keys_from from keys (drop n ends))
  where
    none_of : (ks : List (List ℕ)) → zip {X = ℕ} ks [] ≡ []
    none_of [] = refl
    none_of (k ∷ ks) = refl
no_pairs (suc n) from keys (e ∷ ends) (v ∷ values) over = no_pairs n from keys ends values (λ p q. over (omega arith) (omega arith))
