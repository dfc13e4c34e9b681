-- The edges and residuals of pairs that are put together.
use Rattle.std.proofs.Common.{◌≡◌, ℕ, zero, suc, ◌+◌, ◌<◌, ◌≤◌, List, [], ◌∷◌, ◌++◌, refl, sym, ◌∙◌, ap, arith, inl, inr, Bool, true, false, cond, eqb}
use Rattle.std.specs.Prelude.{◌||◌, filter}
use Rattle.std.specs.List.{range_with_len}
use Rattle.std.proofs.lemmas.Bool.{eq-eqb, ne_eqb, cases_lt}
use Rattle.zerotrie_base.specs.Maps.{Pairs, with_front, begins_some, edges, residual}

-- numbers that rise, from low on and below high
abbrev pub Rise : ℕ → ℕ → List ℕ → Type 0
Rise low high [] = Unit {0}
Rise low high (e ∷ es) = (low ≤ e) × (e < high) × Rise (suc e) high es

abbrev pub member : ℕ → List ℕ → Bool
member b [] = false
member b (e ∷ es) = eqb e b || member b es

pub Rise-lower : (low low' high : ℕ) (es : List ℕ) → low ≤ low' → Rise low' high es → Rise low high es
Rise-lower low low' high [] h r = tt
Rise-lower low low' high (e ∷ es) h r = (omega arith, r.1, r.2)

pub member-below : (b low high : ℕ) (es : List ℕ) → b < low → Rise low high es → member b es ≡ false
member-below b low high [] h r = refl
member-below b low high (e ∷ es) h r = rw (ne_eqb e b (λ s. omega (arith, r.0))) (member-below b (suc e) high es (omega (arith, r.0)) r.2)

or_true : (x : Bool) → (x || true) ≡ true
or_true true = refl
or_true false = refl

pub member_head : (e : ℕ) (es : List ℕ) → member e (e ∷ es) ≡ true
member_head e es = rw (eq-eqb e e refl) refl

pub member_later : (b e : ℕ) (es : List ℕ) → member b es ≡ true → member b (e ∷ es) ≡ true
member_later b e es h = rw h (or_true (eqb e b))

pub member_other : (b e : ℕ) (es : List ℕ) → (e ≡ b → ⊥) → member b (e ∷ es) ≡ member b es
member_other b e es h = rw (ne_eqb e b h) refl

or_false : (x : Bool) → (x || false) ≡ x
or_false true = refl
or_false false = refl

or_assoc : (x y z : Bool) → (x || (y || z)) ≡ ((x || y) || z)
or_assoc true y z = refl
or_assoc false y z = refl

or_same : (x : Bool) → (x || x) ≡ x
or_same true = refl
or_same false = refl

cond_append : (b : Bool) (e : List ℕ × ℕ) (xs ys : Pairs) → cond b (e ∷ (xs ++ ys)) (xs ++ ys) ≡ cond b (e ∷ xs) xs ++ ys
cond_append true e xs ys = refl
cond_append false e xs ys = refl

-- the numbers of a range that pass a test that only these pass
pub filter-range : (p : ℕ → Bool) (a n high : ℕ) (es : List ℕ) → a + n ≡ high → Rise a high es → ((b : ℕ) → a ≤ b → p b ≡ member b es) → filter p (range_with_len a n) ≡ es
filter-range p a zero high [] h r is = refl
filter-range p a zero high (e ∷ es) h r is = absurd (omega (arith, r.0, r.1))
filter-range p a (suc n) high [] h r is =
    rw (is a (omega arith)) (filter-range p (a + 1) n high [] (omega arith) tt (λ b l. is b (omega arith)))
filter-range p a (suc n) high (e ∷ es) h r is =
    elim (cases_lt a e) [
      | inl above ↦
          let none : p a ≡ false = is a (omega arith) ∙ member-below a (suc a) high (e ∷ es) (omega arith) (omega arith, r.1, r.2) in
          rw none (filter-range p (a + 1) n high (e ∷ es) (omega arith) (omega arith, r.1, r.2) (λ b l. is b (omega arith)))
      | inr same ↦
          let here : e ≡ a = omega (arith, r.0) in
          let some : p a ≡ true = is a (omega arith) ∙ rw (eq-eqb e a here) refl in
          let rest = filter-range p (a + 1) n high es (omega arith) (Rise-lower (a + 1) (suc e) high es (omega arith) r.2)
          (λ b l. is b (omega arith) ∙ rw (ne_eqb e b (λ s. omega arith)) refl) in
          rw some (ap (λ x. a ∷ x) rest ∙ ap (λ x. x ∷ es) (sym here))
    ]

pub begins_some-append : (xs ys : Pairs) (b : ℕ) → begins_some (xs ++ ys) b ≡ (begins_some xs b || begins_some ys b)
begins_some-append [] ys b = refl
begins_some-append (([], v) ∷ xs) ys b = begins_some-append xs ys b
begins_some-append ((c ∷ key, v) ∷ xs) ys b = rw (begins_some-append xs ys b) (or_assoc (eqb c b) (begins_some xs b) (begins_some ys b))

pub begins_some-front : (e b : ℕ) (pairs : Pairs) → (pairs ≡ [] → ⊥) → begins_some (with_front e pairs) b ≡ eqb e b
begins_some-front e b [] h = absurd (h refl)
begins_some-front e b (x ∷ []) h = or_false (eqb e b)
begins_some-front e b (x ∷ y ∷ pairs) h = rw (begins_some-front e b (y ∷ pairs) (λ z. absurd (cc))) (or_same (eqb e b))

pub residual-append : (b : ℕ) (xs ys : Pairs) → residual b (xs ++ ys) ≡ residual b xs ++ residual b ys
residual-append b [] ys = refl
residual-append b (([], v) ∷ xs) ys = residual-append b xs ys
residual-append b ((c ∷ key, v) ∷ xs) ys = rw (residual-append b xs ys) (cond_append (eqb c b) (key, v) (residual b xs) (residual b ys))

pub residual-front : (b : ℕ) (pairs : Pairs) → residual b (with_front b pairs) ≡ pairs
residual-front b [] = refl
residual-front b (e ∷ pairs) = rw (eq-eqb b b refl) (ap (λ x. e ∷ x) (residual-front b pairs))

pub residual-other : (b c : ℕ) (pairs : Pairs) → (c ≡ b → ⊥) → residual b (with_front c pairs) ≡ []
residual-other b c [] h = refl
residual-other b c (e ∷ pairs) h = rw (ne_eqb c b h) (residual-other b c pairs h)

-- one edge leads to pairs that all begin with one byte, and none to no pairs
pub edges_front : (b : ℕ) (pairs : Pairs) → b < 256 → (pairs ≡ [] → ⊥) → edges (with_front b pairs) ≡ b ∷ []
unfolding edges
edges_front b pairs low some = filter-range (begins_some (with_front b pairs)) 0 256 256 (b ∷ []) refl (omega arith, low, tt) (λ x h. begins_some-front b x pairs some ∙ sym (or_false (eqb b x)))

pub edges_none : edges [] ≡ []
unfolding edges
edges_none = filter-range (begins_some []) 0 256 256 [] refl tt (λ x h. refl)

pub edges_value : (v : ℕ) (pairs : Pairs) → edges (([], v) ∷ pairs) ≡ edges pairs
unfolding edges
edges_value v pairs = refl
