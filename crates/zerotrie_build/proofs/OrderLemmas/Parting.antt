-- Where a key parts from the key before it.
use Rattle.std.proofs.Common.{◌≡◌, ℕ, zero, suc, ◌+◌, ◌<◌, ◌≤◌, inl, inr, List, [], ◌∷◌, length, refl, ◌∙◌, ap, arith, drop, get_or}
use Rattle.std.specs.Prelude.{◌==◌}
use Rattle.std.proofs.lemmas.Bool.{eq-eqb, ne_eqb, cases_eq}
use Rattle.zerotrie_base.specs.Kind.{Kind, fold_byte}
use Rattle.zerotrie_base.specs.Maps.{common_front}
use Rattle.zerotrie_build.specs.Order.{Before}

abbrev pub common : List ℕ → List ℕ → ℕ
common before key = common_front (λ a b. a == b) before key

-- bytes that the kind tells apart
apart : (kind : Kind) (a b : ℕ) → fold_byte kind a < fold_byte kind b → a ≡ b → ⊥
apart kind a b h e = let f = ap (fold_byte kind) e in omega arith

-- after c common bytes the key before ends, or has a byte that is lower to the kind
pub record PartsAt (kind : Kind) (before key : List ℕ) (c : ℕ) : Type 0 where
  pub room : c < length key
  pub less : c < length before → fold_byte kind (get_or before c 0) < fold_byte kind (get_or key c 0)

parts_at_once : (kind : Kind) (x y : ℕ) (before key : List ℕ) → fold_byte kind x < fold_byte kind y → PartsAt kind (x ∷ before) (y ∷ key) 0
parts_at_once kind x y before key h = record {
  room = omega arith;
  less = λ l. h;
}

parts_later : (kind : Kind) (x y c : ℕ) (before key : List ℕ) → PartsAt kind before key c → PartsAt kind (x ∷ before) (y ∷ key) (1 + c)
parts_later kind x y c before key p = record {
  room = let u = p.room in omega arith;
  less = λ l. let n : 1 + c ≡ suc c = omega arith in rw n (p.less (omega arith));
}

pub parts : (kind : Kind) (before key : List ℕ) → Before kind before key → PartsAt kind before key (common before key)
parts kind [] [] h = absurd h
parts kind [] (y ∷ key) h = record {
  room = omega arith;
  less = λ l. absurd (let g : 0 < 0 = l in omega arith);
}
parts kind (x ∷ before) [] h = absurd h
parts kind (x ∷ before) (y ∷ key) h =
    elim h [
      | inl less ↦ rw (ne_eqb x y (apart kind x y less)) (parts_at_once kind x y before key less)
      | inr same ↦ rw (eq-eqb x y same.0) (parts_later kind x y (common before key) before key (parts kind before key same.1))
    ]

drop_nil : (m : ℕ) → drop m (let none : List ℕ = [] in none) ≡ []
drop_nil zero = refl
drop_nil (suc m) = refl

drop_past : (xs : List ℕ) (n : ℕ) → length xs ≤ n → drop n xs ≡ []
drop_past [] n h = drop_nil n
drop_past (x ∷ xs) zero h = absurd (let g : suc (length xs) ≤ 0 = h in omega arith)
drop_past (x ∷ xs) (suc n) h = drop_past xs n (let g : suc (length xs) ≤ suc n = h in omega arith)

common_nil : (before : List ℕ) → common before [] ≡ 0
common_nil [] = refl
common_nil (x ∷ before) = refl

-- after the end of the key nothing is in common
pub common_past : (before key : List ℕ) (n : ℕ) → length key ≤ n → common (drop n before) (drop n key) ≡ 0
common_past before key n h = ap (common (drop n before)) (drop_past key n h) ∙ common_nil (drop n before)

-- what is in common is in both
pub common_most : (before key : List ℕ) → (common before key ≤ length before) × (common before key ≤ length key)
common_most [] key = (omega arith, omega arith)
common_most (x ∷ before) [] = (omega arith, omega arith)
common_most (x ∷ before) (y ∷ key) =
    let rest = common_most before key in
    elim (cases_eq x y) [
      | inl same ↦ rw (eq-eqb x y same) (let a = rest.0 in omega arith, let b = rest.1 in omega arith)
      | inr other ↦ rw (ne_eqb x y other) (omega arith, omega arith)
    ]

-- the key before is one, if it ends at what the two have in common or has a lower byte there
pub before_at : (kind : Kind) (before key : List ℕ) → common before key < length key
    → (common before key < length before → fold_byte kind (get_or before (common before key) 0) < fold_byte kind (get_or key (common before key) 0)) → Before kind before key
before_at kind [] [] room less = let g : 0 < 0 = room in omega arith
before_at kind [] (y ∷ key) room less = tt
before_at kind (x ∷ before) [] room less = let g : 0 < 0 = room in omega arith
before_at kind (x ∷ before) (y ∷ key) room less =
    elim (cases_eq x y) [
      | inl same ↦
          let next : 1 + common before key ≡ suc (common before key) = omega arith in
          let room' = rw (eq-eqb x y same, next) at room in
          let less' = rw (eq-eqb x y same, next) at less in
          inr (same, before_at kind before key (omega arith) (λ l. less' (omega arith)))
      | inr other ↦ let less' = rw (ne_eqb x y other) at less in inl (less' (omega arith))
    ]
