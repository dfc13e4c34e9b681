-- The cells of a matrix's bytes.
use Rattle.std.proofs.Common.{◌≡◌, ℕ, ◌+◌, ◌*◌, ◌-◌, ◌/◌, ◌<◌, ◌≤◌, List, [], ◌∷◌, length, get_or, refl, sym, ap, suc, cond, ◌∙◌, arith, Bool, true, false, inl, inr, Option, Some, None}
use Rattle.std.specs.Prelude.{◌==◌, ◌⊎◌, ◌^◌, nat_lt, nat_le, SomeIff}
use Rattle.zerotrie.specs.dense.Laws.{cell_at, value_of, in_matrix}
use Rattle.zerotrie.specs.dense.Records.{Parts}

either : (b : Bool) → (b ≡ true) ⊎ (b ≡ false)
either true = inl refl
either false = inr refl

pub at_least : (a b : ℕ) → (a < b → ⊥) → b ≤ a
at_least a b h = elim (either (nat_lt a b)) [
  | inl y ↦ absurd (h (grind arith))
  | inr n ↦ grind arith
]

pub cell_none : (m : List ℕ) (n : ℕ) → length m / 2 ≤ n → cell_at m n ≡ None
cell_none [] n h = refl
cell_none (b ∷ []) n h = refl
cell_none (b ∷ c ∷ more) n h = elim (either (n == 0)) [
  | inl y ↦ let z : n ≡ 0 = grind arith in absurd (omega arith)
  | inr other ↦ let z : 0 < n = grind arith in rw other (cell_none more (n - 1) (omega arith))
]

later : (b c : ℕ) (more : List ℕ) (i : ℕ) → get_or (b ∷ c ∷ more) (i + 2) 0 ≡ get_or more i 0
later b c more i = let e : i + 2 ≡ suc (suc i) = omega arith in rw e refl

pub cell_some : (m : List ℕ) (n : ℕ) → n < length m / 2 → Some (get_or m (2 * n) 0 + 256 * get_or m (2 * n + 1) 0) ≡ cell_at m n
cell_some [] n h = absurd (omega arith)
cell_some (b ∷ []) n h = absurd (omega arith)
cell_some (b ∷ c ∷ more) n h = elim (either (n == 0)) [
  | inl y ↦ let z : n ≡ 0 = grind arith in rw z refl
  | inr other ↦
      let z : 0 < n = grind arith in
      let first : 2 * n ≡ 2 * (n - 1) + 2 = omega arith in
      let second : 2 * n + 1 ≡ (2 * (n - 1) + 1) + 2 = omega arith in
      let low = ap (λ i. get_or (b ∷ c ∷ more) i 0) first ∙ later b c more (2 * (n - 1)) in
      let high = ap (λ i. get_or (b ∷ c ∷ more) i 0) second ∙ later b c more (2 * (n - 1) + 1) in
      ap (λ x. Some (x + 256 * get_or (b ∷ c ∷ more) (2 * n + 1) 0)) low
      ∙ ap (λ y. Some (get_or more (2 * (n - 1)) 0 + 256 * y)) high
      ∙ cell_some more (n - 1) (omega arith)
      ∙ sym (ap (λ t. cond t (Some (b + 256 * c)) (cell_at more (n - 1))) other)
]

-- what a matrix has for a row and a column that are there, by the cell
pub at_cell : (t : Parts) (row offset column : ℕ) (o k cell : Option ℕ) → o ≡ Some offset → k ≡ Some column → cell_at t.matrix (row * t.suffix_count + column) ≡ cell
    → in_matrix t row o k ≡ value_of offset cell
at_cell t row offset column o k cell a b is = ap (λ x. in_matrix t row x k) a ∙ ap (λ x. in_matrix t row (Some offset) x) b ∙ ap (value_of offset) is

-- the cell of a place, by its two bytes
pub cell_read : (m : List ℕ) (place index cell : ℕ) → place ≡ index → index < length m / 2 → cell ≡ get_or m (2 * index) 0 + get_or m (2 * index + 1) 0 * 256 → cell_at m place ≡ Some cell
cell_read m place index cell here below is = ap (λ n. cell_at m n) here ∙ sym (cell_some m index below) ∙ ap Some (omega (arith, is))

-- a cell that is full tells no value, and another the sum that fits eight bytes
pub value_full : (offset cell : ℕ) → cell ≡ 65535 → None ≡ value_of offset (Some cell)
value_full offset cell full = sym (ap (λ n. value_of offset (Some n)) full)

pub value_sum : (offset cell : ℕ) (sum : Option ℕ) → (cell ≡ 65535 → ⊥) → SomeIff sum (offset + cell < 2 ^ 64) (offset + cell) → sum ≡ value_of offset (Some cell)
value_sum offset cell None other far =
    let one : (cell == 65535) ≡ false = grind arith in
    let two : nat_le (2 ^ 64) (offset + cell) ≡ true = (let high = at_least (offset + cell) (2 ^ 64) far in grind arith) in
    rw (one, two) refl
value_sum offset cell (Some v) other near =
    let one : (cell == 65535) ≡ false = grind arith in
    let two : nat_le (2 ^ 64) (offset + cell) ≡ false = (let low = near.0 in grind arith) in
    rw (one, two) (ap Some near.1)
