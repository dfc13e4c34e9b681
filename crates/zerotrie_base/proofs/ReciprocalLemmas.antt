-- Remainders by multiplication.
use Rattle.std.proofs.Common.{◌≡◌, ℕ, zero, suc, ◌+◌, ◌*◌, ◌/◌, ◌<◌, ◌≤◌, List, map, get_or, refl, sym, ◌∙◌, ap, subst, arith, Bool, true, false, cond, eqb, inl, inr}
use Rattle.std.specs.List.{range_with_len}
use Rattle.std.proofs.Math.Nat.{div-add-mod, mul_comm}
use Rattle.std.proofs.lemmas.Bool.{eqb-true}
use Rattle.std.proofs.lemmas.Bool.Decides.{eqb_tells}
use Rattle.std.proofs.lemmas.List.FromFn.{get_or-map-range_with_len}

-- the number at a place of the table
pub quotient_at : (xs : List ℕ) → xs ≡ map (λ n. 65535 / n) (range_with_len 0 256) → (n : ℕ) → n < 256 → get_or xs n 0 ≡ 65535 / n
quotient_at xs e n h = ap (λ r. get_or r n 0) e ∙ get_or-map-range_with_len (λ k. 65535 / k) 0 256 n n 0 h (omega arith)

-- the test of the bytes below x, by n
tests : ℕ → ℕ → Bool
tests n zero = true
tests n (suc x) = cond (eqb (x * (65535 / n + 1) / 65536) (x / n)) (tests n x) false

-- and that of all bytes, by the numbers from 1 to n
all_tests : ℕ → Bool
all_tests zero = true
all_tests (suc n) = cond (tests (suc n) 256) (all_tests n) false

all_pass : all_tests 255 ≡ true
unfolding all_tests tests
all_pass = refl

both : (a b : Bool) → cond a b false ≡ true → (a ≡ true) × (b ≡ true)
both true b h = (refl, h)
both false b h = absurd (cc)

test_passed : (n k x : ℕ) → tests n k ≡ true → x < k → x * (65535 / n + 1) / 65536 ≡ x / n
unfolding tests
test_passed n zero x h l = absurd (omega arith)
test_passed n (suc k) x h l =
    let p = both (eqb (k * (65535 / n + 1) / 65536) (k / n)) (tests n k) h in
    elim (eqb_tells x k) [
      | inl e ↦ subst (λ v. v * (65535 / n + 1) / 65536 ≡ v / n) (sym e.1) (eqb-true _ _ p.0)
      | inr e ↦ test_passed n k x p.1 (let ne = e.1 in omega arith)
    ]

tests_passed : (m n : ℕ) → all_tests m ≡ true → 0 < n → n ≤ m → tests n 256 ≡ true
unfolding all_tests
tests_passed zero n h pos l = absurd (omega arith)
tests_passed (suc m) n h pos l =
    let p = both (tests (suc m) 256) (all_tests m) h in
    elim (eqb_tells n (suc m)) [
      | inl e ↦ subst (λ v. tests v 256 ≡ true) (sym e.1) p.0
      | inr e ↦ tests_passed m n p.1 pos (let ne = e.1 in omega arith)
    ]

-- the upper bits of the product are the quotient
pub product_quotient : (x n : ℕ) → x < 256 → 0 < n → n < 256 → x * (65535 / n + 1) / 65536 ≡ x / n
product_quotient x n hx pos hn = test_passed n 256 x (tests_passed 255 n all_pass pos (omega arith)) hx

pub product_short : (x n : ℕ) → x / n * n ≤ x
product_short x n = let e = div-add-mod x n in let f = mul_comm (x / n) n in omega arith
