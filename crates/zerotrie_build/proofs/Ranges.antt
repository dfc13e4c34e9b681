use Rattle.std.proofs.Common.{◌≡◌, ℕ, All, map, ◌∙◌, sym, zero, suc, ◌+◌, ◌<◌, ◌≤◌, List, [], ◌∷◌, ◌++◌, length, take, drop, get_or, arith, refl, ap, slice_set}
use Rattle.std.proofs.lemmas.Grind.{common_steps}
use Rattle.std.proofs.lemmas.List.Sums.{sum_by-take-le, sum_by-cons}
use Rattle.std.proofs.lemmas.List.Sorted.{All-permutation, sum_by-IsPermutation}
use Rattle.std.proofs.lemmas.List.FromFn.{length-range_with_len, get_or-range_with_len, fill_by_all}
use Rattle.std.proofs.Common.{length-append}
use Rattle.std.specs.List.{concat, range_with_len, sum_by}
use Rattle.std.specs.List.Sorted.{IsPermutation}
use Rattle.zerotrie_base.specs.Branches.{total}
use Rattle.zerotrie_build.specs.Ranges.{range_at}

-- the items before a place and the one there are no more than all
pub total_take_at : (xs : List ℕ) (i d : ℕ) → i < length xs → total (take i xs) + get_or xs i d ≤ total xs
total_take_at xs i d h = grind (arith, common_steps, sum_by-take-le (λ n. n) xs (i + 1))

-- one more item put over the front
pub set_front : {A : Type 0} (xs ys : List A) (i : ℕ) (d : A) → i < length xs → length xs ≤ length ys → slice_set (take i xs ++ drop i ys) i (get_or xs i d) ≡ take (i + 1) xs ++ drop (i + 1) ys
set_front [] ys i d h k = let j : i < 0 = h in absurd (omega (arith, j))
set_front (x ∷ xs) [] i d h k = let j : suc (length xs) ≤ 0 = k in absurd (omega (arith, j))
set_front (x ∷ xs) (y ∷ ys) zero d h k = refl
set_front (x ∷ xs) (y ∷ ys) (suc i) d h k =
    let h' : suc i < suc (length xs) = h in
    let k' : suc (length xs) ≤ suc (length ys) = k in
    let more : slice_set (take i xs ++ drop i ys) i (get_or xs i d) ≡ take (i + 1) xs ++ drop (i + 1) ys = set_front xs ys i d (omega (arith, h')) (omega (arith, k')) in
    let next : suc i + 1 ≡ suc (i + 1) = omega arith in
    rw next (ap (λ v. x ∷ v) more)

pub order_in_range : (lengths order : List ℕ) → IsPermutation (range_with_len 0 (length lengths)) order → All (λ i. i < length lengths) order
order_in_range lengths order p = All-permutation (λ i. i < length lengths) (range_with_len 0 (length lengths)) order p
    (λ k d h. let g : k < length lengths = omega (arith, h, length-range_with_len 0 (length lengths)) in
    rw (get_or-range_with_len 0 (length lengths) k d g) (omega arith))

length-range_at : (lengths items : List ℕ) (i : ℕ) → total lengths ≤ length items → i < length lengths
    → length (range_at lengths items i) ≡ get_or lengths i 0
length-range_at lengths items i h k = grind (arith, common_steps, total_take_at lengths i 0 k)

length-concat_at : (lengths items order : List ℕ) → total lengths ≤ length items → All (λ i. i < length lengths) order
    → length (concat (map (range_at lengths items) order)) ≡ sum_by (λ i. get_or lengths i 0) order
length-concat_at lengths items [] fits all = refl
length-concat_at lengths items (i ∷ order) fits all =
    let here : i < length lengths = all 0 0 (omega arith) in
    let a = length-range_at lengths items i fits here in
    let b = length-concat_at lengths items order fits (λ k d h. all (suc k) d (let g : suc k < suc (length order) = omega (arith, h) in g)) in
    length-append (range_at lengths items i) (concat (map (range_at lengths items) order)) ∙ omega (arith, a, b, sum_by-cons (λ j. get_or lengths j 0) i order)

sum_by_of_map : (f : ℕ → ℕ) (xs : List ℕ) → sum_by (λ n. n) (map f xs) ≡ sum_by f xs
sum_by_of_map f [] = refl
sum_by_of_map f (x ∷ xs) = omega (arith, sum_by-cons (λ n. n) (f x) (map f xs), sum_by-cons f x xs, sum_by_of_map f xs)

-- the ranges in any order are as long as the front that they were cut from
pub length-laid : (lengths items order : List ℕ) → total lengths ≤ length items → IsPermutation (range_with_len 0 (length lengths)) order
    → length (concat (map (range_at lengths items) order)) ≡ total lengths
length-laid lengths items order h p =
    let f : ℕ → ℕ = λ i. get_or lengths i 0 in
    length-concat_at lengths items order h (order_in_range lengths order p)
    ∙ sum_by-IsPermutation f (range_with_len 0 (length lengths)) order p
    ∙ sym (sum_by_of_map f (range_with_len 0 (length lengths)))
    ∙ sym (ap total (fill_by_all f lengths (length lengths) 0 refl (λ k h. refl)))
