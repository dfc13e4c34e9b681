-- Bytes that stand for themselves, as masks of lanes and part by part.
use Rattle.std.proofs.Common.{rules, ◌-◌, take, drop, subst, ◌≡◌, ℕ, ◌+◌, ◌*◌, ◌≤◌, ◌&&◌, List, [], ◌∷◌, Bool, true, false, cond, not, eqb, ltb, leb, length, replicate, w8, ◌%◌, ◌^◌, map, refl, sym, ap, ◌∙◌, arith, inl, inr}
use Rattle.std.specs.List.{list_all}
use Rattle.std.specs.Simd.Lanes.{mask_l}
use Rattle.std.proofs.lemmas.Simd.{tops_compared, zip2_splat_left, mask_l-mod}
use lib.Lanes.{zip2, top}
use mir.Val.{hbits, bits}
use Rattle.std.proofs.lemmas.Bool.{eq-eqb, cases_eq, ne_eqb}
use Rattle.std.proofs.lemmas.List.{length-map, take-append-drop, take_rest, drop-drop}
use Rattle.std.proofs.lemmas.List.Folds.{list_all-append}
use Rattle.zerotrie_lines.specs.Escapes.{is_plain}

half : (b : Bool) (m : ℕ) → eqb (cond b 1 0 + 2 * m) 0 ≡ (not b && eqb m 0)
half true m = ne_eqb (1 + 2 * m) 0 (λ e. omega (arith, e))
half false m = elim (cases_eq m 0) [
  | inl e ↦ eq-eqb (0 + 2 * m) 0 (omega (arith, e)) ∙ sym (eq-eqb m 0 e)
  | inr n ↦ ne_eqb (0 + 2 * m) 0 (λ e. n (omega (arith, e))) ∙ sym (ne_eqb m 0 n)
]

shuffle : (a b c d e f : Bool) → (((a && d) && (b && e)) && (c && f)) ≡ ((a && (b && c)) && ((d && e) && f))
shuffle false b c d e f = refl
shuffle true false c false e f = refl
shuffle true false c true e f = refl
shuffle true true false false e f = refl
shuffle true true false true false f = refl
shuffle true true false true true f = refl
shuffle true true true d e f = refl

is_plain_by : (x : ℕ) → (not (ltb x 32) && (not (leb 127 x) && not (eqb x 92))) ≡ is_plain x
is_plain_by x = search rules

unmasked : (xs : List ℕ) → ((eqb (mask_l (map (λ x. ltb x 32) xs)) 0 && eqb (mask_l (map (λ x. leb 127 x) xs)) 0) && eqb (mask_l (map (λ x. eqb x 92) xs)) 0) ≡ list_all is_plain xs
unmasked [] = refl
unmasked (x ∷ xs) =
    let m1 = mask_l (map (λ x. ltb x 32) xs) in
    let m2 = mask_l (map (λ x. leb 127 x) xs) in
    let m3 = mask_l (map (λ x. eqb x 92) xs) in
    rw (half (ltb x 32) m1, half (leb 127 x) m2, half (eqb x 92) m3)
    (shuffle (not (ltb x 32)) (not (leb 127 x)) (not (eqb x 92)) (eqb m1 0) (eqb m2 0) (eqb m3 0)
    ∙ (ap (λ b. b && ((eqb m1 0 && eqb m2 0) && eqb m3 0)) (is_plain_by x)
    ∙ ap (λ b. is_plain x && b) (unmasked xs)))

-- no lane is below 32, none is 127 or more and none a backslash exactly if all are plain
pub all_plain : (xs : List ℕ) (low high slash : ℕ) → low ≡ mask_l (map (λ x. ltb x 32) xs) → high ≡ mask_l (map (λ x. leb 127 x) xs)
    → slash ≡ mask_l (map (λ x. eqb x 92) xs) → ((eqb low 0 && eqb high 0) && eqb slash 0) ≡ list_all is_plain xs
all_plain xs low high slash a b c = rw (a, b, c) (unmasked xs)

-- the mask of a comparison of bytes with a splat, which stands first
pub splat_mask : (t : ℕ → ℕ → Bool) (xs : List ℕ) (n y : ℕ) → length xs ≡ n → n ≤ 64
    → mask_l (map (top (hbits w8)) (zip2 (λ a b. cond (t a b) (2 ^ bits w8 - 1) 0) (replicate n y) xs)) % 2 ^ 64 ≡ mask_l (map (λ x. t y x) xs)
splat_mask t xs n y e le =
    ap (λ ms. mask_l ms % 2 ^ 64) (tops_compared w8 t (replicate n y) xs ∙ zip2_splat_left t y n xs e) ∙ mask_l-mod (map (λ x. t y x) xs) 64 (omega (arith, length-map xs (λ x. t y x)))

-- all are plain exactly if the first n are and what follows them is
pub split_all : (n : ℕ) (xs : List ℕ) → (list_all is_plain (take n xs) && list_all is_plain (drop n xs)) ≡ list_all is_plain xs
split_all n xs = sym (list_all-append is_plain (take n xs) (drop n xs)) ∙ ap (list_all is_plain) (take-append-drop n xs)

overlap : (a b c d e t : Bool) → (a && b) ≡ t → (c && d) ≡ t → (e && b) ≡ d → (a && d) ≡ t
overlap a b c d e t p q r = search rules

-- all are plain exactly if the first eight and the last eight are, if these meet
pub ends_all : (xs : List ℕ) → 8 ≤ length xs → length xs ≤ 16
    → (list_all is_plain (take 8 xs) && list_all is_plain (take 8 (drop (length xs - 8) xs))) ≡ list_all is_plain xs
ends_all xs long short =
    let k = length xs - 8 in
    let eight : length xs - k ≡ 8 = omega (arith, long, short) in
    let whole : take 8 (drop k xs) ≡ drop k xs = subst (λ n. take n (drop k xs) ≡ drop k xs) eight (take_rest xs k) in
    let sum : k + (8 - k) ≡ 8 = omega (arith, long, short) in
    let after : drop (8 - k) (drop k xs) ≡ drop 8 xs = drop-drop (8 - k) k xs ∙ ap (λ n. drop n xs) sum in
    let rest = split_all (8 - k) (drop k xs) in
    rw (whole) (overlap _ _ _ _ _ _ (split_all 8 xs) (split_all k xs) (ap (λ ys. list_all is_plain (take (8 - k) (drop k xs)) && list_all is_plain ys) (sym after) ∙ rest))
