-- The first element with a number, in lists in the order of the number.
use Rattle.std.proofs.Common.{◌≡◌, ℕ, zero, suc, ◌<◌, ◌≤◌, List, [], ◌∷◌, Bool, true, false, length, get_or, eqb, ltb, refl, sym, ◌∙◌, ap, subst, arith, inl, inr, Option, Some, None}
use Rattle.std.specs.Borrow.{Bor}
use Rattle.std.specs.Fn.{Called, ComputesKey}
use Rattle.std.specs.List.{find, filter}
use Rattle.std.specs.Ordering.{is_lt, nat_cmp}
use Rattle.std.specs.List.Sorted.{IsNonDecreasingBy, IsStableByKey, IsPartitionPoint, ties}
use Rattle.std.proofs.lemmas.Bool.{cases_Bool, cases_lt, ltb-true, ltb-false}
use Rattle.std.proofs.lemmas.List.{get_or_default}
use Rattle.std.proofs.lemmas.Bool.Decides.{nat_tests}
use Rattle.std.proofs.lemmas.Fn.{always_returns_same}
use denote.Param.Members.{Mut}

-- a number ties with another exactly if they are equal
tied : (a b : ℕ) → ties (λ x y. is_lt (nat_cmp x y)) a b ≡ eqb b a
tied a b = grind (arith, nat_tests)

module _ {X : Type 0} where
  -- a search finds the first of what a filter by the same test keeps
  find_filter : (p : X → Bool) (xs : List X) → find p xs ≡ find p (filter p xs)
  find_filter p [] = refl
  find_filter p (x ∷ xs) = elim (cases_Bool (p x)) [
    | inl pass ↦ rw (pass, pass) refl
    | inr fail ↦ rw fail (find_filter p xs)
  ]

  find_kept : (p : X → Bool) (xs ys : List X) → filter p xs ≡ filter p ys → find p xs ≡ find p ys
  find_kept p xs ys same = find_filter p xs ∙ ap (find p) same ∙ sym (find_filter p ys)

  -- what is found passes the test
  find_passes : (p : X → Bool) (xs : List X) (x : X) → find p xs ≡ Some x → p x ≡ true
  find_passes p [] x found = absurd (cc)
  find_passes p (y ∷ ys) x found = elim (cases_Bool (p y)) [
    | inl pass ↦ let f = rw pass at found in let same : y ≡ x = cc in subst (λ z. p z ≡ true) same pass
    | inr fail ↦ find_passes p ys x (rw fail at found)
  ]

  -- tests that agree find the same
  find_alike : (p q : X → Bool) → ((x : X) → p x ≡ q x) → (xs : List X) → find p xs ≡ find q xs
  find_alike p q alike [] = refl
  find_alike p q alike (x ∷ xs) = rw (alike x, find_alike p q alike xs)

  -- no element passes
  pub find_none : (p : X → Bool) (xs : List X) → ((k : ℕ) (d : X) → k < length xs → p (get_or xs k d) ≡ false) → find p xs ≡ None
  find_none p [] fail = refl
  find_none p (x ∷ xs) fail =
      rw (fail 0 x (let h : 0 < suc (length xs) = omega arith in h))
      (find_none p xs (λ k d l. fail (suc k) d (let h : suc k < suc (length xs) = omega arith in h)))

  -- no element before this one passes
  pub find_at : (p : X → Bool) (xs : List X) (i : ℕ) (d : X) → i < length xs → ((k : ℕ) → k < i → p (get_or xs k d) ≡ false) → p (get_or xs i d) ≡ true
      → find p xs ≡ Some (get_or xs i d)
  find_at p [] i d l fail pass = absurd (omega arith)
  find_at p (x ∷ xs) zero d l fail pass = rw pass
  find_at p (x ∷ xs) (suc i) d l fail pass =
      rw (fail 0 (let h : 0 < suc i = omega arith in h))
      (find_at p xs i d (let h : suc i < suc (length xs) = l in omega arith) (λ k b. fail (suc k) (let h : suc k < suc i = omega arith in h)) pass)

  module _ (n : X → ℕ) where
    kept_by : (xs ys : List X) → IsStableByKey n nat_cmp xs ys → (v : ℕ) (x : X) → n x ≡ v → find (λ y. eqb (n y) v) ys ≡ find (λ y. eqb (n y) v) xs
    kept_by xs ys stable v x is =
        let test = λ (y : X). ties (λ a b. is_lt (nat_cmp (n a) (n b))) x y in
        let alike : (y : X) → eqb (n y) v ≡ test y = λ y. sym (tied (n x) (n y) ∙ ap (eqb (n y)) is) in
        find_alike (λ y. eqb (n y) v) test alike ys ∙ find_kept test ys xs (stable x) ∙ sym (find_alike (λ y. eqb (n y) v) test alike xs)

    -- a stable sort by the number leaves the first element of each number
    pub find_stable : (xs ys : List X) → IsStableByKey n nat_cmp xs ys → (v : ℕ) → find (λ y. eqb (n y) v) ys ≡ find (λ y. eqb (n y) v) xs
    find_stable xs ys stable v = by_ys (find (λ y. eqb (n y) v) ys) refl
      where
        is_v : (zs : List X) (x : X) → find (λ y. eqb (n y) v) zs ≡ Some x → n x ≡ v
        is_v zs x found = let passes = find_passes (λ y. eqb (n y) v) zs x found in grind (arith, nat_tests)

        by_xs : (o : Option X) → find (λ y. eqb (n y) v) xs ≡ o → find (λ y. eqb (n y) v) ys ≡ None → find (λ y. eqb (n y) v) ys ≡ find (λ y. eqb (n y) v) xs
        by_xs None e none = none ∙ sym e
        by_xs (Some x) e none = kept_by xs ys stable v x (is_v xs x e)

        by_ys : (o : Option X) → find (λ y. eqb (n y) v) ys ≡ o → find (λ y. eqb (n y) v) ys ≡ find (λ y. eqb (n y) v) xs
        by_ys None e = by_xs (find (λ y. eqb (n y) v) xs) refl e
        by_ys (Some x) e = kept_by xs ys stable v x (is_v ys x e)

    -- the same, by what `sort_by_key` ensures
    pub find_sorted : {F : Type 0} {g : Mut F (Bor X × Unit {0}) ℕ} {f : F} (xs ys : List X) → ((key : X → ℕ) → ComputesKey g key f → IsStableByKey key nat_cmp xs ys)
        → ((a : Bor X × Unit {0}) (r : ℕ) (f' : F) → Called g f a r f' → (r ≡ n a.0.now) × (f' ≡ f)) → (v : ℕ) → find (λ y. eqb (n y) v) ys ≡ find (λ y. eqb (n y) v) xs
    find_sorted {g = g} {f = f} xs ys stable h v = find_stable xs ys (stable n (always_returns_same g (λ a r. r ≡ n a.0.now) f h)) v

    -- below the partition point of a number nothing has it
    lower : (xs : List X) (v i : ℕ) → IsPartitionPoint (λ y. n y < v) (λ y. v ≤ n y) xs i → (k : ℕ) (d : X) → k < i → eqb (n (get_or xs k d)) v ≡ false
    lower xs v i point k d l = let below = point.0 k d (omega arith) l in grind (arith, nat_tests)

    -- the element at the partition point of a number, if it has the number
    pub found_at : (xs : List X) (v i : ℕ) (d : X) → IsPartitionPoint (λ y. n y < v) (λ y. v ≤ n y) xs i → i < length xs → n (get_or xs i d) ≡ v
        → find (λ y. eqb (n y) v) xs ≡ Some (get_or xs i d)
    found_at xs v i d point l is = find_at (λ y. eqb (n y) v) xs i d l (λ k b. lower xs v i point k d b) (grind (arith, nat_tests))

    -- nothing is at the partition point
    pub none_past : (xs : List X) (v i : ℕ) → IsPartitionPoint (λ y. n y < v) (λ y. v ≤ n y) xs i → length xs ≤ i → find (λ y. eqb (n y) v) xs ≡ None
    none_past xs v i point past = find_none (λ y. eqb (n y) v) xs (λ k d l. lower xs v i point k d (omega arith))

    -- what is at the partition point has another number
    pub none_at : (xs : List X) (v i : ℕ) (d : X) → IsNonDecreasingBy n xs → IsPartitionPoint (λ y. n y < v) (λ y. v ≤ n y) xs i → i < length xs
        → (n (get_or xs i d) ≡ v → ⊥) → find (λ y. eqb (n y) v) xs ≡ None
    none_at xs v i d rises point l other = find_none (λ y. eqb (n y) v) xs (λ k e b. elim (cases_lt k i) [
      | inl before ↦ lower xs v i point k e before
      | inr from ↦
          let above = point.1 i d (omega arith) l in
          let same : get_or xs i d ≡ get_or xs i e = get_or_default xs i d e l in
          let up : n (get_or xs i e) ≤ n (get_or xs k e) = rises i k e from b in
          let far : v < n (get_or xs k e) = (let s = ap n same in omega arith) in
          grind (arith, nat_tests)
    ])

    -- the partition point by a test of the number
    pub parted : (xs : List X) (v i : ℕ) → IsPartitionPoint (λ y. ltb (n y) v ≡ true) (λ y. ltb (n y) v ≡ false) xs i → IsPartitionPoint (λ y. n y < v) (λ y. v ≤ n y) xs i
    parted xs v i point = (λ k d l h. ltb-true (n (get_or xs k d)) v (point.0 k d l h), λ k d l h. ltb-false (n (get_or xs k d)) v (point.1 k d l h))
