-- Ranking by a number, the greatest first.
use Rattle.std.proofs.Common.{◌≡◌, ◌≤◌, ◌<◌, ◌+◌, ◌∙◌, ℕ, zero, suc, List, [], ◌∷◌, ◌++◌, Bool, true, false, cond, not, take, map, length, get_or, refl, sym, ap, subst, arith, inl, inr, append-nil, append_assoc}
use Rattle.std.specs.Prelude.{◌==◌, ◌&&◌, nat_le, nat_lt}
use Rattle.std.specs.Cmp.{IsStrictWeakOrder}
use Rattle.std.specs.List.{filter}
use Rattle.std.specs.Borrow.{Bor}
use Rattle.std.specs.Fn.{Called}
use Rattle.std.specs.List.Sorted.{IsSortedBy, IsSortedByClosure, IsStableBy, IsStableByClosure, ties}
use Rattle.std.specs.declared.cmp.Ordering.{Ordering}
use Rattle.std.proofs.lemmas.Fn.{always_returns_same}
use denote.Param.Members.{Mut}
use Rattle.std.specs.declared.alloc.Global.{Global}
use Rattle.std.specs.declared.vec.Vec.{Vec}
use Rattle.zerotrie_core.specs.Maps.{Pairs}
use Rattle.std.specs.Ordering.{is_lt, nat_cmp}
use Rattle.std.specs.declared.cmp.Ordering.TheVariants.{Less, Equal, Greater}
use Rattle.std.proofs.lemmas.Bool.{cases_order, eqb-true, eq-eqb, le-leb, leb-false, leb-true, lt-leb, lt-ltb, le-ltb, ne_eqb}
use Rattle.std.proofs.lemmas.Cmp.{nat_cmp_total}
use Rattle.std.proofs.lemmas.List.{map-append, take-map}
use Rattle.std.proofs.lemmas.List.Sorted.{IsStrictWeakOrder-flip, ranks_by, sorted_far}
use Rattle.zerotrie_queries.specs.Ranked.{among, greatest, held_pairs, ranked_among}

-- what a sort puts first
abbrev pub comes_before : {X : Type 0} → (X → ℕ) → X → X → Bool
comes_before number x y = is_lt (nat_cmp (number y) (number x))

pub before_ranks : {X : Type 0} (number : X → ℕ) → IsStrictWeakOrder (comes_before number)
before_ranks number = IsStrictWeakOrder-flip (λ x y. is_lt (nat_cmp (number x) (number y))) (ranks_by nat_cmp_total number)

not_before : (m n : ℕ) → is_lt (nat_cmp m n) ≡ false → n ≤ m
not_before m n least = elim (cases_order m n) [
  | inl e ↦ omega (arith, e)
  | inr (inl below) ↦ absurd (let is = subst (λ b. is_lt (cond b Less (cond (m == n) Equal Greater)) ≡ false) (lt-ltb m n below) least in cc)
  | inr (inr above) ↦ omega (arith, above)
]

tied : (m n : ℕ) → (not (is_lt (nat_cmp n m)) && not (is_lt (nat_cmp m n))) ≡ (n == m)
tied m n = elim (cases_order m n) [
  | inl e ↦ rw (le-ltb m n (omega (arith, e)), le-ltb n m (omega (arith, e)), eq-eqb n m (sym e), eq-eqb m n e) refl
  | inr (inl below) ↦ rw (lt-ltb m n below, le-ltb n m (omega (arith, below)), ne_eqb n m (λ e. omega (arith, e, below))) refl
  | inr (inr above) ↦ rw (lt-ltb n m above, ne_eqb n m (λ e. omega (arith, e, above))) refl
]

filter_alike : {X : Type 0} (p q : X → Bool) → ((x : X) → p x ≡ q x) → (xs : List X) → filter p xs ≡ filter q xs
filter_alike p q same [] = refl
filter_alike p q same (x ∷ xs) = rw (same x) (ap (λ l. cond (q x) (x ∷ l) l) (filter_alike p q same xs))

first_same : {X : Type 0} (x y : X) (xs ys : List X) → x ∷ xs ≡ y ∷ ys → x ≡ y
first_same x y xs ys e = ap (λ l. get_or l 0 x) e

rest_same : {X : Type 0} (x y : X) (xs ys : List X) → x ∷ xs ≡ y ∷ ys → xs ≡ ys
rest_same x y xs ys e = ap rest e
  where
    rest : {X : Type 0} → List X → List X
    rest [] = []
    rest (x ∷ xs) = xs

module _ {X : Type 0} (number : X → ℕ) where
  -- no number is above a bound
  abbrev AreUpTo : ℕ → List X → Type 0
  AreUpTo most [] = Unit {0}
  AreUpTo most (x ∷ xs) = (number x ≤ most) × AreUpTo most xs

  -- and none above one before it
  abbrev Falls : List X → Type 0
  Falls [] = Unit {0}
  Falls (x ∷ xs) = AreUpTo (number x) xs × Falls xs

  up_to_more : (m n : ℕ) (xs : List X) → m ≤ n → AreUpTo m xs → AreUpTo n xs
  up_to_more m n [] le h = tt
  up_to_more m n (x ∷ xs) le h = (let at = h.0 in omega (arith, at, le), up_to_more m n xs le h.1)

  up_to_among : (most : ℕ) (x : X) (ys : List X) → number x ≤ most → AreUpTo most ys → AreUpTo most (among number x ys)
  up_to_among most x [] le h = (le, tt)
  up_to_among most x (y ∷ ys) le h = go (nat_le (number x) (number y)) (up_to_among most x ys le h.1)
    where
      go : (b : Bool) → AreUpTo most (among number x ys) → AreUpTo most (cond b (y ∷ among number x ys) (x ∷ y ∷ ys))
      go true rest = (h.0, rest)
      go false rest = (le, h)

  falls_among : (x : X) (ys : List X) → Falls ys → Falls (among number x ys)
  falls_among x [] h = (tt, tt)
  falls_among x (y ∷ ys) h = go (nat_le (number x) (number y)) refl (falls_among x ys h.1)
    where
      go : (b : Bool) → nat_le (number x) (number y) ≡ b → Falls (among number x ys) → Falls (cond b (y ∷ among number x ys) (x ∷ y ∷ ys))
      go true is rest = (up_to_among (number y) x ys (leb-true (number x) (number y) is) h.0, rest)
      go false is rest =
          let less : number y < number x = leb-false (number x) (number y) is in
          let le : number y ≤ number x = omega (arith, less) in
          ((le, up_to_more (number y) (number x) ys le h.0), h)

  falls_ranked : (done xs : List X) → Falls done → Falls (ranked_among number done xs)
  falls_ranked done [] h = h
  falls_ranked done (x ∷ xs) h = falls_ranked (among number x done) xs (falls_among x done h)

  -- what has a number
  abbrev has : ℕ → X → Bool
  has n x = number x == n

  none_above : (most n : ℕ) (xs : List X) → AreUpTo most xs → most < n → filter (has n) xs ≡ []
  none_above most n [] h less = refl
  none_above most n (x ∷ xs) h less =
      let other : has n x ≡ false = ne_eqb (number x) n (λ e. (let at = h.0 in omega (arith, e, at, less))) in
      rw other (none_above most n xs h.1 less)

  -- an item comes behind those of its number
  behind_same : (n : ℕ) (x : X) (ys : List X) → has n x ≡ true → Falls ys → filter (has n) (among number x ys) ≡ filter (has n) ys ++ x ∷ []
  behind_same n x [] is h = rw is refl
  behind_same n x (y ∷ ys) is h = go (nat_le (number x) (number y)) refl (behind_same n x ys is h.1)
    where
      go : (b : Bool) → nat_le (number x) (number y) ≡ b → filter (has n) (among number x ys) ≡ filter (has n) ys ++ x ∷ []
          → filter (has n) (cond b (y ∷ among number x ys) (x ∷ y ∷ ys)) ≡ filter (has n) (y ∷ ys) ++ x ∷ []
      go true le rest = at (has n y)
        where
          at : (c : Bool) → cond c (y ∷ filter (has n) (among number x ys)) (filter (has n) (among number x ys)) ≡ cond c (y ∷ filter (has n) ys) (filter (has n) ys) ++ x ∷ []
          at true = ap (λ l. y ∷ l) rest
          at false = rest
      go false le rest =
          let less : number y < number x = leb-false (number x) (number y) le in
          let same : number x ≡ n = eqb-true (number x) n is in
          let none : filter (has n) (y ∷ ys) ≡ [] = none_above (number y) n (y ∷ ys) (omega arith, h.0) (omega (arith, less, same)) in
          rw (is, none) refl

  among_others : (n : ℕ) (x : X) (ys : List X) → has n x ≡ false → filter (has n) (among number x ys) ≡ filter (has n) ys
  among_others n x [] other = rw other refl
  among_others n x (y ∷ ys) other = go (nat_le (number x) (number y)) (among_others n x ys other)
    where
      go : (b : Bool) → filter (has n) (among number x ys) ≡ filter (has n) ys → filter (has n) (cond b (y ∷ among number x ys) (x ∷ y ∷ ys)) ≡ filter (has n) (y ∷ ys)
      go true rest = ap (λ l. cond (has n y) (y ∷ l) l) rest
      go false rest = rw other refl

  -- so those of one number keep their order
  keeps_order : (n : ℕ) (done xs : List X) → Falls done → filter (has n) (ranked_among number done xs) ≡ filter (has n) done ++ filter (has n) xs
  keeps_order n done [] h = sym (append-nil (filter (has n) done))
  keeps_order n done (x ∷ xs) h = keeps_order n (among number x done) xs (falls_among x done h) ∙ go (has n x) refl
    where
      go : (b : Bool) → has n x ≡ b → filter (has n) (among number x done) ++ filter (has n) xs ≡ filter (has n) done ++ cond b (x ∷ filter (has n) xs) (filter (has n) xs)
      go true is = ap (λ l. l ++ filter (has n) xs) (behind_same n x done is h) ∙ append_assoc (filter (has n) done) (x ∷ []) (filter (has n) xs)
      go false other = ap (λ l. l ++ filter (has n) xs) (among_others n x done other)

  -- and there is one such list
  one_order : (xs ys : List X) → Falls xs → Falls ys → ((z : X) → filter (has (number z)) xs ≡ filter (has (number z)) ys) → xs ≡ ys
  one_order [] [] up down same = refl
  one_order [] (y ∷ ys) up down same = absurd (let e = same y in let is = eq-eqb (number y) (number y) refl in let wrong = subst (λ b. [] ≡ cond b (y ∷ filter (has (number y)) ys) (filter (has (number y)) ys)) is e in cc)
  one_order (x ∷ xs) [] up down same = absurd (let e = same x in let is = eq-eqb (number x) (number x) refl in let wrong = subst (λ b. cond b (x ∷ filter (has (number x)) xs) (filter (has (number x)) xs) ≡ []) is e in cc)
  one_order (x ∷ xs) (y ∷ ys) up down same = elim (cases_order (number x) (number y)) [
    | inl e ↦ equal e (one_order xs ys up.1 down.1)
    | inr (inl below) ↦ absurd (
        let none = none_above (number x) (number y) (x ∷ xs) (omega arith, up.0) below in
        let is = eq-eqb (number y) (number y) refl in
        let wrong = subst (λ b. [] ≡ cond b (y ∷ filter (has (number y)) ys) (filter (has (number y)) ys)) is (sym none ∙ same y) in cc)
    | inr (inr above) ↦ absurd (
        let none = none_above (number y) (number x) (y ∷ ys) (omega arith, down.0) above in
        let is = eq-eqb (number x) (number x) refl in
        let wrong = subst (λ b. cond b (x ∷ filter (has (number x)) xs) (filter (has (number x)) xs) ≡ []) is (same x ∙ none) in cc)
  ]
    where
      equal : number x ≡ number y → (((z : X) → filter (has (number z)) xs ≡ filter (has (number z)) ys) → xs ≡ ys) → x ∷ xs ≡ y ∷ ys
      equal e more =
          let here : has (number x) x ≡ true = eq-eqb (number x) (number x) refl in
          let there : has (number x) y ≡ true = eq-eqb (number y) (number x) (sym e) in
          let firsts : x ∷ filter (has (number x)) xs ≡ y ∷ filter (has (number x)) ys = subst (λ b. x ∷ filter (has (number x)) xs ≡ cond b (y ∷ filter (has (number x)) ys) (filter (has (number x)) ys)) there
          (subst (λ b. cond b (x ∷ filter (has (number x)) xs) (filter (has (number x)) xs) ≡ filter (has (number x)) (y ∷ ys)) here (same x)) in
          let is : x ≡ y = first_same x y _ _ firsts in
          let rest : (z : X) → filter (has (number z)) xs ≡ filter (has (number z)) ys = λ z. tails z (number x == number z) refl in
          rw is (ap (λ l. y ∷ l) (more rest))
        where
          tails : (z : X) (b : Bool) → (number x == number z) ≡ b → filter (has (number z)) xs ≡ filter (has (number z)) ys
          tails z true is =
              let same_y : has (number z) y ≡ true = subst (λ n. (n == number z) ≡ true) e is in
              let firsts : x ∷ filter (has (number z)) xs ≡ y ∷ filter (has (number z)) ys = subst (λ b. x ∷ filter (has (number z)) xs ≡ cond b (y ∷ filter (has (number z)) ys) (filter (has (number z)) ys)) same_y
              (subst (λ b. cond b (x ∷ filter (has (number z)) xs) (filter (has (number z)) xs) ≡ filter (has (number z)) (y ∷ ys)) is (same z)) in
              rest_same x y _ _ firsts
          tails z false other =
              let other_y : has (number z) y ≡ false = subst (λ n. (n == number z) ≡ false) e other in
              subst (λ b. filter (has (number z)) xs ≡ cond b (y ∷ filter (has (number z)) ys) (filter (has (number z)) ys)) other_y
              (subst (λ b. cond b (x ∷ filter (has (number z)) xs) (filter (has (number z)) xs) ≡ filter (has (number z)) (y ∷ ys)) other (same z))

  -- a list that a sort made falls
  up_to_from : (most : ℕ) (xs : List X) → ((k : ℕ) (d : X) → k < length xs → number (get_or xs k d) ≤ most) → AreUpTo most xs
  up_to_from most [] h = tt
  up_to_from most (x ∷ xs) h = (h 0 x (omega arith), up_to_from most xs (λ k d less. h (suc k) d (omega (arith, less))))

  falls_from : (xs : List X) → IsSortedBy (comes_before number) xs → Falls xs
  falls_from [] h = tt
  falls_from (x ∷ xs) h = (
    up_to_from (number x) xs (λ k d less. not_before (number x) (number (get_or xs k d)) (sorted_far (comes_before number) (before_ranks number) (x ∷ xs) h 0 (suc k) d (omega arith) (omega (arith, less)))),
    falls_from xs (λ k d low high. (let next : suc k + 1 ≡ suc (k + 1) = omega arith in subst (λ i. comes_before number (get_or (x ∷ xs) i d) (get_or xs k d) ≡ false) next (h (suc k) d (omega arith) (omega (arith, high))))),
  )

  -- so a stable sort ranks
  pub sort_ranks : (xs ys : List X) → IsSortedBy (comes_before number) ys → IsStableBy (comes_before number) xs ys → ys ≡ ranked_among number [] xs
  sort_ranks xs ys up stable = one_order ys (ranked_among number [] xs) (falls_from ys up) (falls_ranked [] xs tt) (λ z.
      let alike = filter_alike (ties (comes_before number) z) (has (number z)) (λ x. tied (number z) (number x)) in
      sym (alike ys) ∙ stable z ∙ alike xs ∙ sym (keeps_order (number z) [] xs tt))

  -- what is ranked stays as it is
  falls_take : (n : ℕ) (xs : List X) → Falls xs → Falls (take n xs)
  falls_take zero xs h = tt
  falls_take (suc n) [] h = tt
  falls_take (suc n) (x ∷ xs) h = (first n xs h.0, falls_take n xs h.1)
    where
      first : (n : ℕ) (xs : List X) → AreUpTo (number x) xs → AreUpTo (number x) (take n xs)
      first zero xs h = tt
      first (suc n) [] h = tt
      first (suc n) (y ∷ ys) h = (h.0, first n ys h.1)

  ranked_again : (xs : List X) → Falls xs → ranked_among number [] xs ≡ xs
  ranked_again xs h = one_order (ranked_among number [] xs) xs (falls_ranked [] xs tt) h (λ z. keeps_order (number z) [] xs tt)

  ranked_append : (done xs ys : List X) → ranked_among number done (xs ++ ys) ≡ ranked_among number (ranked_among number done xs) ys
  ranked_append done [] ys = refl
  ranked_append done (x ∷ xs) ys = ranked_append (among number x done) xs ys

  -- the first depend on the first alone
  take_less : (n : ℕ) (y : X) (ys : List X) → take n (y ∷ ys) ≡ take n (y ∷ take n ys)
  take_less zero y ys = refl
  take_less (suc n) y ys = ap (λ l. y ∷ l) (sym (within n ys))
    where
      within : (n : ℕ) (ys : List X) → take n (take (suc n) ys) ≡ take n ys
      within zero ys = refl
      within (suc n) [] = refl
      within (suc n) (y ∷ ys) = ap (λ l. y ∷ l) (within n ys)

  first_among : (n : ℕ) (x : X) (ys : List X) → take n (among number x ys) ≡ take n (among number x (take n ys))
  first_among zero x ys = refl
  first_among (suc n) x [] = refl
  first_among (suc n) x (y ∷ ys) = go (nat_le (number x) (number y)) (first_among n x ys)
    where
      go : (b : Bool) → take n (among number x ys) ≡ take n (among number x (take n ys))
          → take (suc n) (cond b (y ∷ among number x ys) (x ∷ y ∷ ys)) ≡ take (suc n) (cond b (y ∷ among number x (take n ys)) (x ∷ y ∷ take n ys))
      go true rest = ap (λ l. y ∷ l) rest
      go false rest = ap (λ l. x ∷ l) (take_less n y ys)

  first_ranked : (n : ℕ) (done xs : List X) → take n (ranked_among number done xs) ≡ take n (ranked_among number (take n done) xs)
  first_ranked n done [] = twice n done
    where
      twice : (n : ℕ) (xs : List X) → take n xs ≡ take n (take n xs)
      twice zero xs = refl
      twice (suc n) [] = refl
      twice (suc n) (x ∷ xs) = ap (λ l. x ∷ l) (twice n xs)
  first_ranked n done (x ∷ xs) =
      first_ranked n (among number x done) xs ∙ ap (λ l. take n (ranked_among number l xs)) (first_among n x done) ∙ sym (first_ranked n (among number x (take n done)) xs)

  -- of the first and what comes the first are those of all
  pub first_of_first : (n : ℕ) (xs ys : List X) → take n (ranked_among number [] (take n (ranked_among number [] xs) ++ ys)) ≡ take n (ranked_among number [] (xs ++ ys))
  first_of_first n xs ys =
      let first = take n (ranked_among number [] xs) in
      let again = ranked_again first (falls_take n (ranked_among number [] xs) (falls_ranked [] xs tt)) in
      ap (take n) (ranked_append [] first ys ∙ ap (λ l. ranked_among number l ys) again) ∙ sym (first_ranked n (ranked_among number [] xs) ys) ∙ ap (take n) (sym (ranked_append [] xs ys))

-- as many are ranked as there are
among_len : {X : Type 0} (number : X → ℕ) (x : X) (ys : List X) → length (among number x ys) ≡ suc (length ys)
among_len number x [] = refl
among_len number x (y ∷ ys) = go (nat_le (number x) (number y)) (among_len number x ys)
  where
    go : (b : Bool) → length (among number x ys) ≡ suc (length ys) → length (cond b (y ∷ among number x ys) (x ∷ y ∷ ys)) ≡ suc (suc (length ys))
    go true rest = ap suc rest
    go false rest = refl

pub ranked_len : {X : Type 0} (number : X → ℕ) (done xs : List X) → length (ranked_among number done xs) ≡ length done + length xs
ranked_len number done [] = omega arith
ranked_len number done (x ∷ xs) = let rest = ranked_len number (among number x done) xs in let one = among_len number x done in omega (arith, rest, one)

-- what is made of each item is ranked alike
among_map : {X Y : Type 0} (f : X → Y) (number : Y → ℕ) (x : X) (ys : List X) → map f (among (λ y. number (f y)) x ys) ≡ among number (f x) (map f ys)
among_map f number x [] = refl
among_map f number x (y ∷ ys) = go (nat_le (number (f x)) (number (f y))) (among_map f number x ys)
  where
    go : (b : Bool) → map f (among (λ y. number (f y)) x ys) ≡ among number (f x) (map f ys) → map f (cond b (y ∷ among (λ y. number (f y)) x ys) (x ∷ y ∷ ys)) ≡ cond b (f y ∷ among number (f x) (map f ys)) (f x ∷ f y ∷ map f ys)
    go true rest = ap (λ l. f y ∷ l) rest
    go false rest = refl

pub ranked_map : {X Y : Type 0} (f : X → Y) (number : Y → ℕ) (done xs : List X) → map f (ranked_among (λ x. number (f x)) done xs) ≡ ranked_among number (map f done) (map f xs)
ranked_map f number done [] = refl
ranked_map f number done (x ∷ xs) = ranked_map f number (among (λ x. number (f x)) x done) xs ∙ ap (λ l. ranked_among number l (map f xs)) (among_map f number x done)

-- as a sort by a closure does
pub sort_ranks_by : {X : Type 0} (number : X → ℕ) → {F : Type 0} {g : Mut F (Bor X × (Bor X × Unit {0})) Ordering} {f : F} (xs ys : List X) → IsSortedByClosure g f ys → IsStableByClosure g f xs ys
    → ((a : Bor X × (Bor X × Unit {0})) (r : Ordering) (f' : F) → Called g f a r f' → (r ≡ nat_cmp (number a.1.0.now) (number a.0.now)) × (f' ≡ f)) → ys ≡ ranked_among number [] xs
sort_ranks_by number {g = g} {f = f} xs ys up stable h =
    let compares = always_returns_same g (λ a r. is_lt r ≡ comes_before number a.0.now a.1.0.now) f (λ a r f' k. (ap is_lt (h a r f' k).0, (h a r f' k).1)) in
    sort_ranks number xs ys (up (comes_before number) (before_ranks number) compares) (stable (comes_before number) (before_ranks number) compares)

-- the first of pairs that are held
pub greatest_held : (n : ℕ) (xs ys zs : List (Vec ℕ Global × ℕ)) → ys ≡ ranked_among (λ e. e.1) [] xs → zs ≡ take n ys → held_pairs zs ≡ greatest n (held_pairs xs)
greatest_held n xs ys zs ranks first =
    ap held_pairs first ∙ sym (take-map (λ e. (e.0.items, e.1)) n ys) ∙ ap (λ l. take n (held_pairs l)) ranks ∙ ap (take n) (ranked_map (λ e. (e.0.items, e.1)) (λ e. e.1) [] xs)

-- a pair more is one of them
pub one_held : (n : ℕ) (held : List (Vec ℕ Global × ℕ)) (key : Vec ℕ Global) (value : ℕ) (rest : Pairs) → greatest n (held_pairs (held ++ (key, value) ∷ []) ++ rest) ≡ greatest n (held_pairs held ++ (key.items, value) ∷ rest)
one_held n held key value rest = ap (λ l. greatest n (l ++ rest)) (map-append (λ e. (e.0.items, e.1)) held ((key, value) ∷ [])) ∙ ap (greatest n) (append_assoc (held_pairs held) ((key.items, value) ∷ []) rest)

-- the first of them are all that counts
pub first_held : (n : ℕ) (held kept rest : Pairs) → kept ≡ greatest n held → greatest n (kept ++ rest) ≡ greatest n (held ++ rest)
first_held n held kept rest is = ap (λ l. greatest n (l ++ rest)) is ∙ first_of_first (λ e. e.1) n held rest
