-- The fullest window, as a loop over ascending values finds it.
use Rattle.std.proofs.Common.{◌≡◌, ℕ, ◌+◌, ◌<◌, ◌≤◌, List, [], ◌∷◌, refl, sym, ap, subst, ◌∙◌, arith, Bool, true, false, cond, inl, inr, length, get_or, map, zero, suc}
use Rattle.std.specs.Prelude.{◌==◌, ◌⊎◌, nat_le, nat_lt}
use Rattle.std.specs.List.{filter, sum_by}
use Rattle.std.specs.Prelude.{Contains}
use Rattle.std.proofs.lemmas.List.Sums.{sum_by-cons}
use Rattle.std.proofs.lemmas.List.Sorted.{sum_by-IsPermutation, Contains-permutation, length_permutation, IsPermutation-sym}
use Rattle.std.specs.List.Sorted.{IsPermutation}
use Rattle.zerotrie_core.specs.WellFormed.{greatest}
use Rattle.zerotrie.specs.dense.Windows.{count_within, fullest, in_window, least}
use Rattle.zerotrie.proofs.WindowLaws.{Among, either, reached, among_filter, filter_among, least_among, at_greatest, in_made, in_bounds}

-- r is the least of the values whose windows hold the most
pub record IsFullest (vs : List ℕ) (r : ℕ) : Type 0 where
  pub among : Among r vs
  pub most : (w : ℕ) → Among w vs → count_within vs w ≤ count_within vs r
  pub first : (w : ℕ) → Among w vs → count_within vs r ≤ count_within vs w → r ≤ w

one_fullest : (vs : List ℕ) (a b : ℕ) → IsFullest vs a → IsFullest vs b → a ≡ b
one_fullest vs a b p q =
    let below = p.first b q.among (q.most a p.among) in
    let above = q.first a p.among (p.most b q.among) in
    omega arith

kept_among : (p : ℕ → Bool) (vs : List ℕ) (v : ℕ) → Among v (filter p vs) → Among v vs
kept_among p [] v a = a
kept_among p (x ∷ vs) v a = elim (either (p x)) [
  | inl e ↦ elim (let P : Bool → Type 0 = λ b. Among v (cond b (x ∷ filter p vs) (filter p vs)) in subst P e a) [
    | inl q ↦ inl q
    | inr b ↦ inr (kept_among p vs v b)
  ]
  | inr e ↦ inr (kept_among p vs v (let P : Bool → Type 0 = λ b. Among v (cond b (x ∷ filter p vs) (filter p vs)) in subst P e a))
]

least_below : (vs : List ℕ) (w : ℕ) → Among w vs → least vs ≤ w
least_below [] w a = absurd a
least_below (x ∷ []) w a = elim a [ inl e ↦ omega arith | inr b ↦ absurd b ]
least_below (x ∷ y ∷ vs) w a = elim a [
  | inl e ↦ omega arith
  | inr b ↦ let r = least_below (y ∷ vs) w b in omega arith
]

is_fullest : (x : ℕ) (xs : List ℕ) → IsFullest (x ∷ xs) (fullest (x ∷ xs))
unfolding fullest
is_fullest x xs =
    let all : List ℕ = x ∷ xs in
    let top : ℕ = greatest (map (count_within all) all) in
    let p : ℕ → Bool = λ v. count_within all v == top in
    let r = reached (count_within all) x xs in
    let t : p r.v ≡ true = grind (arith, r.reaches) in
    let there = filter_among p all r.v r.among t in
    let chosen = least_among (filter p all) r.v there in
    let reaches : count_within all (least (filter p all)) ≡ top = (let b = among_filter p all (least (filter p all)) chosen in grind (arith, b)) in
    record {
      among = kept_among p all (least (filter p all)) chosen;
      most = λ w a. let g = at_greatest (count_within all) all w a in omega (arith, g, reaches);
      first = λ w a h.
          let g = at_greatest (count_within all) all w a in
          let e : count_within all w ≡ top = omega (arith, g, reaches, h) in
          let passes : p w ≡ true = grind (arith, e) in
          least_below (filter p all) w (filter_among p all w a passes);
    }

-- the values ascend
abbrev pub Rising : List ℕ → Type 0
Rising vs = (i j : ℕ) → i ≤ j → j < length vs → get_or vs i 0 ≤ get_or vs j 0

rising_tail : (x : ℕ) (vs : List ℕ) → Rising (x ∷ vs) → Rising vs
rising_tail x vs rises i j h k = rises (suc i) (suc j) (omega arith) (omega arith)

-- as many neighbours as a window holds stand in it
record Stretch (vs : List ℕ) (v k : ℕ) : Type 0 where
  at : ℕ
  below : at + k < length vs
  low : v ≤ get_or vs at 0
  high : get_or vs (at + k) 0 < v + 65535

shifted : (x : ℕ) (vs : List ℕ) (a k : ℕ) → get_or (x ∷ vs) (suc a + k) 0 ≡ get_or vs (a + k) 0
shifted x vs a k = let e : suc a + k ≡ suc (a + k) = omega arith in rw e refl

stretch : (vs : List ℕ) (v k : ℕ) → Rising vs → k < count_within vs v → Stretch vs v k
stretch [] v k rises h = absurd (omega arith)
stretch (x ∷ vs) v zero rises h = elim (either (in_window v x)) [
  | inl y ↦ let b = in_bounds v x y in record { at = 0; below = omega arith; low = b.0; high = b.1 }
  | inr n ↦ let more = rw n at h in let s = stretch vs v 0 (rising_tail x vs rises) (omega (arith, more)) in record { at = suc s.at; below = omega (arith, s.below); low = s.low; high = rw (shifted x vs s.at 0) s.high }
]
stretch (x ∷ vs) v (suc k) rises h = elim (either (in_window v x)) [
  | inl y ↦
      let b = in_bounds v x y in
      let s = stretch vs v k (rising_tail x vs rises) (let more = rw y at h in omega (arith, more)) in
      let up = rises (suc k) (suc (s.at + k)) (omega arith) (omega (arith, s.below)) in
      let here : 0 + suc k ≡ suc k = omega arith in
      record { at = 0; below = omega (arith, s.below); low = b.0; high = rw here (omega (arith, up, s.high)) }
  | inr n ↦
      let more = rw n at h in
      let s = stretch vs v (suc k) (rising_tail x vs rises) (omega (arith, more)) in
      record { at = suc s.at; below = omega (arith, s.below); low = s.low; high = rw (shifted x vs s.at (suc k)) s.high }
]

-- and a window holds as many as neighbours stand in it
holds : (vs : List ℕ) (v i k : ℕ) → Rising vs → i + k < length vs → v ≤ get_or vs i 0 → get_or vs (i + k) 0 < v + 65535 → k < count_within vs v
holds [] v i k rises b low high = absurd (omega arith)
holds (x ∷ vs) v (suc i) k rises b low high = let r = holds vs v i k (rising_tail x vs rises) (omega arith) low (rw (shifted x vs i k) at high) in omega arith
holds (x ∷ vs) v zero zero rises b low high = let y = in_made v x low high in rw y (omega arith)
holds (x ∷ vs) v zero (suc k) rises b low high =
    let below = rises 0 (suc k) (omega arith) (omega arith) in
    let here : 0 + suc k ≡ suc k = omega arith in
    let top : get_or vs k 0 < v + 65535 = subst (λ j. get_or (x ∷ vs) j 0 < v + 65535) here high in
    let y = in_made v x low (omega (arith, below, top)) in
    let next = rises 0 1 (omega arith) (omega arith) in
    let there : k ≡ 0 + k = omega arith in
    let r = holds vs v 0 k (rising_tail x vs rises) (omega arith) (omega (arith, low, next)) (subst (λ j. get_or vs j 0 < v + 65535) there top) in
    rw y (omega (arith, r))

among_at : (vs : List ℕ) (i : ℕ) → i < length vs → Among (get_or vs i 0) vs
among_at [] i h = absurd (omega arith)
among_at (x ∷ vs) zero h = inl refl
among_at (x ∷ vs) (suc i) h = inr (among_at vs i (omega arith))

record Index (vs : List ℕ) (w : ℕ) : Type 0 where
  i : ℕ
  below : i < length vs
  is : get_or vs i 0 ≡ w

index_of : (vs : List ℕ) (w : ℕ) → Among w vs → Index vs w
index_of [] w a = absurd a
index_of (x ∷ vs) w a = elim a [
  | inl e ↦ record { i = 0; below = omega arith; is = sym e }
  | inr b ↦ let r = index_of vs w b in record { i = suc r.i; below = omega (arith, r.below); is = r.is }
]

-- The longest stretch that fits, of k + 1 of the first e values, and the first place of one.
pub record Longest (vs : List ℕ) (e k r : ℕ) : Type 0 where
  pub start : ℕ
  pub within : start + k < e
  pub is : r ≡ get_or vs start 0
  pub fits : get_or vs (start + k) 0 < r + 65535
  pub before : (i : ℕ) → i < start → get_or vs i 0 + 65535 ≤ get_or vs (i + k) 0
  pub no_longer : (i : ℕ) → i + k + 1 < e → get_or vs i 0 + 65535 ≤ get_or vs (i + k + 1) 0

longest_full : (vs : List ℕ) (k r : ℕ) → Rising vs → Longest vs (length vs) k r → IsFullest vs r
longest_full vs k r rises l =
    let here : k < count_within vs r = holds vs r l.start k rises l.within (omega (arith, l.is)) l.fits in
    record {
      among = subst (λ v. Among v vs) (sym l.is) (among_at vs l.start (omega (arith, l.within)));
      most = λ w a. elim (either (nat_lt (k + 1) (count_within vs w))) [
        | inl y ↦
            let more : k + 1 < count_within vs w = grind arith in
            let s = stretch vs w (k + 1) rises more in
            let far = l.no_longer s.at (omega (arith, s.below)) in
            let same : s.at + (k + 1) ≡ s.at + k + 1 = omega arith in
            let high = subst (λ j. get_or vs j 0 < w + 65535) same s.high in
            absurd (omega (arith, far, high, s.low))
        | inr n ↦ let most : count_within vs w ≤ k + 1 = grind arith in omega (arith, most, here)
      ];
      first = λ w a h. elim (either (nat_le r w)) [
        | inl y ↦ grind arith
        | inr n ↦
            let less : w < r = grind arith in
            let s = stretch vs w k rises (omega (arith, here, h)) in
            let x = index_of vs w a in
            elim (either (nat_lt s.at l.start)) [
              | inl y ↦
                  let early : s.at < l.start = grind arith in
                  let far = l.before s.at early in
                  absurd (omega (arith, far, s.low, s.high))
              | inr late ↦
                  let at_least : l.start ≤ s.at = grind arith in
                  elim (either (nat_lt x.i l.start)) [
                    | inl y ↦
                        let early : x.i < l.start = grind arith in
                        let far = l.before x.i early in
                        let up = rises (x.i + k) (s.at + k) (omega (arith, early, at_least)) s.below in
                        absurd (omega (arith, far, up, s.high, x.is))
                    | inr later ↦
                        let after : l.start ≤ x.i = grind arith in
                        let up = rises l.start x.i after x.below in
                        absurd (omega (arith, up, x.is, l.is, less))
                  ]
            ]
      ];
    }

-- what the loop ends with is the fullest
pub found_fullest : (vs : List ℕ) (k r : ℕ) → Rising vs → Longest vs (length vs) k r → r ≡ fullest vs
found_fullest [] k r rises l = absurd (omega (arith, l.within))
found_fullest (x ∷ xs) k r rises l = one_fullest (x ∷ xs) r (fullest (x ∷ xs)) (longest_full (x ∷ xs) k r rises l) (is_fullest x xs)

-- its steps: the first value, one more that fits, and one that does not
pub longest_one : (vs : List ℕ) → 0 < length vs → Longest vs 1 0 (get_or vs 0 0)
longest_one vs h = record { start = 0; within = omega arith; is = refl; fits = omega arith; before = λ i b. absurd (omega arith); no_longer = λ i b. absurd (omega arith) }

pub longest_grows : (vs : List ℕ) (e k r first : ℕ) → Rising vs → first + k + 1 ≡ e → e < length vs → Longest vs e k r → get_or vs e 0 < get_or vs first 0 + 65535
    → Longest vs (e + 1) (k + 1) (get_or vs first 0)
longest_grows vs e k r first rises is below l fits = record {
  start = first;
  within = omega arith;
  is = refl;
  fits = (let same : first + (k + 1) ≡ e = omega arith in subst (λ j. get_or vs j 0 < get_or vs first 0 + 65535) (sym same) fits);
  before = λ i b. (
      let far = l.no_longer i (omega (arith, b, is)) in
      let same : i + k + 1 ≡ i + (k + 1) = omega arith in
      subst (λ j. get_or vs i 0 + 65535 ≤ get_or vs j 0) same far
      );
  no_longer = λ i b. (
      let far = l.no_longer i (omega (arith, b)) in
      let up = rises (i + k + 1) (i + (k + 1) + 1) (omega arith) (omega (arith, b, below)) in
      omega (arith, far, up)
      );
}

pub longest_stays : (vs : List ℕ) (e k r first : ℕ) → first + k + 1 ≡ e → Longest vs e k r → get_or vs first 0 + 65535 ≤ get_or vs e 0 → Longest vs (e + 1) k r
longest_stays vs e k r first is l far = record {
  start = l.start;
  within = omega (arith, l.within);
  is = l.is;
  fits = l.fits;
  before = l.before;
  no_longer = λ i b. elim (either (nat_lt (i + k + 1) e)) [
    | inl y ↦ let early : i + k + 1 < e = grind arith in l.no_longer i early
    | inr n ↦
        let last : i + k + 1 ≡ e = (let late : e ≤ i + k + 1 = grind arith in omega (arith, late, b)) in
        let here : i ≡ first = omega (arith, last, is) in
        let at : get_or vs first 0 + 65535 ≤ get_or vs (i + k + 1) 0 = subst (λ j. get_or vs first 0 + 65535 ≤ get_or vs j 0) (sym last) far in
        subst (λ j. get_or vs j 0 + 65535 ≤ get_or vs (i + k + 1) 0) (sym here) at
  ];
}

-- what the loop knows after e values, whose stretch begins at first
abbrev pub Going : List ℕ → ℕ → ℕ → ℕ → Type 0
Going vs e first r = ((e ≡ 0) × (first ≡ 0) × (r ≡ 0)) ⊎ ((k : ℕ) × (first + k + 1 ≡ e) × Longest vs e k r)

-- a step of it: the stretch grows, or goes on
abbrev pub Goes : List ℕ → ℕ → ℕ → ℕ → ℕ → ℕ → Type 0
Goes vs e first r next more = ((in_window (get_or vs first 0) (get_or vs e 0) ≡ true) × (more ≡ get_or vs first 0) × (next ≡ first))
    ⊎ ((in_window (get_or vs first 0) (get_or vs e 0) ≡ false) × (more ≡ r) × (next ≡ first + 1))

own_window : (v w : ℕ) → v ≡ w → in_window v w ≡ false → ⊥
own_window v w same out = let yes = in_made v w (omega arith) (omega arith) in let wrong = sym yes ∙ out in absurd (cc)

far_away : (v w : ℕ) → v ≤ w → in_window v w ≡ false → v + 65535 ≤ w
far_away v w low out = elim (either (nat_lt w (v + 65535))) [
  | inl y ↦ let yes = in_made v w low (grind arith) in let wrong = sym yes ∙ out in absurd (cc)
  | inr n ↦ grind arith
]

pub going_on : (vs : List ℕ) (e first r next more : ℕ) → Rising vs → e < length vs → Going vs e first r → Goes vs e first r next more → Going vs (e + 1) next more
going_on vs e first r next more rises below going goes = elim going [
  | inl z ↦ elim goes [
    | inl t ↦
        let value : more ≡ get_or vs 0 0 = t.1 ∙ ap (λ i. get_or vs i 0) z.1 in
        let one : e + 1 ≡ 1 = omega (arith, z.0) in
        inr (0, omega (arith, z.0, z.1, t.2), subst (λ x. Longest vs x 0 more) (sym one) (subst (λ x. Longest vs 1 0 x) (sym value) (longest_one vs (omega arith))))
    | inr f ↦
        let same : first ≡ e = omega (arith, z.0, z.1) in
        absurd (own_window (get_or vs first 0) (get_or vs e 0) (ap (λ i. get_or vs i 0) same) f.0)
  ]
  | inr l ↦ elim goes [
    | inl t ↦
        let bounds = in_bounds (get_or vs first 0) (get_or vs e 0) t.0 in
        inr (l.0 + 1, omega (arith, l.1, t.2), subst (λ x. Longest vs (e + 1) (l.0 + 1) x) (sym t.1) (longest_grows vs e l.0 r first rises l.1 below l.2 bounds.1))
    | inr f ↦
        let far = far_away (get_or vs first 0) (get_or vs e 0) (rises first e (omega (arith, l.1)) below) f.0 in
        inr (l.0, omega (arith, l.1, f.2), subst (λ x. Longest vs (e + 1) l.0 x) (sym f.1) (longest_stays vs e l.0 r first l.1 l.2 far))
  ]
]

none_fullest : (vs : List ℕ) → length vs ≡ 0 → 0 ≡ fullest vs
unfolding fullest
none_fullest [] h = refl
none_fullest (x ∷ vs) h = absurd (omega arith)

pub going_ends : (vs : List ℕ) (e first r : ℕ) → Rising vs → e ≡ length vs → Going vs e first r → r ≡ fullest vs
going_ends vs e first r rises all going = elim going [
  | inl z ↦ z.2 ∙ none_fullest vs (sym all ∙ z.0)
  | inr l ↦ found_fullest vs l.0 r rises (subst (λ x. Longest vs x l.0 r) all l.2)
]

-- another order of the values changes nothing
count_within-sum : (vs : List ℕ) (s : ℕ) → count_within vs s ≡ sum_by (λ v. cond (in_window s v) 1 0) vs
count_within-sum [] s = refl
count_within-sum (v ∷ vs) s = ap (λ n. cond (in_window s v) 1 0 + n) (count_within-sum vs s) ∙ sym (sum_by-cons (λ w. cond (in_window s w) 1 0) v vs)

among_contains : (vs : List ℕ) (w : ℕ) → Among w vs → Contains vs w
among_contains [] w a = absurd a
among_contains (x ∷ vs) w a = elim a [
  | inl e ↦ (0, omega arith, sym e)
  | inr b ↦ let r = among_contains vs w b in (suc r.0, omega (arith, r.1), r.2)
]

contains_among : (vs : List ℕ) (k w : ℕ) → k < length vs → get_or vs k w ≡ w → Among w vs
contains_among [] k w h e = absurd (omega arith)
contains_among (x ∷ vs) zero w h e = inl (sym e)
contains_among (x ∷ vs) (suc k) w h e = inr (contains_among vs k w (omega arith) e)

count_within-permutation : (xs ys : List ℕ) (s : ℕ) → IsPermutation xs ys → count_within ys s ≡ count_within xs s
count_within-permutation xs ys s p = count_within-sum ys s ∙ sum_by-IsPermutation (λ v. cond (in_window s v) 1 0) xs ys p ∙ sym (count_within-sum xs s)

moved : (xs ys : List ℕ) (w : ℕ) → IsPermutation xs ys → Among w xs → Among w ys
moved xs ys w p a = let c = among_contains xs w a in let d = Contains-permutation xs ys w p c in contains_among ys d.0 w d.1 d.2

pub permuted_fullest : (xs ys : List ℕ) → IsPermutation xs ys → fullest ys ≡ fullest xs
permuted_fullest [] [] p = refl
permuted_fullest [] (y ∷ ys) p = absurd (let l = length_permutation [] (y ∷ ys) p in omega (arith, l))
permuted_fullest (x ∷ xs) [] p = absurd (let l = length_permutation (x ∷ xs) [] p in omega (arith, l))
permuted_fullest (x ∷ xs) (y ∷ ys) p =
    let a = is_fullest x xs in
    let b = is_fullest y ys in
    let back = IsPermutation-sym (x ∷ xs) (y ∷ ys) p in
    one_fullest (x ∷ xs) (fullest (y ∷ ys)) (fullest (x ∷ xs)) (record {
      among = moved (y ∷ ys) (x ∷ xs) (fullest (y ∷ ys)) back b.among;
      most = λ w t. let m = b.most w (moved (x ∷ xs) (y ∷ ys) w p t) in
          omega (arith, m, count_within-permutation (x ∷ xs) (y ∷ ys) w p, count_within-permutation (x ∷ xs) (y ∷ ys) (fullest (y ∷ ys)) p);
      first = λ w t h. b.first w (moved (x ∷ xs) (y ∷ ys) w p t) (omega (arith, h, count_within-permutation (x ∷ xs) (y ∷ ys) w p, count_within-permutation (x ∷ xs) (y ∷ ys) (fullest (y ∷ ys)) p));
    }) a
