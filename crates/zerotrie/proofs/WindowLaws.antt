-- No window holds more of some values than that of the fullest of them.
use Rattle.std.proofs.Common.{◌≡◌, ℕ, ◌+◌, ◌<◌, ◌≤◌, List, [], ◌∷◌, refl, sym, ap, subst, arith, Bool, true, false, cond, inl, inr, ◌∙◌}
use Rattle.std.specs.Prelude.{map, min, ◌==◌, ◌⊎◌, nat_le as leb}
use Rattle.std.specs.List.{filter}
use Rattle.zerotrie_core.specs.WellFormed.{greatest}
use Rattle.zerotrie.specs.dense.Windows.{count_within, fullest, in_window, least}

abbrev pub Among : ℕ → List ℕ → Type 0
Among v [] = ⊥
Among v (x ∷ xs) = (v ≡ x) ⊎ Among v xs

pub either : (b : Bool) → (b ≡ true) ⊎ (b ≡ false)
either true = inl refl
either false = inr refl

pub in_bounds : (s x : ℕ) → in_window s x ≡ true → (s ≤ x) × (x < s + 65535)
in_bounds s x h = (grind arith, grind arith)

pub in_made : (s x : ℕ) → s ≤ x → x < s + 65535 → in_window s x ≡ true
in_made s x h k = grind arith

-- the window of the least value that a window holds, holds as much
holds_more : (vs : List ℕ) (s v : ℕ) → s ≤ v → ((x : ℕ) → Among x vs → in_window s x ≡ true → v ≤ x) → count_within vs s ≤ count_within vs v
holds_more [] s v h least = omega arith
holds_more (x ∷ vs) s v h low =
    let rest = holds_more vs s v h (λ y a. low y (inr a)) in
    elim (either (in_window s x)) [
      | inl e ↦
          let above = low x (inl refl) e in
          let bounds = in_bounds s x e in
          let f : in_window v x ≡ true = in_made v x above (omega arith) in
          rw (e, f) (omega arith)
      | inr e ↦ rw e (omega arith)
    ]

record LeastIn (vs : List ℕ) (s : ℕ) : Type 0 where
  pub v : ℕ
  pub among : Among v vs
  held_too : in_window s v ≡ true
  low : (x : ℕ) → Among x vs → in_window s x ≡ true → v ≤ x

least_in : (vs : List ℕ) (s : ℕ) → ((x : ℕ) → Among x vs → in_window s x ≡ true → ⊥) ⊎ LeastIn vs s
least_in [] s = inl (λ x a e. a)
least_in (x ∷ vs) s = elim (least_in vs s) [
  | inl none ↦ elim (either (in_window s x)) [
    | inl e ↦ inr (record { v = x; among = inl refl; held_too = e; low = λ y a f. elim a [ inl p ↦ omega arith | inr b ↦ absurd (none y b f) ] })
    | inr e ↦ inl (λ y a f. elim a [ inl p ↦ absurd (cc) | inr b ↦ none y b f ])
  ]
  | inr l ↦ elim (either (in_window s x)) [
    | inl e ↦ elim (either (leb x l.v)) [
      | inl h ↦ inr (record { v = x; among = inl refl; held_too = e; low = λ y a f. elim a [ inl p ↦ omega arith | inr b ↦ let k : l.v ≤ y = l.low y b f in grind arith ] })
      | inr h ↦ inr (record { v = l.v; among = inr l.among; held_too = l.held_too; low = λ y a f. elim a [ inl p ↦ grind arith | inr b ↦ l.low y b f ] })
    ]
    | inr e ↦ inr (record { v = l.v; among = inr l.among; held_too = l.held_too; low = λ y a f. elim a [ inl p ↦ absurd (cc) | inr b ↦ l.low y b f ] })
  ]
]

count_within-none : (vs : List ℕ) (s : ℕ) → ((x : ℕ) → Among x vs → in_window s x ≡ true → ⊥) → count_within vs s ≡ 0
count_within-none [] s none = refl
count_within-none (x ∷ vs) s none = elim (either (in_window s x)) [
  | inl e ↦ absurd (none x (inl refl) e)
  | inr e ↦ let rest = count_within-none vs s (λ y a. none y (inr a)) in rw e (omega arith)
]

pub at_greatest : (f : ℕ → ℕ) (vs : List ℕ) (v : ℕ) → Among v vs → f v ≤ greatest (map f vs)
at_greatest f [] v a = absurd a
at_greatest f (x ∷ vs) v a = elim a [
  | inl e ↦ let same = ap f e in omega arith
  | inr b ↦ let rest = at_greatest f vs v b in omega arith
]

pub record Reached (f : ℕ → ℕ) (vs : List ℕ) : Type 0 where
  pub v : ℕ
  pub among : Among v vs
  pub reaches : f v ≡ greatest (map f vs)

pub reached : (f : ℕ → ℕ) (x : ℕ) (vs : List ℕ) → Reached f (x ∷ vs)
reached f x [] = record { v = x; among = inl refl; reaches = omega arith }
reached f x (y ∷ vs) = let r = reached f y vs in elim (either (leb (greatest (map f (y ∷ vs))) (f x))) [
  | inl h ↦ record { v = x; among = inl refl; reaches = grind arith }
  | inr h ↦ let m = r.reaches in record { v = r.v; among = inr r.among; reaches = grind arith }
]

pub among_filter : (p : ℕ → Bool) (vs : List ℕ) (v : ℕ) → Among v (filter p vs) → p v ≡ true
among_filter p [] v a = absurd a
among_filter p (x ∷ vs) v a = elim (either (p x)) [
  | inl e ↦ elim (let P : Bool → Type 0 = λ b. Among v (cond b (x ∷ filter p vs) (filter p vs)) in subst P e a) [
    | inl q ↦ ap p q ∙ e
    | inr b ↦ among_filter p vs v b
  ]
  | inr e ↦ among_filter p vs v (let P : Bool → Type 0 = λ b. Among v (cond b (x ∷ filter p vs) (filter p vs)) in subst P e a)
]

pub filter_among : (p : ℕ → Bool) (vs : List ℕ) (v : ℕ) → Among v vs → p v ≡ true → Among v (filter p vs)
filter_among p [] v a h = absurd a
filter_among p (x ∷ vs) v a h = elim (either (p x)) [
  | inl e ↦ rw e (elim a [ inl q ↦ inl q | inr b ↦ inr (filter_among p vs v b h) ])
  | inr e ↦ rw e (elim a [ inl q ↦ absurd (let s = ap p q in cc) | inr b ↦ filter_among p vs v b h ])
]

pub least_among : (vs : List ℕ) (v : ℕ) → Among v vs → Among (least vs) vs
least_among [] v a = a
least_among (x ∷ []) v a = inl refl
least_among (x ∷ y ∷ vs) v a = elim (either (leb x (least (y ∷ vs)))) [
  | inl h ↦ inl (grind arith)
  | inr h ↦
      let e : min x (least (y ∷ vs)) ≡ least (y ∷ vs) = grind arith in
      let m = least_among (y ∷ vs) y (inl refl) in
      inr (subst (λ z. Among z (y ∷ vs)) (sym e) m)
]

pub fullest_reaches : (x : ℕ) (vs : List ℕ) → count_within (x ∷ vs) (fullest (x ∷ vs)) ≡ greatest (map (count_within (x ∷ vs)) (x ∷ vs))
unfolding fullest
fullest_reaches x vs =
    let all : List ℕ = x ∷ vs in
    let r = reached (count_within all) x vs in
    let p : ℕ → Bool = λ v. count_within all v == greatest (map (count_within all) all) in
    let t : p r.v ≡ true = grind (arith, r.reaches) in
    let a = filter_among p all r.v r.among t in
    let b = among_filter p all (least (filter p all)) (least_among (filter p all) r.v a) in
    grind (arith, b)

pub fullest_best : (values : List ℕ) (start : ℕ) → count_within values start ≤ count_within values (fullest values)
fullest_best [] start = omega arith
fullest_best (x ∷ vs) start = elim (least_in (x ∷ vs) start) [
  | inl none ↦ let zero_there = count_within-none (x ∷ vs) start none in omega arith
  | inr l ↦
      let bounds = in_bounds start l.v l.held_too in
      let more = holds_more (x ∷ vs) start l.v bounds.0 l.low in
      let at = at_greatest (count_within (x ∷ vs)) (x ∷ vs) l.v l.among in
      let full = fullest_reaches x vs in
      omega (arith, more, at, full)
]
