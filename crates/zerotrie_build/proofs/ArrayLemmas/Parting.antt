-- Where a key parts from the key before it, in the order of a kind.
use Rattle.std.proofs.Common.{◌≡◌, ℕ, zero, suc, ◌+◌, ◌<◌, ◌≤◌, ◌⊎◌, inl, inr, List, [], ◌∷◌, ◌++◌, length, refl, ◌∙◌, ap, arith, take, get_or}
use Rattle.std.proofs.lemmas.Bool.{eq-eqb, ne_eqb}
use Rattle.zerotrie_base.specs.Kind.{Kind, fold_byte}
use Rattle.zerotrie_base.specs.Maps.{Pairs, residual, behind_all}
use Rattle.zerotrie_base.proofs.CallerLemmas.{residual-append, behind_all-nil}
use Rattle.zerotrie_build.specs.Order.{Before, Ordered}
use Rattle.zerotrie_build.specs.array.Growing.{AtMost}
use Rattle.zerotrie_build.proofs.OrderLemmas.Parting.{common}
use Rattle.zerotrie_build.proofs.ArrayLemmas.Runs.{behind_all-append}

-- after c common bytes the key before ends, or has a byte that is lower to the kind
pub record Parted (kind : Kind) (before key : List ℕ) (c : ℕ) : Type 0 where
  pub upto : c ≤ length before
  pub room : c < length key
  pub same : (j : ℕ) → j ≤ c → take j before ≡ take j key
  pub equal : (j : ℕ) → j < c → get_or before j 0 ≡ get_or key j 0
  pub less : c < length before → fold_byte kind (get_or before c 0) < fold_byte kind (get_or key c 0)

apart : (kind : Kind) (a b : ℕ) → fold_byte kind a < fold_byte kind b → a ≡ b → ⊥
apart kind a b h e = let f = ap (fold_byte kind) e in omega arith

parted_at_once : (kind : Kind) (x y : ℕ) (before key : List ℕ) → fold_byte kind x < fold_byte kind y → Parted kind (x ∷ before) (y ∷ key) 0
parted_at_once kind x y before key h = record {
  upto = omega arith;
  room = omega arith;
  same = λ j l. let e : j ≡ 0 = omega arith in rw e refl;
  equal = λ j l. absurd (omega arith);
  less = λ l. h;
}

parted_later : (kind : Kind) (x y c : ℕ) (before key : List ℕ) → x ≡ y → Parted kind before key c → Parted kind (x ∷ before) (y ∷ key) (1 + c)
parted_later kind x y c before key e p = record {
  upto = let u = p.upto in omega arith;
  room = let u = p.room in omega arith;
  same = later_same;
  equal = later_equal;
  less = λ l. let n : 1 + c ≡ suc c = omega arith in rw n (p.less (omega arith));
}
  where
    later_same : (j : ℕ) → j ≤ 1 + c → take j (x ∷ before) ≡ take j (y ∷ key)
    later_same zero l = refl
    later_same (suc j) l = ap (λ b. b ∷ take j before) e ∙ ap (λ k. y ∷ k) (p.same j (omega arith))

    later_equal : (j : ℕ) → j < 1 + c → get_or (x ∷ before) j 0 ≡ get_or (y ∷ key) j 0
    later_equal zero l = e
    later_equal (suc j) l = p.equal j (omega arith)

pub parted : (kind : Kind) (before key : List ℕ) → Before kind before key → Parted kind before key (common before key)
parted kind [] [] h = absurd h
parted kind [] (y ∷ key) h = record {
  upto = omega arith;
  room = omega arith;
  same = λ j l. let e : j ≡ 0 = omega arith in rw e refl;
  equal = λ j l. absurd (omega arith);
  less = λ l. absurd (let g : 0 < 0 = l in omega arith);
}
parted kind (x ∷ before) [] h = absurd h
parted kind (x ∷ before) (y ∷ key) h =
    elim h [
      | inl less ↦ rw (ne_eqb x y (apart kind x y less)) (parted_at_once kind x y before key less)
      | inr same ↦ rw (eq-eqb x y same.0) (parted_later kind x y (common before key) before key same.0 (parted kind before key same.1))
    ]

-- no key at most the front stands strictly after it
at_most_none : (kind : Kind) (front key : List ℕ) (v b : ℕ) → AtMost kind front key → residual b (behind_all front ((key, v) ∷ [])) ≡ []
at_most_none kind [] [] v b h = refl
at_most_none kind [] (c ∷ key) v b h = absurd (cc)
at_most_none kind (f ∷ front) [] v b h = ap (residual b) (behind_all-nil front)
at_most_none kind (f ∷ front) (c ∷ key) v b h =
    elim h [
      | inl less ↦ rw (ne_eqb c f (apart kind c f less)) (ap (residual b) (behind_all-nil front))
      | inr same ↦ rw (eq-eqb c f same.0) (at_most_none kind front key v b same.1)
    ]

at_most_below : (kind : Kind) (front a m : List ℕ) → Before kind a m → AtMost kind front m → AtMost kind front a
at_most_below kind [] [] m h l = refl
at_most_below kind [] (x ∷ a) [] h l = absurd h
at_most_below kind [] (x ∷ a) (c ∷ m) h l = absurd (cc)
at_most_below kind (f ∷ front) [] m h l = tt
at_most_below kind (f ∷ front) (x ∷ a) [] h l = absurd h
at_most_below kind (f ∷ front) (x ∷ a) (c ∷ m) h l =
    elim h [
      | inl less ↦ elim l [ inl low ↦ inl (omega arith) | inr same ↦ let e = ap (fold_byte kind) same.0 in inl (omega arith) ]
      | inr equal ↦ let g = ap (fold_byte kind) equal.0 in elim l [
        | inl low ↦ inl (omega arith)
        | inr same ↦ inr (equal.0 ∙ same.0, at_most_below kind front a m equal.1 same.1)
      ]
    ]

abbrev EachAtMost : Kind → List ℕ → Pairs → Type 0
EachAtMost kind front [] = Unit {0}
EachAtMost kind front (e ∷ pairs) = AtMost kind front e.0 × EachAtMost kind front pairs

each_at_most : (kind : Kind) (front : List ℕ) (pairs : Pairs) (i : ℕ) → Ordered kind pairs → i < length pairs → AtMost kind front (get_or pairs i ([], 0)).0
    → EachAtMost kind front (take (suc i) pairs)
each_at_most kind front [] i up h l = let g : i < 0 = h in absurd (omega arith)
each_at_most kind front (e ∷ pairs) zero up h l = (l, tt)
each_at_most kind front (e ∷ []) (suc i) up h l = let g : suc i < 1 = h in absurd (omega arith)
each_at_most kind front (e ∷ f ∷ pairs) (suc i) up h l =
    let rest = each_at_most kind front (f ∷ pairs) i up.1 (let g : suc i < suc (suc (length pairs)) = h in let r : i < suc (length pairs) = omega arith in r) l in
    (at_most_below kind front e.0 f.0 up.0 rest.0, rest)

each_none : (kind : Kind) (front : List ℕ) (pairs : Pairs) (b : ℕ) → EachAtMost kind front pairs → residual b (behind_all front pairs) ≡ []
each_none kind front [] b h = ap (residual b) (behind_all-nil front)
each_none kind front (e ∷ pairs) b h =
    ap (residual b) (behind_all-append front (e ∷ []) pairs)
    ∙ residual-append b (behind_all front (e ∷ [])) (behind_all front pairs)
    ∙ ap (λ x. x ++ residual b (behind_all front pairs)) (at_most_none kind front e.0 e.1 b h.0)
    ∙ each_none kind front pairs b h.1

-- no pair up to number i stands strictly after a front that its key does not pass
pub nothing_before : (kind : Kind) (front : List ℕ) (pairs : Pairs) (i b : ℕ) → Ordered kind pairs → i < length pairs → AtMost kind front (get_or pairs i ([], 0)).0
    → residual b (behind_all front (take (suc i) pairs)) ≡ []
nothing_before kind front pairs i b up h l = each_none kind front (take (suc i) pairs) b (each_at_most kind front pairs i up h l)

-- the key before does not pass a front that is longer than what it has in common, or as long if it ends there
pub at_most_front : (kind : Kind) (before key : List ℕ) (d : ℕ) → Before kind before key
    → ((length before ≡ common before key) × (common before key ≤ d)) ⊎ (common before key < d) → AtMost kind (take d key) before
at_most_front kind [] key zero h l = refl
at_most_front kind [] [] (suc d) h l = absurd h
at_most_front kind [] (y ∷ key) (suc d) h l = tt
at_most_front kind (x ∷ before) [] d h l = absurd h
at_most_front kind (x ∷ before) (y ∷ key) zero h l =
    elim h [
      | inl less ↦
          let m = rw (ne_eqb x y (apart kind x y less)) at l in
          absurd (elim m [ inl ends ↦ let e = ends.0 in let r : ⊥ = omega arith in r | inr more ↦ let r : ⊥ = omega arith in r ])
      | inr same ↦
          let m = rw (eq-eqb x y same.0) at l in
          absurd (elim m [ inl ends ↦ let e = ends.1 in let r : ⊥ = omega arith in r | inr more ↦ let r : ⊥ = omega arith in r ])
    ]
at_most_front kind (x ∷ before) (y ∷ key) (suc d) h l =
    elim h [
      | inl less ↦ inl less
      | inr same ↦
          let m = rw (eq-eqb x y same.0) at l in
          inr (
            same.0,
            at_most_front kind before key d same.1
                (elim m [ inl ends ↦ inl (let e = ends.0 in omega arith, let e = ends.1 in omega arith) | inr more ↦ inr (omega arith) ]),
          )
    ]
