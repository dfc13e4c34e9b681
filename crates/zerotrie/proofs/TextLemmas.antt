-- Texts that do not hold a delimiter, and keys of texts with it between them.
use Rattle.std.proofs.Common.{◌≡◌, ℕ, List, [], ◌∷◌, ◌++◌, refl, sym, ap, subst, ◌∙◌, arith, Bool, true, false, cond, inl, inr, Option, Some, None, map}
use Rattle.std.specs.Prelude.{not, ◌==◌, ◌⊎◌, ◌&&◌, filter, Contains}
use Rattle.std.specs.List.{list_any}
use Rattle.zerotrie_core.specs.Kind.{simple_ascii}
use Rattle.zerotrie_core.specs.Maps.{Pairs, Ascends, value_at, same_key}
use Rattle.zerotrie_core.proofs.CallerLemmas.{exact_same, ascends_apart}
use Rattle.zerotrie.specs.dense.Laws.{or_else}
use Rattle.zerotrie.specs.dense.Layout.{under}
use Rattle.zerotrie.proofs.Lookups.{one_of, key_there}

abbrev pub V : Pairs → List ℕ → Option ℕ
V pairs key = value_at simple_ascii pairs key

abbrev pub same : List ℕ → List ℕ → Bool
same p q = same_key simple_ascii p q

pub either : (b : Bool) → (b ≡ true) ⊎ (b ≡ false)
either true = inl refl
either false = inr refl

pub maybe : (o : Option ℕ) → (o ≡ None) ⊎ ((v : ℕ) × (o ≡ Some v))
maybe None = inl refl
maybe (Some v) = inr (v, refl)

-- the text does not hold d
abbrev pub Free : ℕ → List ℕ → Type 0
Free d text = list_any (λ b. b == d) text ≡ false

pub free_head : (d b : ℕ) (text : List ℕ) → Free d (b ∷ text) → ((b == d) ≡ false) × Free d text
free_head d b text h = elim (either (b == d)) [
  | inl y ↦ let wrong = rw y at h in absurd (cc)
  | inr n ↦ (n, rw n at h)
]

turned : (b d : ℕ) → (b == d) ≡ false → (d == b) ≡ false
turned b d h = grind arith

itself : (d : ℕ) → (d == d) ≡ true
itself d = grind arith

and_false : (b : Bool) → (b && false) ≡ false
and_false true = refl
and_false false = refl

and_and : (a b c : Bool) → (a && (b && c)) ≡ ((a && b) && c)
and_and true b c = refl
and_and false b c = refl

-- keys of two texts with d between them are the same if the texts are
pub split_key : (d : ℕ) (q p a s : List ℕ) → Free d q → Free d p → same (q ++ (d ∷ a)) (p ++ (d ∷ s)) ≡ (same q p && same a s)
split_key d [] [] a s h k = ap (λ t. t && same a s) (itself d)
split_key d [] (b ∷ p) a s h k = ap (λ t. t && same a (p ++ (d ∷ s))) (turned b d (free_head d b p k).0)
split_key d (b ∷ q) [] a s h k = ap (λ t. t && same (q ++ (d ∷ a)) s) (free_head d b q h).0
split_key d (b ∷ q) (c ∷ p) a s h k =
    ap (λ t. (b == c) && t) (split_key d q p a s (free_head d b q h).1 (free_head d c p k).1) ∙ and_and (b == c) (same q p) (same a s)

-- a key that holds d is no text without it
pub no_text : (d : ℕ) (q a p : List ℕ) → Free d p → same (q ++ (d ∷ a)) p ≡ false
no_text d [] a [] k = refl
no_text d [] a (b ∷ p) k = ap (λ t. t && same a p) (turned b d (free_head d b p k).0)
no_text d (b ∷ q) a [] k = refl
no_text d (b ∷ q) a (c ∷ p) k = ap (λ t. (b == c) && t) (no_text d q a p (free_head d c p k).1) ∙ and_false (b == c)

pub no_key : (d : ℕ) (q p s : List ℕ) → Free d q → same q (p ++ (d ∷ s)) ≡ false
no_key d [] [] s h = refl
no_key d [] (b ∷ p) s h = refl
no_key d (b ∷ q) [] s h = ap (λ t. t && same q s) (free_head d b q h).0
no_key d (b ∷ q) (c ∷ p) s h = ap (λ t. (b == c) && t) (no_key d q p s (free_head d b q h).1) ∙ and_false (b == c)

-- a text that holds d is no text without it
pub held_other : (d : ℕ) (q p : List ℕ) → Free d q → list_any (λ b. b == d) p ≡ true → same q p ≡ false
held_other d [] [] h k = absurd (cc)
held_other d [] (b ∷ p) h k = refl
held_other d (b ∷ q) [] h k = absurd (cc)
held_other d (b ∷ q) (c ∷ p) h k = elim (either (b == c)) [
  | inl y ↦
      let is : b ≡ c = grind arith in
      let other : (c == d) ≡ false = ap (λ x. x == d) (sym is) ∙ (free_head d b q h).0 in
      rw y (held_other d q p (free_head d b q h).1 (rw other at k))
  | inr n ↦ rw n refl
]

under_one : (a b : Bool) (v : ℕ) (o : Option ℕ) → cond (a && b) (Some v) (cond a o None) ≡ cond a (cond b (Some v) o) None
under_one true b v o = refl
under_one false b v o = refl

pub value_at-under : (d : ℕ) (q p s : List ℕ) (es : Pairs) → Free d q → Free d p → V (under q d es) (p ++ (d ∷ s)) ≡ cond (same q p) (V es s) None
value_at-under d q p s [] h k = elim (either (same q p)) [ inl y ↦ rw y refl | inr n ↦ rw n refl ]
value_at-under d q p s (e ∷ es) h k =
    ap (λ t. cond t (Some e.1) (V (under q d es) (p ++ (d ∷ s)))) (split_key d q p e.0 s h k)
    ∙ ap (λ o. cond (same q p && same e.0 s) (Some e.1) o) (value_at-under d q p s es h k)
    ∙ under_one (same q p) (same e.0 s) e.1 (V es s)

pub value_at-no_text : (d : ℕ) (q p : List ℕ) (es : Pairs) → Free d p → V (under q d es) p ≡ None
value_at-no_text d q p [] k = refl
value_at-no_text d q p (e ∷ es) k = rw (no_text d q e.0 p k) (value_at-no_text d q p es k)

-- no pair has the key
abbrev pub NoKey : List ℕ → Pairs → Type 0
NoKey key [] = Unit {0}
NoKey key (e ∷ pairs) = (same e.0 key ≡ false) × NoKey key pairs

pub no_value : (key : List ℕ) (pairs : Pairs) → NoKey key pairs → V pairs key ≡ None
no_value key [] none = refl
no_value key (e ∷ pairs) none = rw none.0 (no_value key pairs none.1)

pub from_none : (key : List ℕ) (pairs : Pairs) → V pairs key ≡ None → NoKey key pairs
from_none key [] h = tt
from_none key (e ∷ pairs) h = elim (either (same e.0 key)) [
  | inl y ↦ let wrong = rw y at h in absurd (cc)
  | inr n ↦ (n, from_none key pairs (rw n at h))
]

-- the first key of ascending pairs comes once
pub first_once : (key : List ℕ) (v : ℕ) (pairs : Pairs) → Ascends ((key, v) ∷ pairs) → NoKey key pairs
first_once key v pairs ascends = elim (maybe (V pairs key)) [
  | inl none ↦ from_none key pairs none
  | inr some ↦
      let one = one_of simple_ascii pairs key some.0 some.1 in
      let own : one.0 ≡ key = exact_same one.0 key one.2 in
      let there = key_there pairs one.0 some.0 one.1.0 one.1.1 one.1.2 in
      absurd (ascends_apart ((key, v) ∷ pairs) ascends (inl (subst (λ k. Contains (map {B = List ℕ} (λ f. f.0) pairs) k) own there)))
]

pub kept_none : (key : List ℕ) (q : ℕ → Bool) (pairs : Pairs) → NoKey key pairs → V (filter (λ e. q e.1) pairs) key ≡ None
kept_none key q [] none = refl
kept_none key q (e ∷ pairs) none = elim (either (q e.1)) [
  | inl y ↦ rw (y, none.0) (kept_none key q pairs none.1)
  | inr n ↦ rw n (kept_none key q pairs none.1)
]

-- a value is one of those that a test picks, or else of the others
pub parted : (key : List ℕ) (q : ℕ → Bool) (pairs : Pairs) → Ascends pairs
    → V pairs key ≡ or_else (V (filter (λ e. not (q e.1)) pairs) key) (V (filter (λ e. q e.1) pairs) key)
parted key q [] ascends = refl
parted key q (e ∷ pairs) ascends = elim (either (same e.0 key)) [
  | inl y ↦
      let is : e.0 ≡ key = exact_same e.0 key y in
      let none : NoKey key pairs = subst (λ k. NoKey k pairs) is (first_once e.0 e.1 pairs ascends) in
      elim (either (q e.1)) [
        | inl t ↦ let out = kept_none key (λ v. not (q v)) pairs none in rw (t, y, out) refl
        | inr f ↦ rw (f, y) refl
      ]
  | inr n ↦ elim (either (q e.1)) [
    | inl t ↦ rw (t, n) (parted key q pairs ascends.1)
    | inr f ↦ rw (f, n) (parted key q pairs ascends.1)
  ]
]
