-- Texts in order, and where each stands.
use Rattle.std.proofs.Common.{◌≡◌, ℕ, ◌+◌, ◌<◌, List, [], ◌∷◌, ◌++◌, refl, sym, ap, subst, ◌∙◌, arith, Bool, true, false, inl, inr, Some, None, length, get_or, map, suc, Ordering}
use Rattle.std.specs.Prelude.{◌⊎◌, ◌||◌}
use Rattle.std.specs.List.{flat_map}
use Rattle.std.specs.Ordering.{nat_cmp, match_ordering, is_eq}
use Rattle.std.specs.Cmp.Lexicographic.{slice_cmp}
use Rattle.std.specs.declared.cmp.Ordering.TheVariants.{Less, Equal, Greater}
use Rattle.std.proofs.lemmas.Map.Text.{is_eq-slice_cmp}
use Rattle.zerotrie_core.specs.Maps.{Pairs}
use Rattle.zerotrie_core.proofs.CallerLemmas.{exact_same, exact_itself}
use Rattle.zerotrie.specs.dense.Rows.{Rows, row_of, keys, placed, put_text, put_texts, suffixes}
use Rattle.zerotrie.proofs.TextLemmas.{V, same, either}

-- whether a text is one of some
abbrev pub among : List (List ℕ) → List ℕ → Bool
among [] s = false
among (t ∷ ts) s = same t s || among ts s

or_true : (a : Bool) → (a || true) ≡ true
or_true true = refl
or_true false = refl

pub of_or : (a b : Bool) → (a || b) ≡ true → (a ≡ true) ⊎ (b ≡ true)
of_or true b h = inl refl
of_or false b h = inr h

among_later : (t : List ℕ) (ts : List (List ℕ)) (s : List ℕ) → among ts s ≡ true → among (t ∷ ts) s ≡ true
among_later t ts s h = ap (λ b. same t s || b) h ∙ or_true (same t s)

among_first : (t : List ℕ) (ts : List (List ℕ)) (s : List ℕ) → same t s ≡ true → among (t ∷ ts) s ≡ true
among_first t ts s h = ap (λ b. b || among ts s) h

equal_same : (x t : List ℕ) → slice_cmp nat_cmp x t ≡ Equal → same x t ≡ true
equal_same x t h = sym (is_eq-slice_cmp x t) ∙ ap is_eq h

-- a text that is put is there, and the others stay
kept_by : (x t : List ℕ) (S : List (List ℕ)) (s : List ℕ) (o : Ordering) → (among S s ≡ true → among (put_text x S) s ≡ true) → among (t ∷ S) s ≡ true
    → among (match_ordering o (x ∷ t ∷ S) (t ∷ S) (t ∷ put_text x S)) s ≡ true
kept_by x t S s Less later h = among_later x (t ∷ S) s h
kept_by x t S s Equal later h = h
kept_by x t S s Greater later h = elim (of_or (same t s) (among S s) h) [
  | inl y ↦ among_first t (put_text x S) s y
  | inr more ↦ among_later t (put_text x S) s (later more)
]

put_kept : (x : List ℕ) (S : List (List ℕ)) (s : List ℕ) → among S s ≡ true → among (put_text x S) s ≡ true
put_kept x [] s h = absurd (cc)
put_kept x (t ∷ S) s h = kept_by x t S s (slice_cmp nat_cmp x t) (put_kept x S s) h

there_by : (x t : List ℕ) (S : List (List ℕ)) (o : Ordering) → among (put_text x S) x ≡ true → slice_cmp nat_cmp x t ≡ o
    → among (match_ordering o (x ∷ t ∷ S) (t ∷ S) (t ∷ put_text x S)) x ≡ true
there_by x t S Less later e = among_first x (t ∷ S) x (exact_itself x)
there_by x t S Equal later e =
    let is : x ≡ t = exact_same x t (equal_same x t e) in
    among_first t S x (subst (λ y. same y x ≡ true) is (exact_itself x))
there_by x t S Greater later e = among_later t (put_text x S) x later

put_there : (x : List ℕ) (S : List (List ℕ)) → among (put_text x S) x ≡ true
put_there x [] = among_first x [] x (exact_itself x)
put_there x (t ∷ S) = there_by x t S (slice_cmp nat_cmp x t) (put_there x S) refl

puts_kept : (xs S : List (List ℕ)) (s : List ℕ) → among S s ≡ true → among (put_texts xs S) s ≡ true
puts_kept [] S s h = h
puts_kept (x ∷ xs) S s h = puts_kept xs (put_text x S) s (put_kept x S s h)

puts_there : (xs S : List (List ℕ)) (s : List ℕ) → among xs s ≡ true → among (put_texts xs S) s ≡ true
puts_there [] S s h = absurd (cc)
puts_there (x ∷ xs) S s h = elim (of_or (same x s) (among xs s) h) [
  | inl y ↦ let is : x ≡ s = exact_same x s y in puts_kept xs (put_text x S) s (subst (λ t. among (put_text x S) t ≡ true) is (put_there x S))
  | inr more ↦ puts_there xs (put_text x S) s more
]

among_left : (xs ys : List (List ℕ)) (s : List ℕ) → among xs s ≡ true → among (xs ++ ys) s ≡ true
among_left [] ys s h = absurd (cc)
among_left (x ∷ xs) ys s h = elim (of_or (same x s) (among xs s) h) [
  | inl y ↦ among_first x (xs ++ ys) s y
  | inr more ↦ among_later x (xs ++ ys) s (among_left xs ys s more)
]

among_right : (xs ys : List (List ℕ)) (s : List ℕ) → among ys s ≡ true → among (xs ++ ys) s ≡ true
among_right [] ys s h = h
among_right (x ∷ xs) ys s h = among_later x (xs ++ ys) s (among_right xs ys s h)

among_keys : (row : Pairs) (s : List ℕ) (v : ℕ) → V row s ≡ Some v → among (keys row) s ≡ true
among_keys [] s v h = absurd (cc)
among_keys (e ∷ row) s v h = elim (either (same e.0 s)) [
  | inl y ↦ among_first e.0 (keys row) s y
  | inr n ↦ among_later e.0 (keys row) s (among_keys row s v (rw n at h))
]

among_rows : (rows : Rows) (p s : List ℕ) (v : ℕ) → V (row_of rows p) s ≡ Some v → among (flat_map (λ row. keys row.1) rows) s ≡ true
among_rows [] p s v h = absurd (cc)
among_rows (row ∷ rows) p s v h = elim (either (same row.0 p)) [
  | inl y ↦ among_left (keys row.1) (flat_map (λ r. keys r.1) rows) s (among_keys row.1 s v (rw y at h))
  | inr n ↦ among_right (keys row.1) (flat_map (λ r. keys r.1) rows) s (among_rows rows p s v (rw n at h))
]

-- each suffix of a row is one of all suffixes
pub among_suffixes : (rows : Rows) (p s : List ℕ) (v : ℕ) → V (row_of rows p) s ≡ Some v → among (suffixes rows) s ≡ true
unfolding suffixes
among_suffixes rows p s v h = puts_there (flat_map (λ row. keys row.1) rows) [] s (among_rows rows p s v h)

-- Where a text stands among some, and what a function of texts has there.
pub record Stands (k : ℕ) (S : List (List ℕ)) (s : List ℕ) (j : ℕ) : Type 0 where
  pub place : ℕ
  pub is : j ≡ k + place
  pub below : place < length S
  pub at : (f : List ℕ → ℕ) (x : ℕ) → get_or (map f S) place x ≡ f s

pub stands : (k : ℕ) (S : List (List ℕ)) (s : List ℕ) (j : ℕ) → V (placed k S) s ≡ Some j → Stands k S s j
stands k [] s j h = absurd (cc)
stands k (t ∷ S) s j h = elim (either (same t s)) [
  | inl y ↦
      let first = rw y at h in
      let is : t ≡ s = exact_same t s y in
      record { place = 0; is = (let e : k ≡ j = cc in omega arith); below = omega arith; at = λ f x. ap f is }
  | inr n ↦
      let r = stands (k + 1) S s j (rw n at h) in
      record { place = suc r.place; is = omega (arith, r.is); below = omega (arith, r.below); at = λ f x. r.at f x }
]

pub none_stands : (k : ℕ) (S : List (List ℕ)) (s : List ℕ) → V (placed k S) s ≡ None → among S s ≡ false
none_stands k [] s h = refl
none_stands k (t ∷ S) s h = elim (either (same t s)) [
  | inl y ↦ let wrong = rw y at h in absurd (cc)
  | inr n ↦ rw n (none_stands (k + 1) S s (rw n at h))
]
