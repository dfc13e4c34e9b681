-- Keys that are there twice.
use Rattle.std.specs.Prelude.{◌≡◌, ℕ, ◌+◌, ◌<◌, ◌≤◌, ◌⊎◌, [], ◌∷◌, ◌++◌, List, length, map, get_or, take, drop, All, None, zero, suc}
use Rattle.std.specs.List.{flat_map}
use Rattle.std.proofs.Common.{refl, ap, sym, ◌∙◌, arith, subst, inl, inr}
use Rattle.std.proofs.lemmas.Bool.{cases_Bool, false≢true}
use Rattle.std.proofs.lemmas.List.{drop_more, drop_all, take-append-drop, map-append}
use Rattle.std.proofs.lemmas.List.Concat.{flat_map-cons}
use Rattle.zerotrie_base.specs.Kind.{simple_ascii}
use Rattle.zerotrie_base.specs.Maps.{Pairs, RepeatsKey, same_key, value_at}
use Rattle.zerotrie_base.proofs.CallerLemmas.{exact_itself}
use Rattle.zerotrie_index.specs.Layout.{AreBuckets}
use Rattle.zerotrie_index.specs.Hashed.{hashed_pairs}
use Rattle.zerotrie_index.specs.declared.builder.Hashed.{Hashed}
use Rattle.zerotrie_index.proofs.PermutedLemmas.{Has, has_first, has_later}
use Rattle.zerotrie_index.proofs.BucketLemmas.{none_before}

-- a key is that of the first pair, or of a later one
pub has_cases : (e : List ℕ × ℕ) (pairs : Pairs) (key : List ℕ) → Has (e ∷ pairs) key → (e.0 ≡ key) ⊎ Has pairs key
has_cases e pairs key c = go c.0 c.1 c.2
  where
    go : (k : ℕ) → k < length (map {B = List ℕ} (λ f. f.0) (e ∷ pairs)) → get_or (map {B = List ℕ} (λ f. f.0) (e ∷ pairs)) k key ≡ key → (e.0 ≡ key) ⊎ Has pairs key
    go zero below same = inl same
    go (suc k) below same = inr (k, (let g : suc k < suc (length (map {B = List ℕ} (λ f. f.0) pairs)) = below in omega arith), same)

pub has_none : (key : List ℕ) → Has [] key → ⊥
has_none key c = let g : c.0 < 0 = c.1 in omega arith

-- a key that is there has a value
pub has_value : (pairs : Pairs) (key : List ℕ) → Has pairs key → value_at simple_ascii pairs key ≡ None → ⊥
has_value [] key c none = has_none key c
has_value (e ∷ pairs) key c none =
    elim (cases_Bool (same_key simple_ascii e.0 key)) [
      | inl same ↦ let n = rw same at none in absurd (cc)
      | inr other ↦ has_value pairs key (elim (has_cases e pairs key c) [
        | inl is ↦ absurd (false≢true (sym other ∙ ap (λ k. same_key simple_ascii k key) is ∙ exact_itself key))
        | inr later ↦ later
      ]) (rw other at none)
    ]

-- keys in front and behind
pub has_left : (xs ys : Pairs) (key : List ℕ) → Has xs key → Has (xs ++ ys) key
has_left [] ys key c = absurd (has_none key c)
has_left (e ∷ xs) ys key c = elim (has_cases e xs key c) [ inl same ↦ has_first e (xs ++ ys) key same | inr later ↦ has_later e (xs ++ ys) key (has_left xs ys key later) ]

pub has_either : (xs ys : Pairs) (key : List ℕ) → Has (xs ++ ys) key → Has xs key ⊎ Has ys key
has_either [] ys key c = inr c
has_either (e ∷ xs) ys key c = elim (has_cases e (xs ++ ys) key c) [
  | inl same ↦ inl (has_first e xs key same)
  | inr later ↦ elim (has_either xs ys key later) [ inl front ↦ inl (has_later e xs key front) | inr back ↦ inr back ]
]

pub repeats_left : (xs ys : Pairs) → RepeatsKey xs → RepeatsKey (xs ++ ys)
repeats_left [] ys twice = absurd twice
repeats_left (e ∷ xs) ys twice = elim twice [ inl here ↦ inl (has_left xs ys e.0 here) | inr later ↦ inr (repeats_left xs ys later) ]

pub repeats_right : (xs ys : Pairs) → RepeatsKey ys → RepeatsKey (xs ++ ys)
repeats_right [] ys twice = twice
repeats_right (e ∷ xs) ys twice = inr (repeats_right xs ys twice)

-- pairs with distinct keys after others with other keys
pub distinct_append : (xs ys : Pairs) → (RepeatsKey xs → ⊥) → (RepeatsKey ys → ⊥) → All (λ e. value_at simple_ascii ys e.0 ≡ None) xs → RepeatsKey (xs ++ ys) → ⊥
distinct_append [] ys left right apart twice = right twice
distinct_append (e ∷ xs) ys left right apart twice = elim twice [
  | inl here ↦ elim (has_either xs ys e.0 here) [ inl front ↦ left (inl front) | inr back ↦ has_value ys e.0 back (apart zero e (omega arith)) ]
  | inr later ↦ distinct_append xs ys (λ t. left (inr t)) right (λ k d inside. apart (suc k) d (omega arith)) later
]

-- buckets whose keys are distinct have distinct keys in all
pub distinct_all : (seed count number start : ℕ) (buckets : List Pairs) (entries pool : List ℕ) → AreBuckets seed count number start buckets entries pool
    → All (λ b. RepeatsKey b → ⊥) buckets → RepeatsKey (flat_map (λ b. b) buckets) → ⊥
distinct_all seed count number start [] entries pool h each twice = twice
distinct_all seed count number start (bucket ∷ buckets) [] pool h each twice = absurd h
distinct_all seed count number start (bucket ∷ buckets) (entry ∷ entries) pool h each twice =
    distinct_append bucket (flat_map (λ b. b) buckets) (each zero bucket (omega arith))
    (distinct_all seed count (suc number) _ buckets entries h.1 h.6 (λ k d inside. each (suc k) d (omega arith)))
    (λ k d inside. none_before seed count (suc number) _ buckets entries h.1 h.6 (get_or bucket k d).0 (let at = (h.5 k d inside).0 in omega arith))
    (subst RepeatsKey (flat_map-cons (λ b. b) bucket buckets) twice)

-- no bucket of pairs with distinct keys has a key twice
pub distinct_each : (buckets : List Pairs) → (RepeatsKey (flat_map (λ b. b) buckets) → ⊥) → All (λ b. RepeatsKey b → ⊥) buckets
distinct_each [] distinct k d inside twice = absurd (omega arith)
distinct_each (bucket ∷ buckets) distinct zero d inside twice =
    distinct (subst RepeatsKey (sym (flat_map-cons (λ b. b) bucket buckets)) (repeats_left bucket (flat_map (λ b. b) buckets) twice))
distinct_each (bucket ∷ buckets) distinct (suc k) d inside twice =
    distinct_each buckets (λ t. distinct (subst RepeatsKey (sym (flat_map-cons (λ b. b) bucket buckets)) (repeats_right bucket (flat_map (λ b. b) buckets) t))) k d (omega arith) twice

-- hashed pairs

-- a key from one of the pairs on
pub has_dropped : (others : List Hashed) (key : List ℕ) (i : ℕ) (d : Hashed) → i < length others → ((get_or others i d).key.now ≡ key → ⊥)
    → Has (hashed_pairs (drop i others)) key → Has (hashed_pairs (drop (i + 1) others)) key
has_dropped others key i d inside other c =
    elim (has_cases ((get_or others i d).key.now, (get_or others i d).value) (hashed_pairs (drop (i + 1) others)) key
    (subst (λ x. Has (hashed_pairs x) key) (drop_more others i d inside) c)) [ inl same ↦ absurd (other same) | inr later ↦ later ]

pub has_past : (others : List Hashed) (key : List ℕ) (i : ℕ) → length others ≤ i → Has (hashed_pairs (drop i others)) key → ⊥
has_past others key i past c = has_none key (subst (λ x. Has (hashed_pairs x) key) (drop_all i others past) c)

pub has_hashed : (others : List Hashed) (i : ℕ) (d : Hashed) → i < length others → Has (hashed_pairs others) (get_or others i d).key.now
has_hashed [] i d inside = absurd (omega arith)
has_hashed (h ∷ others) zero d inside = has_first (h.key.now, h.value) (hashed_pairs others) h.key.now refl
has_hashed (h ∷ others) (suc i) d inside = has_later (h.key.now, h.value) (hashed_pairs others) (get_or others i d).key.now (has_hashed others i d (omega arith))

-- what a part repeats, the whole repeats
pub repeats_part : (at len : ℕ) (hashed : List Hashed) → RepeatsKey (hashed_pairs (take len (drop at hashed))) → RepeatsKey (hashed_pairs hashed)
repeats_part at len hashed twice =
    let pairs = λ (x : List Hashed) (y : List Hashed). map-append {B = List ℕ × ℕ} (λ h. (h.key.now, h.value)) x y in
    let back : RepeatsKey (hashed_pairs (drop at hashed)) =
    subst (λ x. RepeatsKey (hashed_pairs x)) (take-append-drop len (drop at hashed))
    (subst RepeatsKey (sym (pairs (take len (drop at hashed)) (drop len (drop at hashed)))) (repeats_left (hashed_pairs (take len (drop at hashed))) (hashed_pairs (drop len (drop at hashed))) twice)) in
    subst (λ x. RepeatsKey (hashed_pairs x)) (take-append-drop at hashed)
    (subst RepeatsKey (sym (pairs (take at hashed) (drop at hashed))) (repeats_right (hashed_pairs (take at hashed)) (hashed_pairs (drop at hashed)) back))
