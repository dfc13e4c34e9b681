-- Items and the pairs that they are.
use Rattle.std.proofs.Common.{◌≡◌, ℕ, zero, suc, ◌+◌, ◌-◌, ◌<◌, ◌≤◌, List, [], ◌∷◌, ◌++◌, length, refl, sym, ◌∙◌, ap, subst, arith, get_or, take, Bor, map, inl, inr, append_assoc, Less, Equal, Greater, Ordering, Some, Bool, true, false, IsTrue, nat_lt, ◌*◌, ◌/◌, ◌%◌, ◌^◌}
use Rattle.std.specs.Ordering.{nat_cmp, ordering_then, partial_ordering_then, is_some_and, is_lt}
use Rattle.std.specs.Cmp.Lexicographic.{slice_cmp, slice_partial_cmp}
use Rattle.std.proofs.lemmas.Nat.{pow-add}
use Rattle.std.specs.Str.{IsAscii, IsNotAscii}
use Rattle.std.specs.Bool.{MatchBool}
use Rattle.std.specs.List.{list_all}
use Rattle.std.proofs.lemmas.Bool.{cases_lt, lt-ltb, le-ltb}
use Rattle.std.proofs.lemmas.List.Sums.{list_all-from_AllPass}
use Rattle.std.proofs.lemmas.List.Folds.{list_all_at}
use Rattle.std.proofs.lemmas.List.{take_more, map-append, get_or_default, get_or_past}
use Rattle.std.proofs.Math.Nat.{pow-suc}
use Rattle.zerotrie_base.specs.Branches.{blocks}
use Rattle.zerotrie_base.specs.Maps.{Ascends}
use Rattle.zerotrie_base.specs.Items.{Items, pairs_of}
use Rattle.zerotrie_base.specs.plain.Encoding.{BeginsAll}

pub BeginsAll-push : (depth byte : ℕ) (xs : Items) (e : Bor (List ℕ) × ℕ) → BeginsAll depth byte xs → depth < length e.0.now → get_or e.0.now depth 0 ≡ byte → BeginsAll depth byte (xs ++ e ∷ [])
BeginsAll-push depth byte [] e h a b = (a, b, tt)
BeginsAll-push depth byte (x ∷ xs) e h a b = (h.0, h.1, BeginsAll-push depth byte xs e h.2 a b)

-- what stands past the end of the items
abbrev pub no_item : Bor (List ℕ) × ℕ
no_item = (record { ref_ptr = (0, 0); now = [] }, 0)

-- the key at a place, and none past the end
abbrev pub key_at : Items → ℕ → List ℕ
key_at items i = (get_or items i no_item).0.now

-- the first n keys ascend
abbrev pub AscendsTo : ℕ → Items → Type 0
AscendsTo n items = (i : ℕ) → suc i < n → slice_cmp nat_cmp (key_at items i) (key_at items (suc i)) ≡ Less

pub ascends_all : (items : Items) → AscendsTo (length items) items → Ascends (pairs_of items)
ascends_all [] h = tt
ascends_all (e ∷ []) h = (tt, tt)
ascends_all (e ∷ f ∷ items) h = (h 0 (omega arith), ascends_all (f ∷ items) (λ i l. h (suc i) (omega arith)))

pub ascends_at : (items : Items) → Ascends (pairs_of items) → (i : ℕ) → suc i < length items → slice_cmp nat_cmp (key_at items i) (key_at items (suc i)) ≡ Less
ascends_at [] up i h = absurd (omega arith)
ascends_at (e ∷ []) up i h = absurd (omega arith)
ascends_at (e ∷ f ∷ items) up zero h = up.0
ascends_at (e ∷ f ∷ items) up (suc i) h = ascends_at (f ∷ items) up.1 i (omega arith)

power_of : (place : ℕ) → 2 ^ (8 * place) ≡ 256 ^ place
power_of zero = refl
power_of (suc p) =
    let e : 8 * suc p ≡ 8 * p + 8 = omega arith in
    ap (λ k. 2 ^ k) e ∙ pow-add 2 (8 * p) 8 ∙ ap (λ x. x * 256) (power_of p) ∙ sym (pow-suc 256 p)

-- the byte of a weight, by shifting
pub shifted : (o place : ℕ) → o / 2 ^ (8 * place) ≡ o / 256 ^ place
shifted o place = ap (λ p. o / p) (power_of place)

-- one offset more
pub block_more : (f : ℕ → ℕ) (offsets before out out' : List ℕ) (i b : ℕ) → out' ≡ out ++ b ∷ [] → out ≡ before ++ map f (take i offsets) → i < length offsets → b ≡ f (get_or offsets i 0) → out' ≡ before ++ map f (take (i + 1) offsets)
block_more f offsets before out out' i b pushed is h e =
    pushed ∙ ap (λ x. x ++ b ∷ []) is ∙ append_assoc before (map f (take i offsets)) (b ∷ [])
    ∙ ap (λ x. before ++ x) (ap (λ x. map f (take i offsets) ++ x ∷ []) e ∙ sym (map-append f (take i offsets) (get_or offsets i 0 ∷ [])) ∙ ap (map f) (sym (take_more offsets i 0 h)))

-- one block more
pub block_before : (offsets before out out' : List ℕ) (place bytes : ℕ) → 0 < place → out' ≡ out ++ map (λ o. o / 256 ^ (place - 1) % 256) offsets → out ++ blocks place offsets ≡ before ++ blocks bytes offsets → out' ++ blocks (place - 1) offsets ≡ before ++ blocks bytes offsets
block_before offsets before out out' zero bytes h pushed is = absurd (omega arith)
block_before offsets before out out' (suc p) bytes h pushed is =
    let e : suc p - 1 ≡ p = omega arith in
    let block : out' ≡ out ++ map (λ o. o / 256 ^ p % 256) offsets = subst (λ q. out' ≡ out ++ map (λ o. o / 256 ^ q % 256) offsets) e pushed in
    ap (λ q. out' ++ blocks q offsets) e ∙ ap (λ x. x ++ blocks p offsets) block ∙ append_assoc out (map (λ o. o / 256 ^ p % 256) offsets) (blocks p offsets) ∙ is

some_then : (a b : Ordering) → partial_ordering_then (Some a) (Some b) ≡ Some (ordering_then a b)
some_then Less b = refl
some_then Equal b = refl
some_then Greater b = refl

partial_is : (xs ys : List ℕ) → slice_partial_cmp (λ x y. Some (nat_cmp x y)) xs ys ≡ Some (slice_cmp nat_cmp xs ys)
partial_is [] [] = refl
partial_is [] (y ∷ ys) = refl
partial_is (x ∷ xs) [] = refl
partial_is (x ∷ xs) (y ∷ ys) = ap (partial_ordering_then (Some (nat_cmp x y))) (partial_is xs ys) ∙ some_then (nat_cmp x y) (slice_cmp nat_cmp xs ys)

is_less : (o : Ordering) → (IsTrue (is_lt o) → o ≡ Less) × (o ≡ Less → IsTrue (is_lt o))
is_less Less = (λ h. refl, λ h. refl)
is_less Equal = (λ h. absurd (cc), λ h. absurd (cc))
is_less Greater = (λ h. absurd (cc), λ h. absurd (cc))

-- what `<` says of two keys
pub below_by_less : (xs ys : List ℕ) (r : Bool) → r ≡ is_some_and is_lt (slice_partial_cmp (λ x y. Some (nat_cmp x y)) xs ys) → (IsTrue r → slice_cmp nat_cmp xs ys ≡ Less) × (slice_cmp nat_cmp xs ys ≡ Less → IsTrue r)
below_by_less xs ys r e = rw (e, partial_is xs ys) (is_less (slice_cmp nat_cmp xs ys))

-- one key more
pub ascends_more : (items : Items) (n : ℕ) → 1 ≤ n → AscendsTo n items → slice_cmp nat_cmp (key_at items (n - 1)) (key_at items n) ≡ Less → AscendsTo (n + 1) items
ascends_more items n one h here i l =
    elim (cases_lt (suc i) n) [
      | inl below ↦ h i below
      | inr last ↦
          let e : n - 1 ≡ i = omega arith in
          let f : n ≡ suc i = omega arith in
          subst (λ k. slice_cmp nat_cmp (key_at items i) (key_at items k) ≡ Less) f (subst (λ k. slice_cmp nat_cmp (key_at items k) (key_at items n) ≡ Less) e here)
    ]

-- the test fails at two keys
pub ascends_not : (items : Items) (n : ℕ) → 1 ≤ n → n < length items → (slice_cmp nat_cmp (key_at items (n - 1)) (key_at items n) ≡ Less → ⊥) → Ascends (pairs_of items) → ⊥
ascends_not items zero one h wrong up = absurd (omega arith)
ascends_not items (suc n) one h wrong up = let e : suc n - 1 ≡ n = omega arith in wrong (subst (λ k. slice_cmp nat_cmp (key_at items k) (key_at items (suc n)) ≡ Less) (sym e) (ascends_at items up n h))

-- what a test of bytes for ASCII answers
pub ascii_told : (r : Bool) (key : List ℕ) → MatchBool r (IsAscii key) (IsNotAscii key) → r ≡ list_all (λ b. nat_lt b 128) key
ascii_told true key h = sym (list_all-from_AllPass (λ b. nat_lt b 128) key (λ k d below. rw (get_or_default key k d 0 below) (lt-ltb _ 128 (h k))))
ascii_told false key h = elim (cases_lt h.0 (length key)) [
  | inl within ↦ sym (list_all_at (λ b. nat_lt b 128) key h.0 0 within (le-ltb (get_or key h.0 0) 128 h.1))
  | inr past ↦ absurd (let zero_there = get_or_past key h.0 0 past in let high = h.1 in omega arith)
]
