-- Items that are in the order of a kind, or that are not.
use Rattle.std.proofs.Common.{◌≡◌, ℕ, zero, suc, ◌+◌, ◌<◌, ◌⊎◌, inl, inr, List, [], ◌∷◌, length, refl, sym, subst, arith, ap, map, get_or}
use Rattle.std.proofs.lemmas.Bool.{eq-eqb, ne_eqb, cases_eq}
use Rattle.zerotrie_base.specs.Kind.{Kind, simple_ascii, ignore_case, perfect_hash, extended_capacity, fold_byte}
use Rattle.zerotrie_base.specs.Maps.{Pairs, Ascends, AscendsIn, folded, IsCaseConsistent}
use Rattle.zerotrie_base.proofs.CallerLemmas.{compare_first}
use Rattle.zerotrie_build.specs.Order.{Before, Ordered, PartInCase}
use Rattle.zerotrie_build.specs.Refused.{key_at, DifferInCase}
use Rattle.zerotrie_build.proofs.ItemLemmas.{Below}
use Rattle.zerotrie_build.proofs.OrderLemmas.Parting.{common}
use Rattle.zerotrie_build.proofs.OrderLemmas.Sorting.{less_is, equal_is}

-- in a kind with case the pairs are their folds
folded_plain : (kind : Kind) → ((b : ℕ) → fold_byte kind b ≡ b) → (key : List ℕ) → map (fold_byte kind) key ≡ key
folded_plain kind keeps [] = refl
folded_plain kind keeps (b ∷ key) = rw (keeps b, folded_plain kind keeps key) refl

plain_pairs : (kind : Kind) → ((b : ℕ) → fold_byte kind b ≡ b) → (pairs : Pairs) → folded kind pairs ≡ pairs
plain_pairs kind keeps [] = refl
plain_pairs kind keeps (e ∷ pairs) = rw (folded_plain kind keeps e.0, plain_pairs kind keeps pairs) refl

-- The order of a kind is that of the folds.
pub folds_ascend : (kind : Kind) (pairs : Pairs) → AscendsIn kind pairs → Ascends (folded kind pairs)
folds_ascend simple_ascii pairs up = subst Ascends (sym (plain_pairs simple_ascii (λ b. refl) pairs)) up
folds_ascend ignore_case pairs up = up
folds_ascend perfect_hash pairs up = subst Ascends (sym (plain_pairs perfect_hash (λ b. refl) pairs)) up
folds_ascend extended_capacity pairs up = subst Ascends (sym (plain_pairs extended_capacity (λ b. refl) pairs)) up

pub ascend_folds : (kind : Kind) (pairs : Pairs) → Ascends (folded kind pairs) → AscendsIn kind pairs
ascend_folds simple_ascii pairs up = subst Ascends (plain_pairs simple_ascii (λ b. refl) pairs) up
ascend_folds ignore_case pairs up = up
ascend_folds perfect_hash pairs up = subst Ascends (plain_pairs perfect_hash (λ b. refl) pairs) up
ascend_folds extended_capacity pairs up = subst Ascends (plain_pairs extended_capacity (λ b. refl) pairs) up

before_folds : (kind : Kind) (key next : List ℕ) → Before kind key next → Below (map (fold_byte kind) key) (map (fold_byte kind) next)
before_folds kind [] [] h = absurd h
before_folds kind (a ∷ key) [] h = absurd h
before_folds kind [] (b ∷ next) h = refl
before_folds kind (a ∷ key) (b ∷ next) (inl less) = rw (less_is (fold_byte kind a) (fold_byte kind b) less) refl
before_folds kind (a ∷ key) (b ∷ next) (inr r) = rw (equal_is (fold_byte kind a) (fold_byte kind b) (ap (fold_byte kind) r.0)) (before_folds kind key next r.1)

-- Pairs in the order of a kind ascend in it.
pub ordered_ascends_in : (kind : Kind) (pairs : Pairs) → Ordered kind pairs → AscendsIn kind pairs
ordered_ascends_in kind pairs up = ascend_folds kind pairs (each pairs up)
  where
    each : (es : Pairs) → Ordered kind es → Ascends (folded kind es)
    each [] up = tt
    each (e ∷ []) up = (tt, tt)
    each (e ∷ f ∷ es) up = (before_folds kind e.0 f.0 up.0, each (f ∷ es) up.1)

-- a key whose folds are below comes before, or the two part in case
folds_before : (kind : Kind) (key next : List ℕ) → Below (map (fold_byte kind) key) (map (fold_byte kind) next) → Before kind key next ⊎ PartInCase kind key next
folds_before kind [] [] h = absurd (cc)
folds_before kind (a ∷ key) [] h = absurd (cc)
folds_before kind [] (b ∷ next) h = inl tt
folds_before kind (a ∷ key) (b ∷ next) h =
    elim (compare_first (fold_byte kind a) (fold_byte kind b) (map (fold_byte kind) key) (map (fold_byte kind) next) h) [
      | inl less ↦ inl (inl less)
      | inr same ↦ elim (cases_eq a b) [
        | inr other ↦ inr (inl (other, same.0))
        | inl equal ↦ elim (folds_before kind key next same.1) [ inl before ↦ inl (inr (equal, before)) | inr case ↦ inr (inr (equal, case)) ]
      ]
    ]

each_below : (pairs : Pairs) (i : ℕ) → Ascends pairs → suc i < length pairs → Below (key_at pairs i) (key_at pairs (suc i))
each_below [] i up h = absurd (let g : suc i < 0 = h in omega arith)
each_below (e ∷ []) i up h = absurd (let g : suc i < 1 = h in omega arith)
each_below (e ∷ f ∷ pairs) zero up h = up.0
each_below (e ∷ f ∷ pairs) (suc i) up h = each_below (f ∷ pairs) i up.1 (let g : suc (suc i) < suc (suc (length pairs)) = h in let r : suc i < suc (length pairs) = omega arith in r)

key_folded : (kind : Kind) (pairs : Pairs) (i : ℕ) → i < length pairs → key_at (folded kind pairs) i ≡ map (fold_byte kind) (key_at pairs i)
key_folded kind [] i h = absurd (let g : i < 0 = h in omega arith)
key_folded kind (e ∷ pairs) zero h = refl
key_folded kind (e ∷ pairs) (suc i) h = key_folded kind pairs i (let g : suc i < suc (length pairs) = h in omega arith)

length_folded : (kind : Kind) (pairs : Pairs) → length (folded kind pairs) ≡ length pairs
length_folded kind [] = refl
length_folded kind (e ∷ pairs) = ap suc (length_folded kind pairs)

-- Neighbours of which neither comes before the next nor parts from it in case do not ascend.
pub unsorted_at : (kind : Kind) (pairs : Pairs) (i : ℕ) → suc i < length pairs → (Before kind (key_at pairs i) (key_at pairs (suc i)) → ⊥) → (PartInCase kind (key_at pairs i) (key_at pairs (suc i)) → ⊥) → AscendsIn kind pairs → ⊥
unsorted_at kind pairs i within late case up =
    let more : suc i < length (folded kind pairs) = let n = length_folded kind pairs in omega arith in
    let below = each_below (folded kind pairs) i (folds_ascend kind pairs up) more in
    let first = key_folded kind pairs i (omega arith) in
    let second = key_folded kind pairs (suc i) within in
    let here = subst (λ k. Below k (map (fold_byte kind) (key_at pairs (suc i)))) first (subst (Below (key_at (folded kind pairs) i)) second below) in
    elim (folds_before kind (key_at pairs i) (key_at pairs (suc i)) here) [ inl before ↦ late before | inr parts ↦ case parts ]

-- keys that part in case differ in case
differ_there : (kind : Kind) (key next : List ℕ) → PartInCase kind key next → DifferInCase kind key next
differ_there kind [] next h same = h
differ_there kind (a ∷ key) [] h same = h
differ_there kind (a ∷ key) (b ∷ next) h same =
    elim h [
      | inl here ↦ (let s = rw (eq-eqb (fold_byte kind a) (fold_byte kind b) here.1, ne_eqb a b here.0) at same in omega arith)
      | inr later ↦ (
          let f = ap (fold_byte kind) later.0 in
          let s = rw (eq-eqb (fold_byte kind a) (fold_byte kind b) f, eq-eqb a b later.0) at same in
          differ_there kind key next later.1 (omega arith))
    ]

pub mixed_at : (kind : Kind) (pairs : Pairs) (i : ℕ) → suc i < length pairs → PartInCase kind (key_at pairs i) (key_at pairs (suc i)) → IsCaseConsistent kind pairs → ⊥
mixed_at kind pairs i within parts agree = differ_there kind (key_at pairs i) (key_at pairs (suc i)) parts (agree i ([], 0) (omega arith) (suc i) ([], 0) within)

-- where the two part, if they part in case
pub parts_there : (kind : Kind) (key next : List ℕ) → PartInCase kind key next
    → (common key next < length key) × (common key next < length next) × (fold_byte kind (get_or key (common key next) 0) ≡ fold_byte kind (get_or next (common key next) 0))
parts_there kind [] next h = absurd h
parts_there kind (a ∷ key) [] h = absurd h
parts_there kind (a ∷ key) (b ∷ next) h = elim h [
  | inl here ↦ rw (ne_eqb a b here.0) (omega arith, omega arith, here.1)
  | inr later ↦
      let rest = parts_there kind key next later.1 in
      let n : 1 + common key next ≡ suc (common key next) = omega arith in
      rw (eq-eqb a b later.0, n) (omega (arith, rest.0), omega (arith, rest.1), rest.2)
]

pub parts_at : (kind : Kind) (key next : List ℕ) → common key next < length key → common key next < length next
    → fold_byte kind (get_or key (common key next) 0) ≡ fold_byte kind (get_or next (common key next) 0) → PartInCase kind key next
parts_at kind [] next first second same = let g : 0 < 0 = first in omega arith
parts_at kind (a ∷ key) [] first second same = let g : 0 < 0 = second in omega arith
parts_at kind (a ∷ key) (b ∷ next) first second same = elim (cases_eq a b) [
  | inr other ↦ inl (other, rw (ne_eqb a b other) at same)
  | inl equal ↦
      let n : 1 + common key next ≡ suc (common key next) = omega arith in
      let first' = rw (eq-eqb a b equal, n) at first in
      let second' = rw (eq-eqb a b equal, n) at second in
      let same' = rw (eq-eqb a b equal, n) at same in
      inr (equal, parts_at kind key next (omega arith) (omega arith) same')
]
