-- The place of a byte in a table.
use Rattle.std.proofs.Common.{◌≡◌, ℕ, zero, suc, ◌+◌, ◌-◌, ◌*◌, ◌/◌, ◌%◌, ◌<◌, ◌≤◌, List, [], ◌∷◌, ◌++◌, length, refl, sym, ◌∙◌, ap, subst, arith, true, Option, Some, None, get_or, take, drop, length-append, inl, inr}
use Rattle.std.specs.Prelude.{◌↔◌}
use Rattle.std.specs.List.{slice_index}
use Rattle.std.specs.Option.{IfSome, IfNone}
use Rattle.std.proofs.lemmas.Bool.{cases_lt, cases_eq, eq-eqb, ne_eqb, lt-ltb}
use Rattle.std.proofs.lemmas.List.{get_or-take, get_or-drop, length-take-le}
use Rattle.zerotrie_base.specs.Hashes.{f1, f2, IsPerfect, number_behind, number_of}
use Rattle.zerotrie_base.specs.Kind.{Kind, fold_byte, is_hashed}
use Rattle.zerotrie_base.specs.Branches.{IsTable}
use Rattle.zerotrie_base.specs.Branches.IsTable.{sorted, hashed}
use Rattle.zerotrie_base.specs.reader.Reading.{AlwaysRises, IsPlace, HasNoPlace}
use Rattle.zerotrie_base.proofs.NumberLemmas.Numbers.{pair_of}
use Rattle.zerotrie_base.proofs.MapLemmas.Kinds.{hashed_spans, spans_fold}
use Rattle.zerotrie_base.proofs.NodeLemmas.Tables.{rises_at, table_rises}

-- folds that rise, rise by one at least
rises_by : (kind : Kind) (xs : List ℕ) → AlwaysRises kind xs → (i d : ℕ) → i + d < length xs → fold_byte kind (get_or xs i 0) + d ≤ fold_byte kind (get_or xs (i + d) 0)
rises_by kind xs up i zero h = let e : i + 0 ≡ i = omega arith in rw e (omega arith)
rises_by kind xs up i (suc d) h =
    let e : i + suc d ≡ suc (i + d) = omega arith in
    let below = rises_by kind xs up i d (omega arith) in
    let next = up (i + d) (suc (i + d)) (omega arith) (omega arith) in
    rw e (omega arith)

-- where a fold can stand between the first and the last
pub bounded_place : (kind : Kind) (xs : List ℕ) (b k end : ℕ) → AlwaysRises kind xs → end + 1 ≡ length xs → k < length xs → fold_byte kind (get_or xs k 0) ≡ b
    → (k + fold_byte kind (get_or xs 0 0) ≤ b) × (b + (end - k) ≤ fold_byte kind (get_or xs end 0))
bounded_place kind xs b k end up n h is =
    let low = rises_by kind xs up 0 k (omega arith) in
    let high = rises_by kind xs up k (end - k) (omega arith) in
    let z : 0 + k ≡ k = omega arith in
    let e : k + (end - k) ≡ end = omega arith in
    let low' = subst (λ i. fold_byte kind (get_or xs 0 0) + k ≤ fold_byte kind (get_or xs i 0)) z low in
    let high' = subst (λ i. fold_byte kind (get_or xs k 0) + (end - k) ≤ fold_byte kind (get_or xs i 0)) e high in
    (omega arith, omega arith)

-- the middle of a table bounds the place of a fold
pub below_middle : (kind : Kind) (xs : List ℕ) (b mid k : ℕ) → AlwaysRises kind xs → k < length xs → fold_byte kind (get_or xs k 0) ≡ b → b < fold_byte kind (get_or xs mid 0) → k < mid
below_middle kind xs b mid k up h is above = elim (cases_lt k mid) [
  | inl less ↦ less
  | inr more ↦ elim (cases_lt mid k) [
    | inl later ↦ let f = up mid k later h in absurd (omega arith)
    | inr same ↦ let e : k ≡ mid = omega arith in let f = ap (λ i. fold_byte kind (get_or xs i 0)) e in absurd (omega arith)
  ]
]

pub above_middle : (kind : Kind) (xs : List ℕ) (b mid k : ℕ) → AlwaysRises kind xs → mid < length xs → fold_byte kind (get_or xs k 0) ≡ b → fold_byte kind (get_or xs mid 0) ≤ b → mid ≤ k
above_middle kind xs b mid k up h is low = elim (cases_lt k mid) [
  | inl less ↦ let f = up k mid less h in absurd (omega arith)
  | inr more ↦ more
]

-- if no hash is asked, the table is sorted
sorted_rises : (kind : Kind) (edges table : List ℕ) → IsTable kind edges table → (is_hashed kind (length edges) ≡ true → length edges < length table → ⊥) → AlwaysRises kind edges
sorted_rises kind edges table (sorted plain up) none = rises_at kind edges (table_rises plain (sorted plain up))
sorted_rises kind edges table (hashed {qs = qs} wide perfect) none = absurd (none wide (let all = length-append qs edges in let n = perfect.a_q_each in omega arith))

pub none_sorted : (kind : Kind) (n b : ℕ) (behind edges table : List ℕ) (r : Option ℕ) → edges ≡ take n behind → length edges ≡ n → (is_hashed kind n ≡ true → n < length table → ⊥)
    → IfNone r (AlwaysRises kind edges → HasNoPlace kind (length edges) edges b) → IfNone r (IsTable kind (take n behind) table → HasNoPlace kind n behind b)
none_sorted kind n b behind edges table (Some place) front count plain none = tt
none_sorted kind n b behind edges table None front count plain none = λ is k h e. (
    let up = sorted_rises kind edges table (subst (λ es. IsTable kind es table) (sym front) is) (subst (λ k. is_hashed kind k ≡ true → k < length table → ⊥) (sym count) plain) in
    none up k (omega arith) (ap (λ x. fold_byte kind (get_or x k 0)) front ∙ ap (fold_byte kind) (get_or-take n behind k 0 h) ∙ e)
    )

-- a place is below the number of places, for which 0 stands if there are 256
place_within : (b q m n : ℕ) → b < 256 → (m ≡ 0 → 256 ≤ n) → m ≤ n → f2 b q m < n
place_within b q zero n byte whole h = let all = whole refl in omega arith
place_within b q (suc m) n byte whole h = omega arith

-- the bytes of a hashed table answer a place that has the byte
answered : (p n : ℕ) (rest : List ℕ) (b place : ℕ) → n ≤ 256 → b < 256 → number_behind p n rest b ≡ Some place → (place < n) × (get_or rest (n + place) 0 ≡ b)
answered p zero rest b place most byte e = absurd (cc)
answered p (suc m) rest b place most byte e =
    let q = slice_index rest (f1 b p (suc m % 256)) in
    let there = f2 b q (suc m % 256) in
    let some = lt-ltb 0 (suc m) (omega arith) in
    let below : there < suc m = place_within b q (suc m % 256) (suc m) byte (λ z. omega arith) (omega arith) in
    elim (cases_eq (slice_index rest (suc m + there)) b) [
      | inl same ↦ (let is : there ≡ place = pair_of there place (rw (eq-eqb _ b same, some) at e) in (subst (λ k. k < suc m) is below, ap (λ k. slice_index rest (suc m + k)) (sym is) ∙ same))
      | inr other ↦ absurd (let gone : number_behind p (suc m) rest b ≡ None = rw (ne_eqb _ b other, some) refl in cc)
    ]

pub hashed_some : (kind : Kind) (n b : ℕ) (behind table : List ℕ) (r : Option ℕ) → n ≤ 256 → b < 256 → length table ≡ 2 * n + 1 → drop (length table - n) table ≡ take n behind
    → r ≡ number_of table b → IfSome r (IsPlace kind n behind b)
hashed_some kind n b behind table None most byte long ends e = tt
hashed_some kind n b behind [] (Some place) most byte long ends e = absurd (omega arith)
hashed_some kind n b behind (p ∷ rest) (Some place) most byte long ends e =
    let half : length rest / 2 ≡ n = omega arith in
    let at = answered p n rest b place most byte (ap (λ k. number_behind p k rest b) (sym half) ∙ sym e) in
    let index : length (p ∷ rest) - n + place ≡ suc (n + place) = omega arith in
    let here : get_or behind place 0 ≡ b =
    sym (get_or-take n behind place 0 at.0)
    ∙ ap (λ t. get_or t place 0) (sym ends)
    ∙ get_or-drop (length (p ∷ rest) - n) (p ∷ rest) place 0
    ∙ ap (λ k. get_or (p ∷ rest) k 0) index
    ∙ at.1 in
    (at.0, ap (fold_byte kind) here)

none_hashed : (kind : Kind) (b : ℕ) (edges table : List ℕ) → length edges < length table
    → ((p : ℕ) (qs keys : List ℕ) → table ≡ p ∷ (qs ++ keys) → IsPerfect p qs keys → (i : ℕ) → i < length keys → get_or keys i 0 ≡ b → ⊥)
    → IsTable kind edges table → HasNoPlace kind (length edges) edges b
none_hashed kind b edges table long none (sorted plain up) k h same = absurd (omega arith)
none_hashed kind b edges table long none (hashed {p = p} {qs = qs} wide perfect) k h same =
    let keeps = spans_fold kind (hashed_spans kind (length edges) wide) in
    none p qs edges refl perfect k h (sym (keeps (get_or edges k 0)) ∙ same ∙ keeps b)

-- if a hashed table answers none, it has none
pub hashed_none : (kind : Kind) (n b : ℕ) (behind table : List ℕ) (r : Option ℕ) → n ≤ length behind → n < length table
    → ((p : ℕ) (qs keys : List ℕ) → table ≡ p ∷ (qs ++ keys) → IsPerfect p qs keys → (i : ℕ) → (r ≡ Some i) ↔ ((i < length keys) × (get_or keys i 0 ≡ b)))
    → IfNone r (IsTable kind (take n behind) table → HasNoPlace kind n behind b)
hashed_none kind n b behind table (Some place) within long exactly = tt
hashed_none kind n b behind table None within long exactly = λ is k h e. (
    let count : length (take n behind) ≡ n = length-take-le n behind within in
    none_hashed kind b (take n behind) table (omega arith) (λ p qs keys t perfect i inside same. let there = (exactly p qs keys t perfect i).1 (inside, same) in absurd (cc)) is k (omega arith)
    (ap (fold_byte kind) (get_or-take n behind k 0 h) ∙ e)
    )
