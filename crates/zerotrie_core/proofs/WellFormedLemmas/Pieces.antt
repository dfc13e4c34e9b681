-- The targets of a branch, cut apart by offsets that rise.
use Rattle.std.proofs.Common.{◌≡◌, ℕ, zero, suc, ◌+◌, ◌-◌, ◌*◌, ◌/◌, ◌%◌, ◌^◌, ◌<◌, ◌≤◌, List, [], ◌∷◌, ◌++◌, length, refl, sym, ◌∙◌, ap, subst, arith, map, get_or, take, drop, append_assoc, lit<}
use Rattle.std.specs.List.{concat, range_with_len, prefix_len}
use Rattle.std.specs.Prelude.{nat_lt}
use Rattle.std.proofs.lemmas.List.{ext_get_or, get_or-drop, get_or-take, get_or-map, take-append-drop, length-take-le, length-map, take_all}
use Rattle.std.proofs.lemmas.List.FromFn.{length-map-range_with_len, get_or-map-range_with_len}
use Rattle.std.proofs.lemmas.Bool.{ne_eqb, eq-eqb, lt-ltb, le-ltb}
use Rattle.std.proofs.Math.Seq.{take-add}
use Rattle.std.proofs.Math.Arith.{mod-mul, digits_mod, digits_div}
use Rattle.std.proofs.Math.Nat.{pow-suc, mul_comm, mod-lt, mod-eq_of_lt, mul-le-mul_right, one-le-pow}
use Rattle.zerotrie_base.specs.Branches.{blocks, offsets}
use Rattle.zerotrie_base.specs.Nodes.{number_from, offset_in, targets_behind, begin_of, end_of}
use Rattle.zerotrie_core.specs.WellFormed.{greatest, longest_place}
use Rattle.zerotrie_core.specs.listing.Listed.{target_of}
use Rattle.zerotrie_core.specs.well_formed.Branching.{extent, InOrder, IsLongest}
use Rattle.zerotrie_base.proofs.NumberLemmas.Numbers.{IsBytes}
use Rattle.zerotrie_base.proofs.NodeLemmas.Offsets.{HasTargets, length-offsets, get_or-offsets, begin_is, end_is, next_end, ends_within, targets_are, target_between}

-- numbers that are read

shifted : (a x p r s : ℕ) → s ≡ (256 * 0 + x) * p + r → (256 * a + x) * p + r ≡ a * (p * 256) + s
shifted a x p r s e = rw e (omega arith)

nothing_more : (a : ℕ) → a ≡ a * 1 + 0
nothing_more a = omega arith

number_split : (a w count i : ℕ) (bytes : List ℕ) → number_from a w count i bytes ≡ a * 256 ^ w + number_from 0 w count i bytes
number_split a zero count i bytes = nothing_more a
number_split a (suc w) count i bytes =
    let x = get_or bytes i 0 in
    let rest = drop count bytes in
    rw (pow-suc 256 w) (number_split (256 * a + x) w count i rest ∙ shifted a x (256 ^ w) (number_from 0 w count i rest) _ (number_split (256 * 0 + x) w count i rest))

digit_below : (x p r : ℕ) → x < 256 → r < p → (256 * 0 + x) * p + r < p * 256
digit_below x p r h below = let up : x + 1 ≤ 256 = omega arith in let times = mul-le-mul_right p up in omega arith

bytes_drop : (n : ℕ) (bytes : List ℕ) → IsBytes bytes → IsBytes (drop n bytes)
bytes_drop n bytes h i = subst (λ x. x < 256) (sym (get_or-drop n bytes i 0)) (h (n + i))

number_below : (w count i : ℕ) (bytes : List ℕ) → IsBytes bytes → number_from 0 w count i bytes < 256 ^ w
number_below zero count i bytes h = omega arith
number_below (suc w) count i bytes h =
    let x = get_or bytes i 0 in
    rw (pow-suc 256 w) (subst (λ k. k < 256 ^ w * 256) (sym (number_split (256 * 0 + x) w count i (drop count bytes)))
    (digit_below x (256 ^ w) _ (h i) (number_below w count i (drop count bytes) (bytes_drop count bytes h))))

one_digit : (x p r n : ℕ) → 0 < p → r < p → x * p + r ≡ n % (p * 256) → (x ≡ n / p % 256) × (r ≡ n % p)
one_digit x p r n some h e =
    let split : x * p + r ≡ (n / p % 256) * p + n % p = e ∙ ap (λ k. n % k) (mul_comm p 256) ∙ mod-mul n {m = 256} {c = p} (lit< tt) some in (
      sym (digits_div x h) ∙ ap (λ k. k / p) split ∙ digits_div (n / p % 256) (mod-lt n some),
      sym (digits_mod x h) ∙ ap (λ k. k % p) split ∙ digits_mod (n / p % 256) (mod-lt n some),
    )

long_enough : (n w len : ℕ) → len ≡ suc w * n → (n ≤ len) × (len - n ≡ w * n)
long_enough n w len e = let more : suc w * n ≡ n + w * n = omega arith in (omega arith, omega arith)

zero_first : (x p r : ℕ) → (256 * 0 + x) * p + r ≡ x * p + r
zero_first x p r = omega arith

append_equal : (a b c d : List ℕ) → a ≡ b → c ≡ d → a ++ c ≡ b ++ d
append_equal a b c d e f = ap (λ x. x ++ c) e ∙ ap (λ x. b ++ x) f

nil_of : (bytes : List ℕ) → length bytes ≡ 0 → bytes ≡ []
nil_of [] e = refl
nil_of (b ∷ bytes) e = absurd (omega arith)

-- the bytes that read as these numbers are their blocks
pub blocks_from : (w : ℕ) (numbers bytes : List ℕ) → IsBytes bytes → length bytes ≡ w * length numbers
    → ((i : ℕ) → i < length numbers → number_from 0 w (length numbers) i bytes ≡ get_or numbers i 0 % 256 ^ w) → bytes ≡ blocks w numbers
blocks_from zero numbers bytes h len same = nil_of bytes (omega arith)
blocks_from (suc w) numbers bytes h len same =
    let n = length numbers in
    let rest = drop n bytes in
    let fits = long_enough n w (length bytes) len in
    let below = bytes_drop n bytes h in
    let digits : (i : ℕ) → i < n → (get_or bytes i 0 ≡ get_or numbers i 0 / 256 ^ w % 256) × (number_from 0 w n i rest ≡ get_or numbers i 0 % 256 ^ w) =
    λ i inside. one_digit (get_or bytes i 0) (256 ^ w) (number_from 0 w n i rest) (get_or numbers i 0) (one-le-pow w 256 (lit< tt)) (number_below w n i rest below)
    (sym (zero_first (get_or bytes i 0) (256 ^ w) _) ∙ sym (number_split (256 * 0 + get_or bytes i 0) w n i rest) ∙ same i inside ∙ ap (λ p. get_or numbers i 0 % p) (pow-suc 256 w)) in
    let first : take n bytes ≡ map (λ o. o / 256 ^ w % 256) numbers = ext_get_or 0 (take n bytes) (map (λ o. o / 256 ^ w % 256) numbers)
    (length-take-le n bytes fits.0 ∙ sym (length-map numbers (λ o. o / 256 ^ w % 256)))
    (λ i inside. (let l = length-take-le n bytes fits.0 in let less : i < n = omega arith in
    get_or-take n bytes i 0 less ∙ (digits i less).0 ∙ sym (get_or-map (λ o. o / 256 ^ w % 256) numbers i 0 0 less))) in
    let more : rest ≡ blocks w numbers = blocks_from w numbers rest below (length_rest n bytes ∙ fits.1) (λ i inside. (digits i inside).1) in
    sym (take-append-drop n bytes) ∙ append_equal (take n bytes) _ rest _ first more
  where
    length_rest : (k : ℕ) (xs : List ℕ) → length (drop k xs) ≡ length xs - k
    length_rest zero xs = omega arith
    length_rest (suc k) [] = omega arith
    length_rest (suc k) (x ∷ xs) = let l = length_rest k xs in omega arith

-- the targets of a branch, by its offsets
pub pieces : ℕ → ℕ → List ℕ → List (List ℕ)
pieces n w behind = map (target_of n w behind) (range_with_len 0 n)

pub length-pieces : (n w : ℕ) (behind : List ℕ) → length (pieces n w behind) ≡ n
unfolding pieces
length-pieces n w behind = length-map-range_with_len (target_of n w behind) 0 n

pub get_or-pieces : (n w : ℕ) (behind : List ℕ) (i : ℕ) → i < n → get_or (pieces n w behind) i [] ≡ target_of n w behind i
unfolding pieces
get_or-pieces n w behind i h = get_or-map-range_with_len (target_of n w behind) 0 n i i [] h (omega arith)

next_concat : (xs : List (List ℕ)) (i : ℕ) → i < length xs → concat (take (suc i) xs) ≡ concat (take i xs) ++ get_or xs i []
next_concat [] i h = absurd (omega arith)
next_concat (x ∷ xs) zero h = end_nil x
  where
    end_nil : (ys : List ℕ) → ys ++ [] ≡ ys
    end_nil [] = refl
    end_nil (y ∷ ys) = ap (λ zs. y ∷ zs) (end_nil ys)
next_concat (x ∷ xs) (suc i) h = ap (λ y. x ++ y) (next_concat xs i (omega arith)) ∙ sym (append_assoc x (concat (take i xs)) (get_or xs i []))

pub begins_at_end : (n w : ℕ) (behind : List ℕ) (i : ℕ) → suc i < n → begin_of n w behind (suc i) ≡ end_of n w behind i
begins_at_end n w behind i h =
    rw (ne_eqb (suc i) 0 (λ e. omega arith), ne_eqb i (n - 1) (λ e. omega arith)) (ap (offset_in n w behind) (let e : suc i - 1 ≡ i = omega arith in e))

from_none : (e : ℕ) → e - 0 ≡ e
from_none e = omega arith

join_at : (b e : ℕ) (xs : List ℕ) → b ≤ e → take b xs ++ take (e - b) (drop b xs) ≡ take e xs
join_at b e xs h = sym (take-add b (e - b) xs) ∙ ap (λ k. take k xs) (let f : b + (e - b) ≡ e = omega arith in f)

module _ (n w : ℕ) (behind : List ℕ) (some : 0 < n) (order : InOrder n w behind n) where
  up_to : (i : ℕ) → i < n → concat (take (suc i) (pieces n w behind)) ≡ take (end_of n w behind i) (targets_behind n w behind)
  up_to zero h =
      let inside : 0 < length (pieces n w behind) = subst (λ k. 0 < k) (sym (length-pieces n w behind)) h in
      next_concat (pieces n w behind) 0 inside ∙ get_or-pieces n w behind 0 h ∙ ap (λ k. take k (targets_behind n w behind)) (from_none (end_of n w behind 0))
  up_to (suc i) h =
      let less : i < n = omega arith in
      let inside : suc i < length (pieces n w behind) = subst (λ k. suc i < k) (sym (length-pieces n w behind)) h in
      let begin = begins_at_end n w behind i h in
      let is_order = order (suc i) h in
      next_concat (pieces n w behind) (suc i) inside
      ∙ ap (λ x. concat (take (suc i) (pieces n w behind)) ++ x) (get_or-pieces n w behind (suc i) h)
      ∙ ap (λ x. x ++ target_of n w behind (suc i)) (up_to i less ∙ ap (λ k. take k (targets_behind n w behind)) (sym begin))
      ∙ join_at (begin_of n w behind (suc i)) (end_of n w behind (suc i)) (targets_behind n w behind) (omega arith)

  pub concat_pieces : concat (pieces n w behind) ≡ targets_behind n w behind
  concat_pieces =
      let last : suc (n - 1) ≡ n = omega arith in
      let whole : take (suc (n - 1)) (pieces n w behind) ≡ pieces n w behind = take_all (suc (n - 1)) (pieces n w behind) (let l = length-pieces n w behind in omega arith) in
      let at_end : end_of n w behind (n - 1) ≡ length (targets_behind n w behind) = rw (eq-eqb (n - 1) (n - 1) refl) refl in
      ap concat (sym whole) ∙ up_to (n - 1) (omega arith) ∙ take_all _ (targets_behind n w behind) (omega arith)

  pub ends_at : (i : ℕ) → i < n → length (concat (take (suc i) (pieces n w behind))) ≡ end_of n w behind i
  ends_at i h = let is_order = order i h in ap length (up_to i h) ∙ length-take-le _ (targets_behind n w behind) is_order.1

-- the bytes from the edges on are the edges, the blocks of the offsets and the targets
pub has_pieces : (n w : ℕ) (behind : List ℕ) → 2 ≤ n → IsBytes (drop n behind) → n + w * (n - 1) ≤ length behind → length (targets_behind n w behind) < 256 ^ w → InOrder n w behind n → HasTargets (pieces n w behind) n w behind
has_pieces n w behind two bytes long short order =
    let all = pieces n w behind in
    let numbers = offsets all in
    let table = take (w * (n - 1)) (drop n behind) in
    let count : length numbers ≡ n - 1 = length-offsets all ∙ ap (λ k. k - 1) (length-pieces n w behind) in
    let left = length_drop n behind in
    let long' : w * (n - 1) ≤ length (drop n behind) = omega arith in
    let table_len : length table ≡ w * length numbers = length-take-le (w * (n - 1)) (drop n behind) long' ∙ ap (λ k. w * k) (sym count) in
    let table_bytes : IsBytes table = bytes_take (w * (n - 1)) (drop n behind) bytes in
    let reads : (i : ℕ) → i < length numbers → number_from 0 w (length numbers) i table ≡ get_or numbers i 0 % 256 ^ w = λ i inside. (
    let less : suc i < n = omega arith in
    let less' : i < n = omega arith in
    let ordered = order i less' in
    let at : get_or numbers i 0 ≡ end_of n w behind i = get_or-offsets all i (let l = length-pieces n w behind in omega arith) ∙ ends_at n w behind (omega arith) order i less' in
    let offset : end_of n w behind i ≡ offset_in n w behind i = rw (ne_eqb i (n - 1) (λ e. omega arith)) refl in
    let small : get_or numbers i 0 < 256 ^ w = omega arith in
    ap (λ k. number_from 0 w k i table) count ∙ sym offset ∙ sym at ∙ sym (mod-eq_of_lt small)
    ) in
    record {
      count = length-pieces n w behind;
      enough = subst (λ x. length x < 256 ^ w) (sym (concat_pieces n w behind (omega arith) order)) short;
      bytes_are = sym (take-append-drop (w * (n - 1)) (drop n behind))
          ∙ append_equal table _ (targets_behind n w behind) _ (blocks_from w numbers table table_bytes table_len reads) (sym (concat_pieces n w behind (omega arith) order));
    }
  where
    length_drop : (k : ℕ) (xs : List ℕ) → length (drop k xs) ≡ length xs - k
    length_drop zero xs = omega arith
    length_drop (suc k) [] = omega arith
    length_drop (suc k) (x ∷ xs) = let l = length_drop k xs in omega arith

    bytes_take : (k : ℕ) (xs : List ℕ) → IsBytes xs → IsBytes (take k xs)
    bytes_take zero xs h i = omega arith
    bytes_take (suc k) [] h i = omega arith
    bytes_take (suc k) (x ∷ xs) h zero = h 0
    bytes_take (suc k) (x ∷ xs) h (suc i) = bytes_take k xs (λ j. h (suc j)) i

-- targets that a branch has, by its offsets
module _ {targets : List (List ℕ)} {n w : ℕ} {behind : List ℕ} (has : HasTargets targets n w behind) where
  pub piece_is : (i : ℕ) → i < n → target_of n w behind i ≡ get_or targets i []
  piece_is i h = target_between has i h

  pub extent_is : (i : ℕ) → i < n → extent n w behind i ≡ length (get_or targets i [])
  extent_is i h =
      let b = begin_is has i h in
      let e = end_is has i h in
      let next = next_end targets i (let c = has.count in omega arith) in
      omega arith

  pub in_order : ((i : ℕ) → i < n → get_or targets i [] ≡ [] → ⊥) → InOrder n w behind n
  in_order some i h =
      let b = begin_is has i h in
      let e = end_is has i h in
      let next = next_end targets i (let c = has.count in omega arith) in
      let within = ends_within targets (suc i) in
      let all = ap length (targets_are has) in
      let there = not_nil (get_or targets i []) (some i h) in
      (omega arith, omega arith)
    where
      not_nil : (xs : List ℕ) → (xs ≡ [] → ⊥) → 0 < length xs
      not_nil [] h = absurd (h refl)
      not_nil (x ∷ xs) h = omega arith

-- the place of the longest

greatest_is : (ns : List ℕ) (m place : ℕ) → place < length ns → get_or ns place 0 ≡ m → ((i : ℕ) → i < length ns → get_or ns i 0 ≤ m) → greatest ns ≡ m
greatest_is ns m place inside is most = let a = at_most ns m most in let b = at_least ns place inside in omega arith
  where
    at_most : (ks : List ℕ) (k : ℕ) → ((i : ℕ) → i < length ks → get_or ks i 0 ≤ k) → greatest ks ≤ k
    at_most [] k h = omega arith
    at_most (x ∷ ks) k h = let first = h 0 (omega arith) in let more = at_most ks k (λ i l. h (suc i) (omega arith)) in omega arith

    at_least : (ks : List ℕ) (i : ℕ) → i < length ks → get_or ks i 0 ≤ greatest ks
    at_least [] i h = absurd (omega arith)
    at_least (x ∷ ks) zero h = omega arith
    at_least (x ∷ ks) (suc i) h = let more = at_least ks i (omega arith) in omega arith

first_not_below : (m : ℕ) (xs : List (List ℕ)) (place : ℕ) → place < length xs → ((i : ℕ) → i < place → length (get_or xs i []) < m) → m ≤ length (get_or xs place []) → prefix_len (λ x. nat_lt (length x) m) xs ≡ place
first_not_below m [] place h before here = absurd (omega arith)
first_not_below m (x ∷ xs) zero h before here = rw (le-ltb (length x) m here) refl
first_not_below m (x ∷ xs) (suc place) h before here =
    rw (lt-ltb (length x) m (before 0 (omega arith))) (let more = first_not_below m xs place (omega arith) (λ i l. before (suc i) (omega arith)) here in omega arith)

get_or-lengths : (xs : List (List ℕ)) (i : ℕ) → i < length xs → get_or (map (λ t. length t) xs) i 0 ≡ length (get_or xs i [])
get_or-lengths [] i h = absurd (omega arith)
get_or-lengths (x ∷ xs) zero h = refl
get_or-lengths (x ∷ xs) (suc i) h = get_or-lengths xs i (omega arith)

length-lengths : (xs : List (List ℕ)) → length (map (λ t. length t) xs) ≡ length xs
length-lengths [] = refl
length-lengths (x ∷ xs) = ap suc (length-lengths xs)

pub longest_is : {targets : List (List ℕ)} {n w : ℕ} {behind : List ℕ} → HasTargets targets n w behind → (place : ℕ) → IsLongest n w behind n place → longest_place targets ≡ place
longest_is {targets = targets} {n = n} {w = w} {behind = behind} has place is =
    let count = has.count in
    let inside = is.inside in
    let lengths = map (λ t. length t) targets in
    let here = extent_is has place inside in
    let len = length-lengths targets in
    let all : (i : ℕ) → i < length lengths → get_or lengths i 0 ≤ length (get_or targets place []) = λ i l. (
    let less : i < n = omega arith in
    let a = get_or-lengths targets i (omega arith) in
    let b = extent_is has i less in
    let m = is.most i less in
    omega arith) in
    let m : greatest lengths ≡ length (get_or targets place []) = greatest_is lengths _ place (omega arith) (get_or-lengths targets place (omega arith)) all in
    first_not_below (greatest lengths) targets place (omega arith)
    (λ i l. (let less : i < n = omega arith in let b = extent_is has i less in let f = is.first i l in omega arith)) (omega arith)
