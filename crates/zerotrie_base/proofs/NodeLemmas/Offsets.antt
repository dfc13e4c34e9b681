-- The offset table and the targets of a branch.
use Rattle.std.proofs.Common.{◌≡◌, ℕ, zero, suc, ◌+◌, ◌-◌, ◌*◌, ◌/◌, ◌%◌, ◌^◌, ◌<◌, ◌≤◌, List, [], ◌∷◌, ◌++◌, length, refl, sym, ◌∙◌, ap, subst, arith, map, get_or, take, drop, length-append, lit<, add-one, Option, Some, None, inl, inr}
use Rattle.std.specs.List.{concat}
use Rattle.std.proofs.lemmas.List.{take_at, drop_at, take_all, get_or_append_left, get_or-map, get_or-drop, get_or-take}
use Rattle.std.proofs.lemmas.List.FromFn.{length-map-range_with_len, get_or-map-range_with_len}
use Rattle.std.proofs.Math.Arith.{mod-mul}
use Rattle.std.proofs.Math.Seq.{drop-append-add}
use Rattle.std.proofs.Math.Nat.{pow-suc, mul_comm, one-le-pow, pow-le-pow_right, mod-eq_of_lt, mul-le-mul_right}
use Rattle.std.proofs.lemmas.Bool.{cases_lt, ne_eqb, eq-eqb}
use Rattle.std.specs.Slice.{IsGetRangeResult}
use Rattle.std.specs.Option.{IsSomeAnd}
use Rattle.std.specs.Borrow.{Bor}
use Rattle.zerotrie_base.specs.Branches.{blocks, offsets}
use Rattle.zerotrie_base.specs.Nodes.{number_from, offset_in, targets_behind, begin_of, end_of, IsTargetResult}

add_zero_mod : (x p : ℕ) → x < p → 0 * p + x % p ≡ x
add_zero_mod x p h = rw (mod-eq_of_lt h) (omega arith)

length-map' : (f : ℕ → ℕ) (xs : List ℕ) → length (map f xs) ≡ length xs
length-map' f [] = refl
length-map' f (x ∷ xs) = ap suc (length-map' f xs)

more_blocks : (w n : ℕ) → n + w * n ≡ suc w * n
more_blocks w n = omega arith

pub length-blocks : (w : ℕ) (numbers : List ℕ) → length (blocks w numbers) ≡ w * length numbers
length-blocks zero numbers = omega arith
length-blocks (suc w) numbers =
    length-append (map (λ o. o / 256 ^ w % 256) numbers) (blocks w numbers)
    ∙ (let e = length-map' (λ o. o / 256 ^ w % 256) numbers in let f = length-blocks w numbers in rw (e, f) (more_blocks w (length numbers)))

digit_more : (a o p : ℕ) → 0 < p → (256 * a + o / p % 256) * p + o % p ≡ a * (p * 256) + o % (p * 256)
digit_more a o p h = rw (mul_comm p 256, mod-mul o {m = 256} {c = p} (lit< tt) h) (omega arith)

-- reading the blocks at one place gives the number there
number_from-blocks : (a w i : ℕ) (numbers : List ℕ) → i < length numbers → number_from a w (length numbers) i (blocks w numbers) ≡ a * 256 ^ w + get_or numbers i 0 % 256 ^ w
number_from-blocks a zero i numbers h = omega arith
number_from-blocks a (suc w) i numbers h =
    let block = map (λ o. o / 256 ^ w % 256) numbers in
    let here : get_or (block ++ blocks w numbers) i 0 ≡ get_or numbers i 0 / 256 ^ w % 256 = get_or_append_left block (blocks w numbers) 0 i (rw (length-map' (λ o. o / 256 ^ w % 256) numbers) h) ∙ get_or-map (λ o. o / 256 ^ w % 256) numbers i 0 0 h in
    let there : drop (length numbers) (block ++ blocks w numbers) ≡ blocks w numbers = drop_at block (blocks w numbers) (length numbers) (length-map' _ numbers) in
    rw (here, there) (number_from-blocks (256 * a + get_or numbers i 0 / 256 ^ w % 256) w i numbers h ∙ rw (pow-suc 256 w) (digit_more a (get_or numbers i 0) (256 ^ w) (one-le-pow w 256 (lit< tt))))

pub length-offsets : (targets : List (List ℕ)) → length (offsets targets) ≡ length targets - 1
length-offsets targets = length-map-range_with_len _ 1 (length targets - 1)

pub get_or-offsets : (targets : List (List ℕ)) (i : ℕ) → i + 1 < length targets → get_or (offsets targets) i 0 ≡ length (concat (take (suc i) targets))
get_or-offsets targets i h = get_or-map-range_with_len (λ j. length (concat (take j targets))) 1 (length targets - 1) i (suc i) 0 (omega arith) (omega arith)

drop-concat : (targets : List (List ℕ)) (i : ℕ) → drop (length (concat (take i targets))) (concat targets) ≡ concat (drop i targets)
drop-concat targets zero = refl
drop-concat [] (suc i) = refl
drop-concat (t ∷ targets) (suc i) =
    rw (length-append t (concat (take i targets))) (drop-append-add t (concat targets) (length (concat (take i targets))) ∙ drop-concat targets i)

pub next_end : (targets : List (List ℕ)) (i : ℕ) → i < length targets → length (concat (take (suc i) targets)) ≡ length (concat (take i targets)) + length (get_or targets i [])
next_end [] i h = absurd (omega arith)
next_end (t ∷ targets) zero h = simp length-append (omega arith)
next_end (t ∷ targets) (suc i) h = simp length-append (let more = next_end targets i (omega arith) in omega arith)

rest_of : (targets : List (List ℕ)) (i : ℕ) → i < length targets → concat (drop i targets) ≡ get_or targets i [] ++ concat (drop (suc i) targets)
rest_of [] i h = absurd (omega arith)
rest_of (t ∷ targets) zero h = refl
rest_of (t ∷ targets) (suc i) h = rest_of targets i (omega arith)

between : (targets : List (List ℕ)) (i : ℕ) → i < length targets
    → take (length (concat (take (suc i) targets)) - length (concat (take i targets))) (drop (length (concat (take i targets))) (concat targets)) ≡ get_or targets i []
between targets i h =
    let end = next_end targets i h in
    rw (drop-concat targets i, rest_of targets i h) (take_at (get_or targets i []) (concat (drop (suc i) targets)) _ (omega arith))

pub ends_within : (targets : List (List ℕ)) (i : ℕ) → length (concat (take i targets)) ≤ length (concat targets)
ends_within targets zero = omega arith
ends_within [] (suc i) = omega arith
ends_within (t ∷ targets) (suc i) = simp length-append (let more = ends_within targets i in omega arith)

-- one block of w - b is read
one_less : (w b : ℕ) → b < w → w - b ≡ suc (w - (b + 1))
one_less w b h = omega arith

pub rest_long : (w b count len : ℕ) → b < w → len ≡ (w - b) * count → (count ≤ len) × (len - count ≡ (w - (b + 1)) * count)
rest_long w b count len h is =
    let e : len ≡ suc (w - (b + 1)) * count = rw one_less at is in
    let more = more_blocks (w - (b + 1)) count in
    (omega arith, omega arith)

pub below_more : (value byte b : ℕ) → value < 256 ^ b → byte < 256 → b < 8 → (value * 256 + byte < 256 ^ (b + 1)) × (value * 256 + byte < 2 ^ 64)
below_more value byte b h byte_below small =
    let power : 256 ^ (b + 1) ≡ 256 ^ b * 256 = rw add-one (pow-suc 256 b) in
    let up : b + 1 ≤ 8 = omega arith in
    let limit : 256 ^ (b + 1) ≤ 256 ^ 8 = pow-le-pow_right (lit< tt) up in
    (omega arith, omega arith)

pub number_more : (value w b count place n : ℕ) (rest : List ℕ) → b < w → number_from value (w - b) count place rest ≡ n
    → number_from (value * 256 + get_or rest place 0) (w - (b + 1)) count place (drop count rest) ≡ n
number_more value w b count place n rest h is =
    let e : number_from value (suc (w - (b + 1))) count place rest ≡ n = rw one_less at is in
    rw (mul_comm value 256) e

-- numbers whose bytes are the same
number_same : (w a count i j : ℕ) (xs ys : List ℕ) → ((k : ℕ) → k < w → get_or xs (i + k * count) 0 ≡ get_or ys (j + k * count) 0) → number_from a w count i xs ≡ number_from a w count j ys
number_same zero a count i j xs ys same = refl
number_same (suc w) a count i j xs ys same =
    let at : i + 0 * count ≡ i = omega arith in
    let at' : j + 0 * count ≡ j = omega arith in
    let first : get_or xs i 0 ≡ get_or ys j 0 = ap (λ n. get_or xs n 0) (sym at) ∙ same 0 (omega arith) ∙ ap (λ n. get_or ys n 0) at' in
    let below : (k : ℕ) → k < w → get_or (drop count xs) (i + k * count) 0 ≡ get_or (drop count ys) (j + k * count) 0 = λ k h. (
    let there : count + (i + k * count) ≡ i + suc k * count = omega arith in
    let there' : count + (j + k * count) ≡ j + suc k * count = omega arith in
    get_or-drop count xs (i + k * count) 0 ∙ ap (λ n. get_or xs n 0) there ∙ same (suc k) (omega arith) ∙ sym (get_or-drop count ys (j + k * count) 0 ∙ ap (λ n. get_or ys n 0) there')
    ) in
    ap (λ x. number_from (256 * a + x) w count i (drop count xs)) first ∙ number_same w (256 * a + get_or ys j 0) count i j (drop count xs) (drop count ys) below

-- the offset in front of a target, read from the last edge on
pub offset_before : (edges width i : ℕ) (behind : List ℕ) → 0 < i → i < edges → number_from 0 width (edges - 1) i (drop (edges - 1) behind) ≡ offset_in edges width behind (i - 1)
offset_before edges width i behind some within = number_same width 0 (edges - 1) i (i - 1) (drop (edges - 1) behind) (take (width * (edges - 1)) (drop edges behind)) (λ k h. (
    let blocks : (k + 1) * (edges - 1) ≤ width * (edges - 1) = mul-le-mul_right (edges - 1) (omega arith) in
    let inside : i - 1 + k * (edges - 1) < width * (edges - 1) = omega arith in
    let same : edges - 1 + (i + k * (edges - 1)) ≡ edges + (i - 1 + k * (edges - 1)) = omega arith in
    get_or-drop (edges - 1) behind (i + k * (edges - 1)) 0
    ∙ ap (λ n. get_or behind n 0) same
    ∙ sym (get_or-take (width * (edges - 1)) (drop edges behind) (i - 1 + k * (edges - 1)) 0 inside ∙ get_or-drop edges behind (i - 1 + k * (edges - 1)) 0)
    ))

-- and one after it, with what stands after the offsets
pub offset_next : (edges width i : ℕ) (behind : List ℕ) → i < edges - 1 → number_from 0 width (edges - 1) i (drop edges behind) ≡ offset_in edges width behind i
offset_next edges width i behind within = number_same width 0 (edges - 1) i i (drop edges behind) (take (width * (edges - 1)) (drop edges behind)) (λ k h. (
    let blocks : (k + 1) * (edges - 1) ≤ width * (edges - 1) = mul-le-mul_right (edges - 1) (omega arith) in
    let inside : i + k * (edges - 1) < width * (edges - 1) = omega arith in
    sym (get_or-take (width * (edges - 1)) (drop edges behind) (i + k * (edges - 1)) 0 inside)
    ))

pub all_left : (w : ℕ) → w - 0 ≡ w
all_left w = omega arith

pub none_left : (w b : ℕ) → w ≤ b → w - b ≡ 0
none_left w b h = omega arith

-- what a slice's `get` gives at a range that is within it
pub got : (r : Option (Bor (List ℕ))) (xs : List ℕ) (from to : ℕ) → IsGetRangeResult xs from to r → from ≤ to → to ≤ length xs → IsSomeAnd r (λ x. x.now ≡ take (to - from) (drop from xs))
got None xs from to g low high = let h = g.1 (low, high) in absurd (cc)
got (Some x) xs from to g low high = g.0.2

-- After n edges stand the offsets of the targets, at w bytes each, and the targets.
pub record HasTargets (targets : List (List ℕ)) (n w : ℕ) (behind : List ℕ) : Type 0 where
  pub count : length targets ≡ n
  pub enough : length (concat targets) < 256 ^ w
  pub bytes_are : drop n behind ≡ blocks w (offsets targets) ++ concat targets

module _ {targets : List (List ℕ)} {n w : ℕ} {behind : List ℕ} (has : HasTargets targets n w behind) where
  count_is : length (offsets targets) ≡ n - 1
  count_is = length-offsets targets ∙ ap (λ k. k - 1) has.count

  table_len : length (blocks w (offsets targets)) ≡ w * (n - 1)
  table_len = length-blocks w (offsets targets) ∙ ap (λ k. w * k) count_is

  table_is : take (w * (n - 1)) (drop n behind) ≡ blocks w (offsets targets)
  table_is = ap (take (w * (n - 1))) has.bytes_are ∙ take_at (blocks w (offsets targets)) (concat targets) (w * (n - 1)) table_len

  pub targets_are : targets_behind n w behind ≡ concat targets
  targets_are = ap (drop (w * (n - 1))) has.bytes_are ∙ drop_at (blocks w (offsets targets)) (concat targets) (w * (n - 1)) table_len

  -- each offset is where a target ends
  offset_is : (place : ℕ) → place + 1 < n → offset_in n w behind place ≡ length (concat (take (suc place) targets))
  offset_is place h =
      let inside : place + 1 < length targets = rw has.count h in
      let read = number_from-blocks 0 w place (offsets targets) (let c = count_is in omega arith) in
      let offset = get_or-offsets targets place inside in
      let below = ends_within targets (suc place) in
      let enough = has.enough in
      let small : get_or (offsets targets) place 0 < 256 ^ w = omega arith in
      ap (number_from 0 w (n - 1) place) table_is
      ∙ ap (λ k. number_from 0 w k place (blocks w (offsets targets))) (sym count_is) ∙ read ∙ add_zero_mod (get_or (offsets targets) place 0) (256 ^ w) small ∙ offset

  pub begin_is : (place : ℕ) → place < n → begin_of n w behind place ≡ length (concat (take place targets))
  begin_is zero h = refl
  begin_is (suc p) h =
      let before : suc p - 1 ≡ p = omega arith in
      rw (ne_eqb (suc p) 0 (λ e. omega arith)) (ap (offset_in n w behind) before ∙ offset_is p (omega arith))

  pub end_is : (place : ℕ) → place < n → end_of n w behind place ≡ length (concat (take (suc place) targets))
  end_is place h = elim (cases_lt (place + 1) n) [
    | inl inside ↦ rw (ne_eqb place (n - 1) (λ e. omega arith)) (offset_is place inside)
    | inr last ↦
        let all : take (suc place) targets ≡ targets = take_all (suc place) targets (let c = has.count in omega arith) in
        rw (eq-eqb place (n - 1) (omega arith)) (ap length targets_are ∙ ap (λ t. length (concat t)) (sym all))
  ]

  -- offsets rise, and stay within the targets
  pub in_order : (place : ℕ) → place < n → (begin_of n w behind place ≤ end_of n w behind place) × (end_of n w behind place ≤ length (targets_behind n w behind))
  in_order place h =
      let inside : place < length targets = rw has.count h in
      let next = next_end targets place inside in
      let within = ends_within targets (suc place) in
      let all = ap length targets_are in
      let from = begin_is place h in
      let to = end_is place h in
      (omega arith, omega arith)

  -- target number i stands between its offset and the next
  pub target_between : (place : ℕ) → place < n → take (end_of n w behind place - begin_of n w behind place) (drop (begin_of n w behind place) (targets_behind n w behind)) ≡ get_or targets place []
  target_between place h = rw (begin_is place h, end_is place h, targets_are) (between targets place (rw has.count h))

  pub target_is : (place : ℕ) (r : Option (Bor (List ℕ))) → place < n → IsTargetResult n w behind place r → IsSomeAnd r (λ x. x.now ≡ get_or targets place [])
  target_is place r h g =
      let inside : place < length targets = rw has.count h in
      let next = next_end targets place inside in
      let within = ends_within targets (suc place) in
      let all = ap length targets_are in
      let from = begin_is place h in
      let to = end_is place h in
      subst (λ t. IsSomeAnd r (λ x. x.now ≡ t)) (target_between place h) (got r (targets_behind n w behind) (begin_of n w behind place) (end_of n w behind place) g (omega arith) (omega arith))
