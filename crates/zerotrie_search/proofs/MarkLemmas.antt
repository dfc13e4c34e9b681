-- Marks of places among the items of a pattern.
use Rattle.std.proofs.Common.{◌≡◌, ◌≢◌, ◌≤◌, ◌<◌, ◌+◌, ◌*◌, ◌%◌, ◌^◌, ◌∷◌, ◌⊎◌, inl, inr, ℕ, zero, suc, List, [], length, drop, get_or, set, min, max, refl, sym, ap, ◌∙◌, arith, Bool, true, false, w64}
use Rattle.std.specs.Prelude.{◌==◌, ◌&&◌, ◌||◌, if◌then◌else◌, slice_index, slice_set}
use Rattle.std.specs.Int.{bit_at, bit_not, trailing_zeros}
use Rattle.std.specs.Int.Bits.{bit_or, bit_and}
use Rattle.std.proofs.lemmas.Bool.{cases_lt, cases_eq}
use Rattle.std.proofs.lemmas.List.{get_or-set_same, get_or-set_other}
use Rattle.std.proofs.lemmas.Nat.{and_le_l}
use Rattle.std.proofs.lemmas.Nat.Bits.{bit_at-zero, bit_at-lt, bit_at_or, bit_at_and, bit_at_above, bit_at_clear_same, bit_at_clear_other, bit_at-trailing_zeros}
use Rattle.zerotrie_search.specs.Globs.{takes, matches, others, behind, Item, many, any, one, class, group, comma, end}
use Rattle.zerotrie_search.specs.GlobMasks.{role_of, after, after_first, takes_on, any_match, role_at, taken_at, AreRoles, AreTakers}
use Rattle.zerotrie_search.specs.GlobTables.{AreMasks}
use Rattle.zerotrie_search.specs.declared.glob.masks.Masks.{Masks}
use Rattle.zerotrie_search.specs.declared.glob.pattern.Role.{Role}
use Rattle.zerotrie_search.specs.declared.glob.pattern.Role.TheVariants.{Many, Group, Comma, End, Letter}
use Rattle.zerotrie_search.proofs.GlobLemmas.{or_three}

or_end : (x : Bool) → (x || false) ≡ x
or_end true = refl
or_end false = refl

and_end : (x : Bool) → (x && false) ≡ false
and_end true = refl
and_end false = refl

and_true : (x : Bool) → (x && true) ≡ x
and_true true = refl
and_true false = refl

-- marks
pub no_marks : (place : ℕ) (all : List Item) (key : List ℕ) → any_match 0 place all key ≡ false
no_marks place [] key = let z : bit_at 0 place ≡ 0 = bit_at-zero place in ap (λ b. (b == 1) && takes_on [] key) z
no_marks place (i ∷ all) key = let z : bit_at 0 place ≡ 0 = bit_at-zero place in ap (λ b. ((b == 1) && takes_on (i ∷ all) key) || any_match 0 (suc place) all key) z ∙ no_marks (suc place) all key

pub same_marks : (marks new : ℕ) (place : ℕ) (all : List Item) (key : List ℕ) → ((i : ℕ) → place ≤ i → bit_at new i ≡ bit_at marks i) → any_match new place all key ≡ any_match marks place all key
same_marks marks new place [] key same = ap (λ b. (b == 1) && takes_on [] key) (same place (omega arith))
same_marks marks new place (i ∷ all) key same =
    ap (λ b. ((b == 1) && takes_on (i ∷ all) key) || any_match new (suc place) all key) (same place (omega arith))
    ∙ ap (λ r. ((bit_at marks place == 1) && takes_on (i ∷ all) key) || r) (same_marks marks new (suc place) all key (λ j h. same j (omega (arith, h))))

-- one more mark
here_last : (m x : Bool) → x ≡ ((m && x) || x)
here_last true true = refl
here_last true false = refl
here_last false true = refl
here_last false false = refl

here_more : (m x r : Bool) → (x || r) ≡ (((m && x) || r) || x)
here_more true true r = refl
here_more true false true = refl
here_more true false false = refl
here_more false true true = refl
here_more false true false = refl
here_more false false true = refl
here_more false false false = refl

pub one_mark : (marks new place d : ℕ) (all : List Item) (key : List ℕ) → d ≤ length all → bit_at new (place + d) ≡ 1 → ((i : ℕ) → i ≢ place + d → bit_at new i ≡ bit_at marks i)
    → any_match new place all key ≡ (any_match marks place all key || takes_on (drop d all) key)
one_mark marks new place zero [] key h set other =
    let at : bit_at new place ≡ 1 = let e : place ≡ place + 0 = omega arith in ap (bit_at new) e ∙ set in
    ap (λ b. (b == 1) && takes_on [] key) at ∙ here_last (bit_at marks place == 1) (takes_on [] key)
one_mark marks new place zero (i ∷ all) key h set other =
    let at : bit_at new place ≡ 1 = let e : place ≡ place + 0 = omega arith in ap (bit_at new) e ∙ set in
    let x = takes_on (i ∷ all) key in
    ap (λ b. ((b == 1) && x) || any_match new (suc place) all key) at
    ∙ ap (λ r. x || r) (same_marks marks new (suc place) all key (λ j above. other j (λ e. omega (arith, above, e))))
    ∙ here_more (bit_at marks place == 1) x (any_match marks (suc place) all key)
one_mark marks new place (suc d) [] key h set other = absurd (omega (arith, h))
one_mark marks new place (suc d) (i ∷ all) key h set other =
    let on : place + suc d ≡ suc place + d = omega arith in
    let x = takes_on (i ∷ all) key in
    ap (λ b. ((b == 1) && x) || any_match new (suc place) all key) (other place (λ e. omega (arith, e)))
    ∙ ap (λ r. ((bit_at marks place == 1) && x) || r)
    (one_mark marks new (suc place) d all key (omega (arith, h)) (ap (bit_at new) (sym on) ∙ set) (λ j ne. other j (λ e. ne (e ∙ on))))
    ∙ or_three ((bit_at marks place == 1) && x) (any_match marks (suc place) all key) (takes_on (drop d all) key)

-- marks of two
some_bit : (x y : ℕ) → x < 2 → y < 2 → (max x y == 1) ≡ ((x == 1) || (y == 1))
some_bit zero zero _ _ = refl
some_bit zero (suc zero) _ _ = refl
some_bit (suc zero) zero _ _ = refl
some_bit (suc zero) (suc zero) _ _ = refl
some_bit (suc (suc x)) y h _ = absurd (omega (arith, h))
some_bit zero (suc (suc y)) _ h = absurd (omega (arith, h))
some_bit (suc zero) (suc (suc y)) _ h = absurd (omega (arith, h))

either_bit : (a b i : ℕ) → (bit_at (bit_or a b) i == 1) ≡ ((bit_at a i == 1) || (bit_at b i == 1))
either_bit a b i = ap (λ n. n == 1) (bit_at_or a b i) ∙ some_bit (bit_at a i) (bit_at b i) (bit_at-lt a i) (bit_at-lt b i)

or_last : (p q x : Bool) → ((p || q) && x) ≡ ((p && x) || (q && x))
or_last true true true = refl
or_last true true false = refl
or_last true false true = refl
or_last true false false = refl
or_last false q x = refl

or_four : (p q r s x : Bool) → (((p || q) && x) || (r || s)) ≡ (((p && x) || r) || ((q && x) || s))
or_four true true true s x = elim x as (λ x. ((x) || true) ≡ ((x || true) || (x || s))) [ true ↦ refl | false ↦ refl ]
or_four true true false s x = elim x as (λ x. ((x) || s) ≡ ((x || false) || (x || s))) [ true ↦ refl | false ↦ refl ]
or_four true false r s x = or_three x r s
or_four false true r s true = elim r as (λ r. true ≡ (r || true)) [ true ↦ refl | false ↦ refl ]
or_four false true r s false = refl
or_four false false r s x = refl

pub both_marks : (a b place : ℕ) (all : List Item) (key : List ℕ) → any_match (bit_or a b) place all key ≡ (any_match a place all key || any_match b place all key)
both_marks a b place [] key = ap (λ m. m && takes_on [] key) (either_bit a b place) ∙ or_last (bit_at a place == 1) (bit_at b place == 1) (takes_on [] key)
both_marks a b place (i ∷ all) key =
    ap (λ m. (m && takes_on (i ∷ all) key) || any_match (bit_or a b) (suc place) all key) (either_bit a b place)
    ∙ ap (λ r. (((bit_at a place == 1) || (bit_at b place == 1)) && takes_on (i ∷ all) key) || r) (both_marks a b (suc place) all key)
    ∙ or_four (bit_at a place == 1) (bit_at b place == 1) (any_match a (suc place) all key) (any_match b (suc place) all key) (takes_on (i ∷ all) key)

-- the marks of the items that take a letter
here_taken : (n m : ℕ) (t x : Bool) → m < 2 → n ≡ min m (if t then 1 else 0) → ((n == 1) && (t && x)) ≡ ((m == 1) && (t && x))
here_taken n m true x h e = let same : n ≡ m = omega (arith, h, e) in ap (λ k. (k == 1) && x) same
here_taken n m false x h e = and_end (n == 1) ∙ sym (and_end (m == 1))

taken_from : (marks mask place b : ℕ) (all : List Item) (key : List ℕ) → ((j : ℕ) → bit_at mask (place + j) ≡ taken_at (drop j all) b)
    → any_match (bit_and marks mask) place all (b ∷ key) ≡ any_match marks place all (b ∷ key)
taken_from marks mask place b [] key are = and_end (bit_at (bit_and marks mask) place == 1) ∙ sym (and_end (bit_at marks place == 1))
taken_from marks mask place b (i ∷ all) key are =
    let at : bit_at mask place ≡ (if takes i b then 1 else 0) = let e : place ≡ place + 0 = omega arith in ap (bit_at mask) e ∙ are 0 in
    ap (λ h. h || any_match (bit_and marks mask) (suc place) all (b ∷ key))
    (here_taken (bit_at (bit_and marks mask) place) (bit_at marks place) (takes i b) (after i all key) (bit_at-lt marks place) (bit_at_and marks mask place ∙ ap (min (bit_at marks place)) at))
    ∙ ap (λ r. ((bit_at marks place == 1) && takes_on (i ∷ all) (b ∷ key)) || r)
    (taken_from marks mask (suc place) b all key (λ j. let e : suc place + j ≡ place + suc j = omega arith in ap (bit_at mask) e ∙ are (suc j)))

pub taken_marks : (marks mask b : ℕ) (all : List Item) (key : List ℕ) → AreTakers all b mask → any_match (bit_and marks mask) 0 all (b ∷ key) ≡ any_match marks 0 all (b ∷ key)
taken_marks marks mask b all key are = taken_from marks mask 0 b all key (λ j. let e : 0 + j ≡ j = omega arith in ap (bit_at mask) e ∙ are j)

-- one mark fewer
abbrev pub without : ℕ → ℕ → ℕ
without n k = bit_and n (bit_not w64 (1 * 2 ^ k % 2 ^ 64))

pub other_mark : (n k i : ℕ) → k < 64 → n < 2 ^ 64 → i ≢ k → bit_at (without n k) i ≡ bit_at n i
other_mark n k i h fits apart = by_case (cases_lt i 64)
  where
    by_case : (i < 64) ⊎ (64 ≤ i) → bit_at (without n k) i ≡ bit_at n i
    by_case (inl low) = bit_at_clear_other w64 n k h i low apart
    by_case (inr high) = let le = and_le_l n (bit_not w64 (1 * 2 ^ k % 2 ^ 64)) in bit_at_above (without n k) 64 i (omega (arith, le, fits)) high ∙ sym (bit_at_above n 64 i fits high)

pub fewer_marks : (n k : ℕ) → k < 64 → bit_at n k ≡ 1 → without n k < n
fewer_marks n k h set = by_case (cases_lt (without n k) n)
  where
    by_case : (without n k < n) ⊎ (n ≤ without n k) → without n k < n
    by_case (inl less) = less
    by_case (inr same) =
        let le = and_le_l n (bit_not w64 (1 * 2 ^ k % 2 ^ 64)) in
        let is : without n k ≡ n = omega (arith, le, same) in
        let clear = bit_at_clear_same w64 n k h in
        absurd (omega (arith, set, sym (ap (λ m. bit_at m k) is) ∙ clear))

-- one step of the lowest mark
item_from : (b p : ℕ) (all : List Item) → taken_at (drop p all) b ≡ 1 → (p < length all) × ((key : List ℕ) → takes_on (drop p all) (b ∷ key) ≡ after_first (drop p all) key)
item_from b zero [] is = absurd (omega (arith, is))
item_from b zero (i ∷ all) is = (omega arith, λ key. by_case (takes i b) is (after i all key))
  where
    by_case : (t : Bool) → ◌≡◌ {A = ℕ} (if t then 1 else 0) 1 → (x : Bool) → (t && x) ≡ x
    by_case true e x = refl
    by_case false e x = absurd (omega (arith, e))
item_from b (suc p) [] is = absurd (omega (arith, is))
item_from b (suc p) (i ∷ all) is = let rest = item_from b p all is in (let less = rest.0 in omega (arith, less), rest.1)

pub step_turn : (marks next left p b mask : ℕ) (all : List Item) (masks : Masks) (key : List ℕ) → AreMasks all masks → AreTakers all b mask → p < 64 → left < 2 ^ 64 → bit_at left p ≡ 1 → bit_at mask p ≡ 1
    → (any_match next 0 all key || any_match left 0 all (b ∷ key)) ≡ any_match marks 0 all (b ∷ key)
    → (any_match (bit_or next (slice_index masks.followers p)) 0 all key || any_match (without left p) 0 all (b ∷ key)) ≡ any_match marks 0 all (b ∷ key)
step_turn marks next left p b mask all masks key are takers low fits set taken so_far =
    let item = item_from b p all (sym (takers p) ∙ taken) in
    let less = item.0 in
    let f = slice_index masks.followers p in
    let zero_on : 0 + p ≡ p = omega arith in
    ap (λ x. x || any_match (without left p) 0 all (b ∷ key)) (both_marks next f 0 all key ∙ ap (λ x. any_match next 0 all key || x) (are.followers p less key ∙ sym (item.1 key)))
    ∙ turned (any_match next 0 all key) (takes_on (drop p all) (b ∷ key)) (any_match (without left p) 0 all (b ∷ key))
    ∙ ap (λ x. any_match next 0 all key || x)
    (sym (one_mark (without left p) left 0 p all (b ∷ key) (omega (arith, less)) (ap (bit_at left) zero_on ∙ set) (λ i ne. sym (other_mark left p i low fits (λ e. ne (e ∙ sym zero_on))))))
    ∙ so_far
  where
    turned : (a x y : Bool) → ((a || x) || y) ≡ (a || (y || x))
    turned true x y = refl
    turned false true true = refl
    turned false true false = refl
    turned false false true = refl
    turned false false false = refl

pub taken_within : (marks mask p : ℕ) → bit_at (bit_and marks mask) p ≡ 1 → bit_at mask p ≡ 1
taken_within marks mask p set = let both = bit_at_and marks mask p in let one = bit_at-lt mask p in omega (arith, both, set, one)

pub still_within : (left mask k : ℕ) → k < 64 → left < 2 ^ 64 → ((p : ℕ) → bit_at left p ≡ 1 → bit_at mask p ≡ 1) → (p : ℕ) → bit_at (without left k) p ≡ 1 → bit_at mask p ≡ 1
still_within left mask k low fits so_far p set = by_case (cases_eq p k)
  where
    by_case : (p ≡ k) ⊎ (p ≢ k) → bit_at mask p ≡ 1
    by_case (inl here) = let clear = bit_at_clear_same w64 left k low in let same = ap (bit_at (without left k)) here in absurd (omega (arith, clear, same, set))
    by_case (inr apart) = so_far p (sym (other_mark left k p low fits apart) ∙ set)

pub lowest : (n : ℕ) → n ≢ 0 → n < 2 ^ 64 → (trailing_zeros w64 n < 64) × (bit_at n (trailing_zeros w64 n) ≡ 1)
lowest n some fits = let is = bit_at-trailing_zeros w64 n (omega (arith, some)) fits in (is.0, is.1)

-- the end of a key
end_from : (marks place : ℕ) (all : List Item) → any_match marks place all [] ≡ (bit_at marks (place + length all) == 1)
end_from marks place [] = let e : place ≡ place + 0 = omega arith in and_true (bit_at marks place == 1) ∙ ap (λ p. bit_at marks p == 1) e
end_from marks place (i ∷ all) =
    let e : suc place + length all ≡ place + suc (length all) = omega arith in
    ap (λ h. h || any_match marks (suc place) all []) (and_end (bit_at marks place == 1)) ∙ end_from marks (suc place) all ∙ ap (λ p. bit_at marks p == 1) e

pub end_match : (marks : ℕ) (all : List Item) → any_match marks 0 all [] ≡ (bit_at marks (length all) == 1)
end_match marks all = let e : 0 + length all ≡ length all = omega arith in end_from marks 0 all ∙ ap (λ p. bit_at marks p == 1) e

-- no mark before the end
over_from : (marks place b : ℕ) (all : List Item) (key : List ℕ) → ((j : ℕ) → j < length all → bit_at marks (place + j) ≡ 0) → any_match marks place all (b ∷ key) ≡ false
over_from marks place b [] key none = and_end (bit_at marks place == 1)
over_from marks place b (i ∷ all) key none =
    let at : bit_at marks place ≡ 0 = let e : place ≡ place + 0 = omega arith in ap (bit_at marks) e ∙ none 0 (omega arith) in
    ap (λ n. ((n == 1) && takes_on (i ∷ all) (b ∷ key)) || any_match marks (suc place) all (b ∷ key)) at
    ∙ over_from marks (suc place) b all key (λ j h. let e : suc place + j ≡ place + suc j = omega arith in ap (bit_at marks) e ∙ none (suc j) (omega (arith, h)))

pub over : (marks last b : ℕ) (all : List Item) (key : List ℕ) → last ≡ length all → last < 64 → marks < 2 ^ 64 → without marks last ≡ 0 → any_match marks 0 all (b ∷ key) ≡ false
over marks last b all key is low fits none =
    over_from marks 0 b all key (λ j h. let e : 0 + j ≡ j = omega arith in
    ap (bit_at marks) e ∙ sym (other_mark marks last j low fits (λ same. omega (arith, same, is, h))) ∙ ap (λ m. bit_at m j) none ∙ bit_at-zero j)

-- what stands at a place
pub drop_one : {X : Type 0} (n : ℕ) (xs : List X) (x : X) (more : List X) → drop n xs ≡ x ∷ more → (n < length xs) × (drop (n + 1) xs ≡ more)
drop_one zero [] x more is = absurd (cc)
drop_one zero (y ∷ xs) x more is = (omega arith, ap (drop 1) is)
drop_one (suc n) [] x more is = absurd (cc)
drop_one (suc n) (y ∷ xs) x more is = let rest = drop_one n xs x more is in let one : suc n + 1 ≡ suc (n + 1) = omega arith in (omega (arith, rest.0), ap (λ m. drop m (y ∷ xs)) one ∙ rest.1)

pub item_at : (p : ℕ) (all : List Item) → p < length all → (i : Item) × (drop p all ≡ i ∷ drop (p + 1) all)
item_at p [] h = absurd (omega (arith, h))
item_at zero (i ∷ all) h = (i, refl)
item_at (suc p) (i ∷ all) h = let rest = item_at p all (omega (arith, h)) in let one : suc p + 1 ≡ suc (p + 1) = omega arith in (rest.0, rest.1 ∙ ap (λ m. rest.0 ∷ drop m (i ∷ all)) (sym one))

-- one bit more for the items that are read
pub bit_more : (f : List Item → ℕ) (all more : List Item) (i : Item) (p marks : ℕ) → drop p all ≡ i ∷ more → ((q : ℕ) → q < p → bit_at marks q ≡ f (drop q all)) → ((q : ℕ) → p ≤ q → bit_at marks q ≡ 0)
    → (new : ℕ) (is : Bool) → f (i ∷ more) ≡ (if is then 1 else 0) → bit_at new p ≡ (if is then 1 else bit_at marks p) → ((j : ℕ) → j ≢ p → bit_at new j ≡ bit_at marks j)
    → (q : ℕ) → q < p + 1 → bit_at new q ≡ f (drop q all)
bit_more f all more i p marks at so_far none new is at_item at_bit other q h = by_case (cases_lt q p)
  where
    same : (t : Bool) → ◌≡◌ {A = ℕ} (if t then 1 else bit_at marks p) (if t then 1 else 0)
    same true = refl
    same false = none p (omega arith)

    by_case : (q < p) ⊎ (p ≤ q) → bit_at new q ≡ f (drop q all)
    by_case (inl low) = other q (λ e. omega (arith, e, low)) ∙ so_far q low
    by_case (inr high) =
        let e : q ≡ p = omega (arith, h, high) in
        ap (bit_at new) e ∙ at_bit ∙ same is ∙ sym at_item ∙ ap f (sym at) ∙ ap (λ k. f (drop k all)) (sym e)

pub bits_none : (p marks new : ℕ) → ((q : ℕ) → p ≤ q → bit_at marks q ≡ 0) → ((j : ℕ) → j ≢ p → bit_at new j ≡ bit_at marks j) → (q : ℕ) → p + 1 ≤ q → bit_at new q ≡ 0
bits_none p marks new none other q h = other q (λ e. omega (arith, e, h)) ∙ none q (omega (arith, h))

-- what matches from an item on, by its role
abbrev all_from : Role → (all others behind taken : Bool) → Bool
all_from Many a o b t = a || t
all_from Group a o b t = a || o
all_from Comma a o b t = b
all_from End a o b t = a
all_from Letter a o b t = t

abbrev others_from : Role → (all others : Bool) → Bool
others_from Comma a o = a || o
others_from End a o = false
others_from role a o = o

abbrev behind_from : Role → (all behind : Bool) → Bool
behind_from End a b = a
behind_from role a b = b

abbrev after_from : Role → (all more : Bool) → Bool
after_from Many a m = a
after_from role a m = m

all_is : (i : Item) (is : List Item) (key : List ℕ) → all_from (role_of i) (matches is key) (others is key) (behind is key) (takes_on (i ∷ is) key) ≡ matches (i ∷ is) key
all_is many is [] = or_end (matches is [])
all_is many is (b ∷ key) = refl
all_is any is [] = refl
all_is any is (b ∷ key) = refl
all_is (one c) is [] = refl
all_is (one c) is (b ∷ key) = refl
all_is (class n ls) is [] = refl
all_is (class n ls) is (b ∷ key) = refl
all_is group is key = refl
all_is comma is key = refl
all_is end is key = refl

others_is : (i : Item) (is : List Item) (key : List ℕ) → others_from (role_of i) (matches is key) (others is key) ≡ others (i ∷ is) key
others_is many is key = refl
others_is any is key = refl
others_is (one c) is key = refl
others_is (class n ls) is key = refl
others_is group is key = refl
others_is comma is key = refl
others_is end is key = refl

behind_is : (i : Item) (is : List Item) (key : List ℕ) → behind_from (role_of i) (matches is key) (behind is key) ≡ behind (i ∷ is) key
behind_is many is key = refl
behind_is any is key = refl
behind_is (one c) is key = refl
behind_is (class n ls) is key = refl
behind_is group is key = refl
behind_is comma is key = refl
behind_is end is key = refl

after_is : (i : Item) (is : List Item) (key : List ℕ) → after_from (role_of i) (matches (i ∷ is) key) (matches is key) ≡ after i is key
after_is many is key = refl
after_is any is key = refl
after_is (one c) is key = refl
after_is (class n ls) is key = refl
after_is group is key = refl
after_is comma is key = refl
after_is end is key = refl

pub all_by : (role : Role) (i : Item) (is : List Item) (key : List ℕ) → role_of i ≡ role → all_from role (matches is key) (others is key) (behind is key) (takes_on (i ∷ is) key) ≡ matches (i ∷ is) key
all_by role i is key e = ap (λ r. all_from r (matches is key) (others is key) (behind is key) (takes_on (i ∷ is) key)) (sym e) ∙ all_is i is key

pub others_by : (role : Role) (i : Item) (is : List Item) (key : List ℕ) → role_of i ≡ role → others_from role (matches is key) (others is key) ≡ others (i ∷ is) key
others_by role i is key e = ap (λ r. others_from r (matches is key) (others is key)) (sym e) ∙ others_is i is key

pub behind_by : (role : Role) (i : Item) (is : List Item) (key : List ℕ) → role_of i ≡ role → behind_from role (matches is key) (behind is key) ≡ behind (i ∷ is) key
behind_by role i is key e = ap (λ r. behind_from r (matches is key) (behind is key)) (sym e) ∙ behind_is i is key

pub after_by : (role : Role) (i : Item) (is : List Item) (key : List ℕ) → role_of i ≡ role → after_from role (matches (i ∷ is) key) (matches is key) ≡ after i is key
after_by role i is key e = ap (λ r. after_from r (matches (i ∷ is) key) (matches is key)) (sym e) ∙ after_is i is key

-- one more place, where an item is
pub marked_on : (p old here : ℕ) (i : Item) (all more : List Item) (key : List ℕ) → drop p all ≡ i ∷ more → bit_at here p ≡ 1 → ((j : ℕ) → j ≢ p → bit_at here j ≡ bit_at old j)
    → any_match here 0 all key ≡ (any_match old 0 all key || takes_on (i ∷ more) key)
marked_on p old here i all more key at set other =
    let less = (drop_one p all i more at).0 in
    let zero_on : 0 + p ≡ p = omega arith in
    one_mark old here 0 p all key (omega (arith, less)) (ap (bit_at here) zero_on ∙ set) (λ j ne. other j (λ e. ne (e ∙ sym zero_on)))
    ∙ ap (λ is. any_match old 0 all key || takes_on is key) at

-- the roles of all items so far
pub role_known : (p : ℕ) (roles : List Role) (all : List Item) (i : Item) → p < length all → AreRoles all roles → drop p all ≡ i ∷ drop (p + 1) all → role_of i ≡ get_or roles p Letter
role_known p roles all i h are at = sym (are p h ∙ ap role_at at)

pub role_more : (all more : List Item) (i : Item) (p : ℕ) (roles : List Role) (role : Role) → drop p all ≡ i ∷ more → p < length roles → role_of i ≡ role
    → ((q : ℕ) → q < p → get_or roles q Letter ≡ role_at (drop q all)) → (q : ℕ) → q < p + 1 → get_or (set roles p role) q Letter ≡ role_at (drop q all)
role_more all more i p roles role at inside is so_far q h = by_case (cases_lt q p)
  where
    by_case : (q < p) ⊎ (p ≤ q) → get_or (set roles p role) q Letter ≡ role_at (drop q all)
    by_case (inl low) = get_or-set_other roles p q role Letter (λ e. omega (arith, e, low)) ∙ so_far q low
    by_case (inr high) =
        let e : q ≡ p = omega (arith, h, high) in
        ap (λ k. get_or (set roles p role) k Letter) e ∙ get_or-set_same roles p role Letter inside ∙ sym is ∙ ap role_at (sym at) ∙ ap (λ k. role_at (drop k all)) (sym e)

-- nothing stands past the end
drop_past : (n : ℕ) (xs : List Item) → length xs ≤ n → drop n xs ≡ []
drop_past zero [] h = refl
drop_past zero (x ∷ xs) h = absurd (omega (arith, h))
drop_past (suc n) [] h = refl
drop_past (suc n) (x ∷ xs) h = drop_past n xs (omega (arith, h))

pub takers_known : (b place takers : ℕ) (all : List Item) → length all ≤ place → ((p : ℕ) → p < place → bit_at takers p ≡ taken_at (drop p all) b) → ((p : ℕ) → place ≤ p → bit_at takers p ≡ 0) → AreTakers all b takers
takers_known b place takers all past low none p = by_case (cases_lt p place)
  where
    by_case : (p < place) ⊎ (place ≤ p) → bit_at takers p ≡ taken_at (drop p all) b
    by_case (inl h) = low p h
    by_case (inr h) = none p h ∙ sym (ap (λ is. taken_at is b) (drop_past p all (omega (arith, past, h))))

-- the end alone
pub last_match : (last : ℕ) (all : List Item) (key : List ℕ) (here : ℕ) → length all ≡ last → bit_at here last ≡ 1 → ((j : ℕ) → j ≢ last → bit_at here j ≡ 0) → any_match here 0 all key ≡ matches (drop last all) key
last_match last all key here is set other =
    let zero_on : 0 + last ≡ last = omega arith in
    one_mark 0 here 0 last all key (omega (arith, is)) (ap (bit_at here) zero_on ∙ set) (λ j ne. other j (λ e. ne (e ∙ sym zero_on)) ∙ sym (bit_at-zero j))
    ∙ ap (λ x. x || takes_on (drop last all) key) (no_marks 0 all key) ∙ at_end (drop last all) (drop_past last all (omega (arith, is)))
  where
    empty : (key : List ℕ) → takes_on [] key ≡ matches [] key
    empty [] = refl
    empty (b ∷ key) = refl

    at_end : (is : List Item) → is ≡ [] → takes_on is key ≡ matches is key
    at_end is e = ap (λ xs. takes_on xs key) e ∙ empty key ∙ ap (λ xs. matches xs key) (sym e)

pub none_other : (last : ℕ) (all : List Item) (key : List ℕ) → length all ≡ last → any_match 0 0 all key ≡ others (drop last all) key
none_other last all key is = no_marks 0 all key ∙ ap (λ xs. others xs key) (sym (drop_past last all (omega (arith, is))))

pub none_behind : (last : ℕ) (all : List Item) (key : List ℕ) → length all ≡ last → any_match 0 0 all key ≡ behind (drop last all) key
none_behind last all key is = no_marks 0 all key ∙ ap (λ xs. behind xs key) (sym (drop_past last all (omega (arith, is))))

-- one more place
pub more_takers : (all : List Item) (takers : List ℕ) (b new : ℕ) → b < length takers → AreTakers all b new → ((c : ℕ) → c < b → AreTakers all c (slice_index takers c))
    → (c : ℕ) → c < b + 1 → AreTakers all c (slice_index (slice_set takers b new) c)
more_takers all takers b new inside are so_far c h p = by_case (cases_eq c b)
  where
    by_case : (c ≡ b) ⊎ (c ≢ b) → bit_at (slice_index (slice_set takers b new) c) p ≡ taken_at (drop p all) c
    by_case (inl e) =
        ap (λ k. bit_at (slice_index (slice_set takers b new) k) p) e ∙ ap (λ m. bit_at m p) (get_or-set_same takers b new 0 inside)
        ∙ are p ∙ ap (taken_at (drop p all)) (sym e)
    by_case (inr apart) = ap (λ m. bit_at m p) (get_or-set_other takers b c new 0 apart) ∙ so_far c (omega (arith, h, apart)) p

pub more_followers : (all : List Item) (followers : List ℕ) (p place new : ℕ) → p + 1 ≡ place → p < length followers → ((key : List ℕ) → any_match new 0 all key ≡ after_first (drop p all) key)
    → ((q : ℕ) → place ≤ q → q < length all → (key : List ℕ) → any_match (slice_index followers q) 0 all key ≡ after_first (drop q all) key)
    → (q : ℕ) → p ≤ q → q < length all → (key : List ℕ) → any_match (slice_index (slice_set followers p new) q) 0 all key ≡ after_first (drop q all) key
more_followers all followers p place new next inside at so_far q low high key = by_case (cases_eq q p)
  where
    by_case : (q ≡ p) ⊎ (q ≢ p) → any_match (slice_index (slice_set followers p new) q) 0 all key ≡ after_first (drop q all) key
    by_case (inl e) =
        ap (λ k. any_match (slice_index (slice_set followers p new) k) 0 all key) e ∙ ap (λ m. any_match m 0 all key) (get_or-set_same followers p new 0 inside)
        ∙ at key ∙ ap (λ k. after_first (drop k all) key) (sym e)
    by_case (inr apart) = ap (λ m. any_match m 0 all key) (get_or-set_other followers p q new 0 apart) ∙ so_far q (omega (arith, low, next, apart)) high key

-- no mark is left
pub none_left : (next left marks b : ℕ) (all : List Item) (key : List ℕ) → left ≡ 0 → (any_match next 0 all key || any_match left 0 all (b ∷ key)) ≡ any_match marks 0 all (b ∷ key)
    → any_match next 0 all key ≡ any_match marks 0 all (b ∷ key)
none_left next left marks b all key none so_far =
    sym (or_end (any_match next 0 all key)) ∙ ap (λ x. any_match next 0 all key || x) (sym (ap (λ m. any_match m 0 all (b ∷ key)) none ∙ no_marks 0 all (b ∷ key))) ∙ so_far
