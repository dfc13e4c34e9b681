-- The edges in the order of a kind's tables.
use Rattle.std.proofs.Common.{◌≡◌, ℕ, zero, suc, ◌+◌, ◌<◌, ◌≤◌, List, [], ◌∷◌, length, refl, sym, ◌∙◌, ap, subst, arith, inl, inr, map, Bool, true, false, cond, eqb, ltb}
use Rattle.std.specs.Prelude.{◌||◌, filter}
use Rattle.std.specs.List.{range_with_len}
use Rattle.std.proofs.lemmas.Bool.{eq-eqb, eqb-true, ne_eqb, lt-ltb, le-ltb, cases_lt, cases_eq, or_cases}
use Rattle.std.proofs.lemmas.List.Sums.{sum_by-cons}
use Rattle.zerotrie_base.specs.Kind.{Kind, simple_ascii, ignore_case, perfect_hash, extended_capacity, fold_byte, ordered, sorted_by, put_by}
use Rattle.zerotrie_base.specs.Maps.{Pairs, begins_some, edges}
use Rattle.zerotrie_base.specs.Branches.{total}
use Rattle.zerotrie_base.proofs.MapLemmas.Edges.{Rise, Rise-lower, member, member-below, member_head, member_later}
use Rattle.zerotrie_base.proofs.NodeLemmas.Tables.{Each, NoneLike, Distinct, Rises, AllAbove, AllAbove-lower}

swap_or : (x y z : Bool) → (x || (y || z)) ≡ (y || (x || z))
swap_or true true z = refl
swap_or true false z = refl
swap_or false y z = refl

-- the test may go either way
both : {A : Type 0} (P : A → Type 0) (b : Bool) (x y : A) → P x → P y → P (cond b x y)
both P true x y h k = h
both P false x y h k = k

member-put_by : (fold : ℕ → ℕ) (a b : ℕ) (es : List ℕ) → member b (put_by fold a es) ≡ (eqb a b || member b es)
member-put_by fold a b [] = refl
member-put_by fold a b (c ∷ es) = both (λ x. member b x ≡ (eqb a b || member b (c ∷ es))) (ltb (fold c) (fold a)) (c ∷ put_by fold a es) (a ∷ c ∷ es)
    (ap (λ x. eqb c b || x) (member-put_by fold a b es) ∙ swap_or (eqb c b) (eqb a b) (member b es)) refl

member-sorted_by : (fold : ℕ → ℕ) (b : ℕ) (es : List ℕ) → member b (sorted_by fold es) ≡ member b es
member-sorted_by fold b [] = refl
member-sorted_by fold b (e ∷ es) = member-put_by fold e b (sorted_by fold es) ∙ ap (λ x. eqb e b || x) (member-sorted_by fold b es)

-- the same edges are there
pub member-ordered : (kind : Kind) (b : ℕ) (es : List ℕ) → member b (ordered kind es) ≡ member b es
member-ordered simple_ascii b es = refl
member-ordered ignore_case b es = member-sorted_by (fold_byte ignore_case) b es
member-ordered perfect_hash b es = refl
member-ordered extended_capacity b es = refl

length-put_by : (fold : ℕ → ℕ) (a : ℕ) (es : List ℕ) → length (put_by fold a es) ≡ suc (length es)
length-put_by fold a [] = refl
length-put_by fold a (c ∷ es) = both (λ x. length x ≡ suc (suc (length es))) (ltb (fold c) (fold a)) (c ∷ put_by fold a es) (a ∷ c ∷ es) (ap suc (length-put_by fold a es)) refl

pub length-sorted_by : (fold : ℕ → ℕ) (es : List ℕ) → length (sorted_by fold es) ≡ length es
length-sorted_by fold [] = refl
length-sorted_by fold (e ∷ es) = length-put_by fold e (sorted_by fold es) ∙ ap suc (length-sorted_by fold es)

pub length-ordered : (kind : Kind) (es : List ℕ) → length (ordered kind es) ≡ length es
length-ordered simple_ascii es = refl
length-ordered ignore_case es = length-sorted_by (fold_byte ignore_case) es
length-ordered perfect_hash es = refl
length-ordered extended_capacity es = refl

total-cons : (x : ℕ) (xs : List ℕ) → total (x ∷ xs) ≡ x + total xs
total-cons x xs = sum_by-cons (λ y. y) x xs

total-put_by : (fold f : ℕ → ℕ) (a : ℕ) (es : List ℕ) → total (map f (put_by fold a es)) ≡ f a + total (map f es)
total-put_by fold f a [] = total-cons (f a) []
total-put_by fold f a (c ∷ es) = both (λ x. total (map f x) ≡ f a + total (map f (c ∷ es))) (ltb (fold c) (fold a)) (c ∷ put_by fold a es) (a ∷ c ∷ es)
    (let first = total-cons (f c) (map f (put_by fold a es)) in let rest = total-put_by fold f a es in let last = total-cons (f c) (map f es) in omega arith)
    (total-cons (f a) (map f (c ∷ es)))

pub total-sorted_by : (fold f : ℕ → ℕ) (es : List ℕ) → total (map f (sorted_by fold es)) ≡ total (map f es)
total-sorted_by fold f [] = refl
total-sorted_by fold f (e ∷ es) =
    total-put_by fold f e (sorted_by fold es) ∙ ap (λ n. f e + n) (total-sorted_by fold f es) ∙ sym (total-cons (f e) (map f es))

-- sums over the edges stay
pub total-ordered : (kind : Kind) (f : ℕ → ℕ) (es : List ℕ) → total (map f (ordered kind es)) ≡ total (map f es)
total-ordered simple_ascii f es = refl
total-ordered ignore_case f es = total-sorted_by (fold_byte ignore_case) f es
total-ordered perfect_hash f es = refl
total-ordered extended_capacity f es = refl

-- what is so of each edge stays
pub Each-put_by : (P : ℕ → Type 0) (fold : ℕ → ℕ) (a : ℕ) (es : List ℕ) → P a → Each P es → Each P (put_by fold a es)
Each-put_by P fold a [] here each = (here, tt)
Each-put_by P fold a (c ∷ es) here each = both (Each P) (ltb (fold c) (fold a)) (c ∷ put_by fold a es) (a ∷ c ∷ es) (each.0, Each-put_by P fold a es here each.1) (here, each)

Each-sorted_by : (P : ℕ → Type 0) (fold : ℕ → ℕ) (es : List ℕ) → Each P es → Each P (sorted_by fold es)
Each-sorted_by P fold [] each = tt
Each-sorted_by P fold (e ∷ es) each = Each-put_by P fold e (sorted_by fold es) each.0 (Each-sorted_by P fold es each.1)

-- by the test of members
pub Each-member : (P : ℕ → Type 0) (es : List ℕ) → ((b : ℕ) → member b es ≡ true → P b) → Each P es
Each-member P [] h = tt
Each-member P (e ∷ es) h = (h e (member_head e es), Each-member P es (λ b m. h b (member_later b e es m)))

above_put : (kind : Kind) (x a : ℕ) (es : List ℕ) → x < fold_byte kind a → AllAbove kind x es → AllAbove kind x (put_by (fold_byte kind) a es)
above_put kind x a [] h up = (h, tt)
above_put kind x a (c ∷ es) h up = both (AllAbove kind x) (ltb (fold_byte kind c) (fold_byte kind a)) (c ∷ put_by (fold_byte kind) a es) (a ∷ c ∷ es) (up.0, above_put kind x a es h up.1) (h, up)

rises_put : (kind : Kind) (a : ℕ) (es : List ℕ) → NoneLike kind a es → Rises kind es → Rises kind (put_by (fold_byte kind) a es)
rises_put kind a [] apart up = (tt, tt)
rises_put kind a (c ∷ es) apart up = elim (cases_lt (fold_byte kind c) (fold_byte kind a)) [
  | inl less ↦ rw (lt-ltb (fold_byte kind c) (fold_byte kind a) less) (above_put kind (fold_byte kind c) a es less up.0, rises_put kind a es apart.1 up.1)
  | inr more ↦
      let ne = apart.0 in
      let first : fold_byte kind a < fold_byte kind c = above_or (fold_byte kind a) (fold_byte kind c) more ne in
      rw (le-ltb (fold_byte kind c) (fold_byte kind a) more) ((first, AllAbove-lower kind (fold_byte kind a) (fold_byte kind c) es first up.0), up)
]
  where
    above_or : (a b : ℕ) → a ≤ b → (a ≡ b → ⊥) → a < b
    above_or a b le ne = omega arith

rises_sorted : (kind : Kind) (es : List ℕ) → Distinct kind es → Rises kind (sorted_by (fold_byte kind) es)
rises_sorted kind [] apart = tt
rises_sorted kind (e ∷ es) apart = rises_put kind e (sorted_by (fold_byte kind) es) (Each-sorted_by _ (fold_byte kind) es apart.0) (rises_sorted kind es apart.1)

rise_above : (kind : Kind) → ((b : ℕ) → fold_byte kind b ≡ b) → (x low high : ℕ) (es : List ℕ) → x < low → Rise low high es → AllAbove kind x es
rise_above kind keeps x low high [] h r = tt
rise_above kind keeps x low high (e ∷ es) h r = (let k = keeps e in omega (arith, r.0), rise_above kind keeps x (suc e) high es (omega (arith, r.0)) r.2)

-- edges that rise by byte rise by fold, if the fold is the byte
pub rise_rises : (kind : Kind) → ((b : ℕ) → fold_byte kind b ≡ b) → (low high : ℕ) (es : List ℕ) → Rise low high es → Rises kind es
rise_rises kind keeps low high [] r = tt
rise_rises kind keeps low high (e ∷ es) r = (let k = keeps e in rise_above kind keeps (fold_byte kind e) (suc e) high es (omega arith) r.2, rise_rises kind keeps (suc e) high es r.2)

-- they rise in the order of the kind
pub rises_ordered : (kind : Kind) (low high : ℕ) (es : List ℕ) → Rise low high es → Distinct kind es → Rises kind (ordered kind es)
rises_ordered simple_ascii low high es rise apart = rise_rises simple_ascii (λ b. refl) low high es rise
rises_ordered ignore_case low high es rise apart = rises_sorted ignore_case es apart
rises_ordered perfect_hash low high es rise apart = rise_rises perfect_hash (λ b. refl) low high es rise
rises_ordered extended_capacity low high es rise apart = rise_rises extended_capacity (λ b. refl) low high es rise

-- a fold that is not above is no member
pub not_member : (kind : Kind) (x b : ℕ) (es : List ℕ) → fold_byte kind b ≤ x → AllAbove kind x es → member b es ≡ false
not_member kind x b [] h a = refl
not_member kind x b (e ∷ es) h a =
    let up = a.0 in
    rw (ne_eqb e b (λ s. (let f = ap (fold_byte kind) s in omega arith))) (not_member kind x b es h a.1)

member_above : (kind : Kind) (x b : ℕ) (es : List ℕ) → AllAbove kind x es → member b es ≡ true → x < fold_byte kind b
member_above kind x b [] a m = absurd (cc)
member_above kind x b (e ∷ es) a m = elim (or_cases (eqb e b) (member b es) m) [
  | inl here ↦ subst (λ c. x < fold_byte kind c) (eqb-true e b here) a.0
  | inr later ↦ member_above kind x b es a.1 later
]

-- the first of two that rise and have the same members is one
same_first : (kind : Kind) (x y : ℕ) (xs ys : List ℕ) → Rises kind (x ∷ xs) → Rises kind (y ∷ ys) → ((b : ℕ) → member b (x ∷ xs) ≡ member b (y ∷ ys)) → x ≡ y
same_first kind x y xs ys up vp same =
    let in_y : (eqb y x || member x ys) ≡ true = sym (same x) ∙ rw (eq-eqb x x refl) refl in
    let in_x : (eqb x y || member y xs) ≡ true = same y ∙ rw (eq-eqb y y refl) refl in
    elim (or_cases (eqb y x) (member x ys) in_y) [
      | inl here ↦ sym (eqb-true y x here)
      | inr later ↦ elim (or_cases (eqb x y) (member y xs) in_x) [
        | inl here ↦ eqb-true x y here
        | inr too ↦ absurd (let a = member_above kind (fold_byte kind y) x ys vp.0 later in let b = member_above kind (fold_byte kind x) y xs up.0 too in omega arith)
      ]
    ]

same_behind : (kind : Kind) (x b : ℕ) (xs ys : List ℕ) → AllAbove kind (fold_byte kind x) xs → AllAbove kind (fold_byte kind x) ys → member b (x ∷ xs) ≡ member b (x ∷ ys) → member b xs ≡ member b ys
same_behind kind x b xs ys up vp same = elim (cases_eq x b) [
  | inl is ↦
      let low : fold_byte kind b ≤ fold_byte kind x = (let f = ap (fold_byte kind) is in omega arith) in
      not_member kind (fold_byte kind x) b xs low up ∙ sym (not_member kind (fold_byte kind x) b ys low vp)
  | inr other ↦ rw (ne_eqb x b other) at same
]

-- Edges that rise by fold are given by their members.
pub rises_once : (kind : Kind) (xs ys : List ℕ) → Rises kind xs → Rises kind ys → ((b : ℕ) → member b xs ≡ member b ys) → xs ≡ ys
rises_once kind [] [] up vp same = refl
rises_once kind [] (y ∷ ys) up vp same = absurd (let m : false ≡ true = same y ∙ rw (eq-eqb y y refl) refl in cc)
rises_once kind (x ∷ xs) [] up vp same = absurd (let m : false ≡ true = sym (same x) ∙ rw (eq-eqb x x refl) refl in cc)
rises_once kind (x ∷ xs) (y ∷ ys) up vp same =
    let first : x ≡ y = same_first kind x y xs ys up vp same in
    let vp' : Rises kind (x ∷ ys) = subst (λ z. Rises kind (z ∷ ys)) (sym first) vp in
    let same' : (b : ℕ) → member b (x ∷ xs) ≡ member b (x ∷ ys) = subst (λ z. (b : ℕ) → member b (x ∷ xs) ≡ member b (z ∷ ys)) (sym first) same in
    ap (λ z. x ∷ z) (rises_once kind xs ys up.1 vp'.1 (λ b. same_behind kind x b xs ys up.0 vp'.0 (same' b))) ∙ ap (λ z. z ∷ ys) first

-- members that rise have one fold only if they are one
pub member_fold : (kind : Kind) (es : List ℕ) → Rises kind es → (b c : ℕ) → member b es ≡ true → member c es ≡ true → fold_byte kind b ≡ fold_byte kind c → b ≡ c
member_fold kind [] up b c m n same = absurd (cc)
member_fold kind (e ∷ es) up b c m n same = elim (or_cases (eqb e b) (member b es) m) [
  | inl b_here ↦ elim (or_cases (eqb e c) (member c es) n) [
    | inl c_here ↦ sym (eqb-true e b b_here) ∙ eqb-true e c c_here
    | inr c_later ↦ absurd (let a = member_above kind (fold_byte kind e) c es up.0 c_later in let f = ap (fold_byte kind) (eqb-true e b b_here) in omega arith)
  ]
  | inr b_later ↦ elim (or_cases (eqb e c) (member c es) n) [
    | inl c_here ↦ absurd (let a = member_above kind (fold_byte kind e) b es up.0 b_later in let f = ap (fold_byte kind) (eqb-true e c c_here) in omega arith)
    | inr c_later ↦ member_fold kind es up.1 b c b_later c_later same
  ]
]

pub member_from : (low high : ℕ) (b : ℕ) (es : List ℕ) → Rise low high es → member b es ≡ true → low ≤ b
member_from low high b [] r m = absurd (cc)
member_from low high b (e ∷ es) r m = elim (or_cases (eqb e b) (member b es) m) [
  | inl here ↦ (let s = eqb-true e b here in omega (arith, r.0))
  | inr later ↦ (let h = member_from (suc e) high b es r.2 later in omega (arith, r.0))
]

-- edges that rise by byte are apart, if two of one fold are one
pub rise_apart : (kind : Kind) (low high : ℕ) (es : List ℕ) → Rise low high es → ((b c : ℕ) → member b es ≡ true → member c es ≡ true → fold_byte kind b ≡ fold_byte kind c → b ≡ c) → Distinct kind es
rise_apart kind low high [] r one = tt
rise_apart kind low high (e ∷ es) r one = (
  Each-member _ es (λ f m same. let h = member_from (suc e) high f es r.2 m in let is = one e f (member_head e es) (member_later f e es m) same in omega arith),
  rise_apart kind (suc e) high es r.2 (λ b c m n same. one b c (member_later b e es m) (member_later c e es n) same),
)

-- The order of the kind is the one order by fold of the same members.
pub ordered_is : (kind : Kind) (low high : ℕ) (es es' : List ℕ) → Rise low high es → Rises kind es' → ((b : ℕ) → member b es ≡ member b es') → ordered kind es ≡ es'
ordered_is kind low high es es' rise up same =
    let apart = rise_apart kind low high es rise (λ b c m n f. member_fold kind es' up b c (sym (same b) ∙ m) (sym (same c) ∙ n) f) in
    rises_once kind (ordered kind es) es' (rises_ordered kind low high es rise apart) up (λ b. member-ordered kind b es ∙ same b)

byte_distinct : (kind : Kind) (es : List ℕ) → Distinct kind es → Distinct simple_ascii es
byte_distinct kind [] apart = tt
byte_distinct kind (e ∷ es) apart = (others es apart.0, byte_distinct kind es apart.1)
  where
    others : (fs : List ℕ) → NoneLike kind e fs → NoneLike simple_ascii e fs
    others [] none = tt
    others (f ∷ fs) none = ((λ same. none.0 (ap (fold_byte kind) same)), others fs none.1)

-- Edges that rise by byte are any distinct ones with the same members, sorted.
pub sorted_is : (kind : Kind) (low high : ℕ) (es es' : List ℕ) → Rise low high es → Distinct kind es' → ((b : ℕ) → member b es ≡ member b es') → es ≡ sorted_by (λ b. b) es'
sorted_is kind low high es es' rise apart same =
    rises_once simple_ascii es (sorted_by (λ b. b) es') (rise_rises simple_ascii (λ b. refl) low high es rise) (rises_sorted simple_ascii es' (byte_distinct kind es' apart))
    (λ b. same b ∙ sym (member-sorted_by (λ b. b) b es'))

-- the edges of pairs rise by byte
rise-filter : (p : ℕ → Bool) (a n high : ℕ) → a + n ≡ high → Rise a high (filter p (range_with_len a n))
rise-filter p a zero high h = tt
rise-filter p a (suc n) high h = both (Rise a high) (p a) (a ∷ filter p (range_with_len (a + 1) n)) (filter p (range_with_len (a + 1) n))
    (omega arith, omega arith, subst (λ k. Rise k high (filter p (range_with_len (a + 1) n))) (let e : a + 1 ≡ suc a = omega arith in e) (rise-filter p (a + 1) n high (omega arith)))
    (Rise-lower a (a + 1) high (filter p (range_with_len (a + 1) n)) (omega arith) (rise-filter p (a + 1) n high (omega arith)))

pub edges_rise : (pairs : Pairs) → Rise 0 256 (edges pairs)
unfolding edges
edges_rise pairs = rise-filter (begins_some pairs) 0 256 256 refl

next_of : (p : ℕ → Bool) (a n b : ℕ) → member b (filter p (range_with_len (a + 1) n)) ≡ p b → (a ≡ b → ⊥) → member b (cond (p a) (a ∷ filter p (range_with_len (a + 1) n)) (filter p (range_with_len (a + 1) n))) ≡ p b
next_of p a n b h other =
    both (λ x. member b x ≡ p b) (p a) (a ∷ filter p (range_with_len (a + 1) n)) (filter p (range_with_len (a + 1) n)) (rw (ne_eqb a b other) h) h

first_of : (p : ℕ → Bool) (a n : ℕ) (t : Bool) → p a ≡ t → member a (cond (p a) (a ∷ filter p (range_with_len (a + 1) n)) (filter p (range_with_len (a + 1) n))) ≡ p a
first_of p a n true is = rw (is, eq-eqb a a refl) refl
first_of p a n false is = rw is (member-below a (a + 1) ((a + 1) + n) (filter p (range_with_len (a + 1) n)) (omega arith) (rise-filter p (a + 1) n ((a + 1) + n) refl))

member-filter : (p : ℕ → Bool) (a n b : ℕ) → a ≤ b → b < a + n → member b (filter p (range_with_len a n)) ≡ p b
member-filter p a zero b h k = absurd (omega arith)
member-filter p a (suc n) b h k = elim (cases_eq a b) [
  | inl is ↦ subst (λ c. member c (filter p (range_with_len a (suc n))) ≡ p c) is (first_of p a n (p a) refl)
  | inr other ↦ next_of p a n b (member-filter p (a + 1) n b (omega arith) (omega arith)) other
]

pub member-edges : (pairs : Pairs) (b : ℕ) → b < 256 → member b (edges pairs) ≡ begins_some pairs b
unfolding edges
member-edges pairs b h = member-filter (begins_some pairs) 0 256 b (omega arith) (omega arith)

pub member-past : (low high : ℕ) (b : ℕ) (es : List ℕ) → Rise low high es → high ≤ b → member b es ≡ false
member-past low high b [] r h = refl
member-past low high b (e ∷ es) r h = rw (ne_eqb e b (λ s. omega (arith, r.1))) (member-past (suc e) high b es r.2 h)

pub member-edges_past : (pairs : Pairs) (b : ℕ) → 256 ≤ b → member b (edges pairs) ≡ false
member-edges_past pairs b h = member-past 0 256 b (edges pairs) (edges_rise pairs) h
