-- Numbers of which no two are the same.
use Rattle.std.proofs.Common.{◌≡◌, ℕ, zero, suc, ◌+◌, ◌<◌, ◌≤◌, List, [], ◌∷◌, ◌++◌, length, map, get_or, take, refl, sym, ◌∙◌, ap, subst, arith, Bool, true, false, cond, eqb, eq-eqb, inl, inr, ◌⊎◌}
use Rattle.std.specs.Prelude.{filter, ◌||◌}
use Rattle.std.specs.List.{IsDistinct, list_any, flat_map, range_with_len, AllByRecursion}
use Rattle.std.proofs.lemmas.Bool.{eqb-true, eqb-false, ne_eqb}
use Rattle.std.proofs.lemmas.Bool.Decides.{eqb_tells}
use Rattle.std.proofs.lemmas.Map.Keys.{IsDistinct-head, IsDistinct-tail, IsDistinct-cons}

-- x is one of the numbers
abbrev pub Has : ℕ → List ℕ → Type 0
Has x [] = ⊥
Has x (y ∷ ys) = (x ≡ y) ⊎ Has x ys

-- no number is there twice
abbrev pub Apart : List ℕ → Type 0
Apart [] = Unit {0}
Apart (x ∷ xs) = (Has x xs → ⊥) × Apart xs

-- between these and the words of std

any_one : (b c : Bool) → (b ≡ true) ⊎ (c ≡ true) → (b || c) ≡ true
any_one true c h = refl
any_one false c (inl h) = absurd (cc)
any_one false c (inr h) = h

one_any : (b c : Bool) → (b || c) ≡ true → (b ≡ true) ⊎ (c ≡ true)
one_any true c h = inl refl
one_any false c h = inr h

pub any_has : (x : ℕ) (ys : List ℕ) → Has x ys → list_any (eqb x) ys ≡ true
any_has x [] h = absurd h
any_has x (y ∷ ys) (inl e) = any_one _ _ (inl (eq-eqb x y e))
any_has x (y ∷ ys) (inr h) = any_one _ _ (inr (any_has x ys h))

pub has_any : (x : ℕ) (ys : List ℕ) → list_any (eqb x) ys ≡ true → Has x ys
has_any x [] h = absurd (cc)
has_any x (y ∷ ys) h = elim (one_any (eqb x y) (list_any (eqb x) ys) h) [ inl e ↦ inl (eqb-true x y e) | inr e ↦ inr (has_any x ys e) ]

pub any_has_not : (x : ℕ) (ys : List ℕ) → (Has x ys → ⊥) → list_any (eqb x) ys ≡ false
any_has_not x [] h = refl
any_has_not x (y ∷ ys) h = rw (ne_eqb x y (λ e. h (inl e))) (any_has_not x ys (λ e. h (inr e)))

pub has_not_any : (x : ℕ) (ys : List ℕ) → list_any (eqb x) ys ≡ false → Has x ys → ⊥
has_not_any x ys h k = let e = any_has x ys k in cc

others : (x : ℕ) (ys : List ℕ) → (Has x ys → ⊥) → AllByRecursion (λ y. eqb x y ≡ false) ys
others x [] h = tt
others x (y ∷ ys) h = (ne_eqb x y (λ e. h (inl e)), others x ys (λ e. h (inr e)))

no_others : (x : ℕ) (ys : List ℕ) → AllByRecursion (λ y. eqb x y ≡ false) ys → Has x ys → ⊥
no_others x [] a h = h
no_others x (y ∷ ys) a (inl e) = eqb-false x y a.0 e
no_others x (y ∷ ys) a (inr h) = no_others x ys a.1 h

pub apart_distinct : (xs : List ℕ) → IsDistinct eqb xs → Apart xs
apart_distinct [] d = tt
apart_distinct (x ∷ xs) d = (no_others x xs (IsDistinct-head eqb x xs d), apart_distinct xs (IsDistinct-tail eqb x xs d))

pub distinct_none : IsDistinct eqb []
unfolding IsDistinct
distinct_none = tt

pub distinct_apart : (xs : List ℕ) → Apart xs → IsDistinct eqb xs
distinct_apart [] a = distinct_none
distinct_apart (x ∷ xs) a = IsDistinct-cons eqb x xs (others x xs a.0) (distinct_apart xs a.1)

-- what follows of lists that are joined

pub has_left : (x : ℕ) (ys zs : List ℕ) → Has x ys → Has x (ys ++ zs)
has_left x [] zs h = absurd h
has_left x (y ∷ ys) zs (inl e) = inl e
has_left x (y ∷ ys) zs (inr h) = inr (has_left x ys zs h)

pub has_right : (x : ℕ) (ys zs : List ℕ) → Has x zs → Has x (ys ++ zs)
has_right x [] zs h = h
has_right x (y ∷ ys) zs h = inr (has_right x ys zs h)

pub has_either : (x : ℕ) (ys zs : List ℕ) → Has x (ys ++ zs) → Has x ys ⊎ Has x zs
has_either x [] zs h = inr h
has_either x (y ∷ ys) zs (inl e) = inl (inl e)
has_either x (y ∷ ys) zs (inr h) = elim (has_either x ys zs h) [ inl k ↦ inl (inr k) | inr k ↦ inr k ]

pub apart_left : (ys zs : List ℕ) → Apart (ys ++ zs) → Apart ys
apart_left [] zs a = tt
apart_left (y ∷ ys) zs a = (λ h. a.0 (has_left y ys zs h), apart_left ys zs a.1)

pub apart_right : (ys zs : List ℕ) → Apart (ys ++ zs) → Apart zs
apart_right [] zs a = a
apart_right (y ∷ ys) zs a = apart_right ys zs a.1

pub apart_across : (x : ℕ) (ys zs : List ℕ) → Apart (ys ++ zs) → Has x ys → Has x zs → ⊥
apart_across x [] zs a h k = h
apart_across x (y ∷ ys) zs a (inl e) k = a.0 (has_right y ys zs (subst (λ v. Has v zs) e k))
apart_across x (y ∷ ys) zs a (inr h) k = apart_across x ys zs a.1 h k

pub apart_joined : (ys zs : List ℕ) → Apart ys → Apart zs → ((x : ℕ) → Has x ys → Has x zs → ⊥) → Apart (ys ++ zs)
apart_joined [] zs a b c = b
apart_joined (y ∷ ys) zs a b c =
    (λ h. elim (has_either y ys zs h) [ inl k ↦ a.0 k | inr k ↦ c y (inl refl) k ], apart_joined ys zs a.1 b (λ x h k. c x (inr h) k))

-- lists that are mapped and filtered

pub has_map : (f : ℕ → ℕ) (x : ℕ) (ys : List ℕ) → Has x ys → Has (f x) (map f ys)
has_map f x [] h = absurd h
has_map f x (y ∷ ys) (inl e) = inl (ap f e)
has_map f x (y ∷ ys) (inr h) = inr (has_map f x ys h)

pub from_map : (f : ℕ → ℕ) (x : ℕ) (ys : List ℕ) → Has x (map f ys) → (y : ℕ) × Has y ys × (x ≡ f y)
from_map f x [] h = absurd h
from_map f x (y ∷ ys) (inl e) = (y, inl refl, e)
from_map f x (y ∷ ys) (inr h) = let r = from_map f x ys h in (r.0, inr r.1, r.2)

pub one_source : (f : ℕ → ℕ) (xs : List ℕ) (a b : ℕ) → Apart (map f xs) → Has a xs → Has b xs → f a ≡ f b → a ≡ b
one_source f [] a b d h k e = absurd h
one_source f (x ∷ xs) a b d (inl h) (inl k) e = h ∙ sym k
one_source f (x ∷ xs) a b d (inl h) (inr k) e =
    absurd (d.0 (subst (λ v. Has v (map f xs)) (sym e ∙ ap f h) (has_map f b xs k)))
one_source f (x ∷ xs) a b d (inr h) (inl k) e =
    absurd (d.0 (subst (λ v. Has v (map f xs)) (e ∙ ap f k) (has_map f a xs h)))
one_source f (x ∷ xs) a b d (inr h) (inr k) e = one_source f xs a b d.1 h k e

pub apart_map : (f : ℕ → ℕ) (xs : List ℕ) → Apart xs → ((a b : ℕ) → Has a xs → Has b xs → f a ≡ f b → a ≡ b) → Apart (map f xs)
apart_map f [] d one = tt
apart_map f (x ∷ xs) d one = (
  λ h. let r = from_map f (f x) xs h in d.0 (subst (λ v. Has v xs) (sym (one x r.0 (inl refl) (inr r.1) r.2)) r.1),
  apart_map f xs d.1 (λ a b h k e. one a b (inr h) (inr k) e),
)

filter_chosen : (p : ℕ → Bool) (x y : ℕ) (ys : List ℕ) (b : Bool) → p y ≡ b → (Has x (filter p ys) → Has x ys × (p x ≡ true)) → Has x (cond b (y ∷ filter p ys) (filter p ys)) → Has x (y ∷ ys) × (p x ≡ true)
filter_chosen p x y ys true e rec (inl h) = (inl h, ap p h ∙ e)
filter_chosen p x y ys true e rec (inr h) = let r = rec h in (inr r.0, r.1)
filter_chosen p x y ys false e rec h = let r = rec h in (inr r.0, r.1)

pub from_filter : (p : ℕ → Bool) (x : ℕ) (ys : List ℕ) → Has x (filter p ys) → Has x ys × (p x ≡ true)
from_filter p x [] h = absurd h
from_filter p x (y ∷ ys) h = filter_chosen p x y ys (p y) refl (from_filter p x ys) h

filter_kept : (p : ℕ → Bool) (x y : ℕ) (ys : List ℕ) (b : Bool) → Has x (filter p ys) → Has x (cond b (y ∷ filter p ys) (filter p ys))
filter_kept p x y ys true h = inr h
filter_kept p x y ys false h = h

pub has_filter : (p : ℕ → Bool) (x : ℕ) (ys : List ℕ) → Has x ys → p x ≡ true → Has x (filter p ys)
has_filter p x [] h e = absurd h
has_filter p x (y ∷ ys) (inl h) e = let k : p y ≡ true = sym (ap p h) ∙ e in rw k (inl h)
has_filter p x (y ∷ ys) (inr h) e = filter_kept p x y ys (p y) (has_filter p x ys h e)

apart_kept : (p : ℕ → Bool) (y : ℕ) (ys : List ℕ) (b : Bool) → (Has y ys → ⊥) → Apart (filter p ys) → Apart (cond b (y ∷ filter p ys) (filter p ys))
apart_kept p y ys true n a = (λ h. n (from_filter p y ys h).0, a)
apart_kept p y ys false n a = a

pub apart_filter : (p : ℕ → Bool) (ys : List ℕ) → Apart ys → Apart (filter p ys)
apart_filter p [] a = tt
apart_filter p (y ∷ ys) a = apart_kept p y ys (p y) a.0 (apart_filter p ys a.1)

-- lists that are made from each number, and joined

pub has_flat_map : (g : ℕ → List ℕ) (t x : ℕ) (ts : List ℕ) → Has t ts → Has x (g t) → Has x (flat_map g ts)
has_flat_map g t x [] h k = absurd h
has_flat_map g t x (s ∷ ts) (inl e) k = has_left x (g s) (flat_map g ts) (subst (λ v. Has x (g v)) e k)
has_flat_map g t x (s ∷ ts) (inr h) k = has_right x (g s) (flat_map g ts) (has_flat_map g t x ts h k)

pub from_flat_map : (g : ℕ → List ℕ) (x : ℕ) (ts : List ℕ) → Has x (flat_map g ts) → (t : ℕ) × Has t ts × Has x (g t)
from_flat_map g x [] h = absurd h
from_flat_map g x (s ∷ ts) h =
    elim (has_either x (g s) (flat_map g ts) h) [ inl k ↦ (s, inl refl, k) | inr k ↦ (let r = from_flat_map g x ts k in (r.0, inr r.1, r.2)) ]

pub apart_flat_map : (g : ℕ → List ℕ) (ts : List ℕ) → Apart ts → ((t : ℕ) → Apart (g t)) → ((t u x : ℕ) → Has x (g t) → Has x (g u) → t ≡ u) → Apart (flat_map g ts)
apart_flat_map g [] a each one = tt
apart_flat_map g (t ∷ ts) a each one =
    apart_joined (g t) (flat_map g ts) (each t) (apart_flat_map g ts a.1 each one)
    (λ x h k. let r = from_flat_map g x ts k in a.0 (subst (λ v. Has v ts) (sym (one t r.0 x h r.2)) r.1))

-- one number of all buckets goes to one place
pub one_key : (f : ℕ → ℕ → ℕ) (keys : ℕ → List ℕ) (ts : List ℕ) (t u a b : ℕ) → Apart (flat_map (λ s. map (f s) (keys s)) ts) → Has t ts → Has u ts → Has a (keys t) → Has b (keys u) → f t a ≡ f u b → a ≡ b
one_key f keys [] t u a b d ht hu ha hb e = absurd ht
one_key f keys (s ∷ ts) t u a b d (inl et) (inl eu) ha hb e =
    one_source (f s) (keys s) a b (apart_left _ _ d) (subst (λ v. Has a (keys v)) et ha) (subst (λ v. Has b (keys v)) eu hb)
    (ap (λ v. f v a) (sym et) ∙ e ∙ ap (λ v. f v b) eu)
one_key f keys (s ∷ ts) t u a b d (inl et) (inr hu) ha hb e =
    absurd (apart_across (f t a) _ _ d (subst (λ v. Has (f v a) (map (f s) (keys s))) (sym et) (has_map (f s) a (keys s) (subst (λ v. Has a (keys v)) et ha)))
    (has_flat_map (λ s. map (f s) (keys s)) u (f t a) ts hu (subst (λ v. Has v (map (f u) (keys u))) (sym e) (has_map (f u) b (keys u) hb))))
one_key f keys (s ∷ ts) t u a b d (inr ht) (inl eu) ha hb e =
    absurd (apart_across (f u b) _ _ d (subst (λ v. Has (f v b) (map (f s) (keys s))) (sym eu) (has_map (f s) b (keys s) (subst (λ v. Has b (keys v)) eu hb)))
    (has_flat_map (λ s. map (f s) (keys s)) t (f u b) ts ht (subst (λ v. Has v (map (f t) (keys t))) e (has_map (f t) a (keys t) ha))))
one_key f keys (s ∷ ts) t u a b d (inr ht) (inr hu) ha hb e = one_key f keys ts t u a b (apart_right _ _ d) ht hu ha hb e

-- ranges, and places in lists

pub from_range : (x a n : ℕ) → Has x (range_with_len a n) → (a ≤ x) × (x < a + n)
from_range x a zero h = absurd h
from_range x a (suc n) (inl e) = (omega arith, omega arith)
from_range x a (suc n) (inr h) = let r = from_range x (a + 1) n h in (omega arith, omega arith)

pub has_range : (x a n : ℕ) → a ≤ x → x < a + n → Has x (range_with_len a n)
has_range x a zero h k = absurd (omega arith)
has_range x a (suc n) h k = elim (eqb_tells x a) [ inl e ↦ inl e.1 | inr e ↦ inr (has_range x (a + 1) n (let ne = e.1 in omega arith) (omega arith)) ]

pub apart_range : (a n : ℕ) → Apart (range_with_len a n)
apart_range a zero = tt
apart_range a (suc n) = (λ h. let r = from_range a (a + 1) n h in omega arith, apart_range (a + 1) n)

pub has_get_or : (xs : List ℕ) (i d : ℕ) → i < length xs → Has (get_or xs i d) xs
has_get_or [] i d h = absurd (omega arith)
has_get_or (x ∷ xs) zero d h = inl refl
has_get_or (x ∷ xs) (suc i) d h = inr (has_get_or xs i d (omega arith))

pub place_in : (x : ℕ) (xs : List ℕ) → Has x xs → (i : ℕ) × (i < length xs) × (get_or xs i 0 ≡ x)
place_in x [] h = absurd h
place_in x (y ∷ ys) (inl e) = (0, omega arith, sym e)
place_in x (y ∷ ys) (inr h) = let r = place_in x ys h in (suc r.0, (let l = r.1 in omega arith), r.2)

-- the one at a place is not before it
pub not_before : (xs : List ℕ) (i : ℕ) → i < length xs → Apart xs → Has (get_or xs i 0) (take i xs) → ⊥
not_before [] i h a k = omega arith
not_before (x ∷ xs) zero h a k = k
not_before (x ∷ xs) (suc i) h a (inl e) = a.0 (subst (λ v. Has v xs) e (has_get_or xs i 0 (omega arith)))
not_before (x ∷ xs) (suc i) h a (inr k) = not_before xs i (omega arith) a.1 k
