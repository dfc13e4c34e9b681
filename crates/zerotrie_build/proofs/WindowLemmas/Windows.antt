-- Windows as pairs, by what stands first in them.
use Rattle.std.proofs.Common.{◌≡◌, ℕ, zero, suc, ◌+◌, ◌-◌, ◌<◌, ◌≤◌, ◌⊎◌, inl, inr, List, [], ◌∷◌, ◌++◌, length, refl, sym, ◌∙◌, ap, subst, arith, get_or, take, drop, map, All, Option, Some, None, slice_get, length-drop, true, false, cond, eqb, leb, Bool}
use Rattle.std.specs.Prelude.{◌&&◌}
use Rattle.std.proofs.lemmas.Bool.{cases_lt, lt-ltb, le-ltb, le-leb}
use Rattle.std.proofs.lemmas.Bool.Decides.{eqb_tells}
use Rattle.std.proofs.lemmas.Option.{slice_get_cases, slice_get_within, get_or_from_slice_get}
use Rattle.std.proofs.lemmas.List.{drop_all, drop_more, drop-drop, get_or-drop, map-append, take_all}
use Rattle.std.proofs.Math.Seq.{take-add, drop-cons}
use Rattle.zerotrie_base.specs.Kind.{Kind, fold_byte, has_spans, edge_limit, simple_ascii, ignore_case, perfect_hash, extended_capacity}
use Rattle.zerotrie_base.specs.Maps.{Pairs, with_front, value_at}
use Rattle.zerotrie_build.specs.Order.{Before, Ordered, AreKeys}
use Rattle.zerotrie_build.specs.declared.windows.Window.{Window}
use Rattle.zerotrie_build.specs.declared.windows.Step.{Step}
use Rattle.zerotrie_build.specs.declared.windows.Step.TheVariants.{End, Value, Literal, Span, Branch}
use Rattle.zerotrie_build.specs.passes.Windows.{cut, window, item_no, byte_of, high_front, step_at, step_of}

-- the first item of a window
pub cut_first : (all : Pairs) (from to d : ℕ) → from < to → to ≤ length all → cut all from to d ≡ (drop d (item_no all from).0, (item_no all from).1) ∷ cut all (from + 1) to d
cut_first all from to d h within =
    let e : to - from ≡ suc (to - (from + 1)) = omega arith in
    ap (λ n. map (λ x. (drop d x.0, x.1)) (take n (drop from all))) e
    ∙ ap (λ xs. map (λ x. (drop d x.0, x.1)) (take (suc (to - (from + 1))) xs)) (drop_more all from ([], 0) (omega arith))

pub cut_none : (all : Pairs) (from to d : ℕ) → to ≤ from → cut all from to d ≡ []
cut_none all from to d h = ap (λ n. map (λ x. (drop d x.0, x.1)) (take n (drop from all))) (let e : to - from ≡ 0 = omega arith in e)

-- what the tests of a step found
pub record Tests (kind : Kind) (all : Pairs) (w : Window) (s : Step) : Type 0 where
  pub inside : w.from < w.to
  pub is : step_at kind (byte_of all w.from w.depth) (byte_of all (w.to - 1) w.depth) (item_no all w.from).1 (high_front (drop w.depth (item_no all w.from).0) (drop w.depth (item_no all (w.to - 1)).0)) ≡ s

pub tests : (kind : Kind) (all : Pairs) (w : Window) (s : Step) → (s ≡ End → ⊥) → step_of kind all w ≡ s → Tests kind all w s
tests kind all w s some e = elim (cases_lt w.from w.to) [
  | inl below ↦ record { inside = below; is = rw (lt-ltb w.from w.to below) at e }
  | inr past ↦ absurd (some (sym (rw (le-ltb w.from w.to past) at e)))
]

-- the step of two keys that go on with one byte
abbrev one_byte : Kind → ℕ → ℕ → Step
one_byte kind b n = cond (leb 128 b && has_spans kind) (Span n) (Literal b)

pub step_end : (kind : Kind) (all : Pairs) (w : Window) → step_of kind all w ≡ End → w.to ≤ w.from
step_end kind all w e = elim (cases_lt w.from w.to) [
  | inl below ↦ absurd (not_end (byte_of all w.from w.depth) (byte_of all (w.to - 1) w.depth) (item_no all w.from).1 _ (rw (lt-ltb w.from w.to below) at e))
  | inr past ↦ past
]
  where
    chosen : (b n : ℕ) (is : Bool) → cond is (Span n) (Literal b) ≡ End → ⊥
    chosen b n true h = cc
    chosen b n false h = cc

    same_or : (b n : ℕ) (is : Bool) → cond is (one_byte kind b n) Branch ≡ End → ⊥
    same_or b n true h = chosen b n (leb 128 b && has_spans kind) h
    same_or b n false h = cc

    not_end : (o last : Option ℕ) (x n : ℕ) → step_at kind o last x n ≡ End → ⊥
    not_end None last x n h = cc
    not_end (Some b) None x n h = cc
    not_end (Some b) (Some c) x n h = same_or b n (eqb c b) h

at_value : (kind : Kind) (o last : Option ℕ) (x n v : ℕ) → step_at kind o last x n ≡ Value v → (o ≡ None) × (x ≡ v)
at_value kind None last x n v h = (refl, cc)
at_value kind (Some b) None x n v h = absurd (cc)
at_value kind (Some b) (Some c) x n v h = absurd (other (eqb c b) h)
  where
    chosen : (is : Bool) → cond is (Span n) (Literal b) ≡ Value v → ⊥
    chosen true h = cc
    chosen false h = cc

    other : (is : Bool) → cond is (one_byte kind b n) Branch ≡ Value v → ⊥
    other true h = chosen (leb 128 b && has_spans kind) h
    other false h = cc

-- both keys go on with the byte, which no span takes
pub at_literal : (kind : Kind) (o last : Option ℕ) (x n b : ℕ) → step_at kind o last x n ≡ Literal b → (o ≡ Some b) × (last ≡ Some b) × ((leb 128 b && has_spans kind) ≡ false)
at_literal kind None last x n b h = absurd (cc)
at_literal kind (Some c) None x n b h = absurd (cc)
at_literal kind (Some c) (Some e) x n b h = elim (eqb_tells e c) [
  | inl same ↦
      let k = chosen (leb 128 c && has_spans kind) refl (rw same.0 at h) in
      (ap Some k.0, ap Some (same.1 ∙ k.0), subst (λ z. (leb 128 z && has_spans kind) ≡ false) k.0 k.1)
  | inr other ↦ absurd (let h' = rw other.0 at h in cc)
]
  where
    chosen : (is : Bool) → (leb 128 c && has_spans kind) ≡ is → cond is (Span n) (Literal c) ≡ Literal b → (c ≡ b) × ((leb 128 c && has_spans kind) ≡ false)
    chosen true e h = absurd (cc)
    chosen false e h = (cc, e)

both : (x y : Bool) → (x && y) ≡ true → (x ≡ true) × (y ≡ true)
both true y e = (refl, e)
both false y e = absurd (cc)

-- What a span found: a byte from 128 on, which both keys go on with, and how much more they have in common.
pub record High (kind : Kind) (o last : Option ℕ) (n m : ℕ) : Type 0 where
  pub byte : ℕ
  pub first : o ≡ Some byte
  pub last_too : last ≡ Some byte
  pub high : leb 128 byte ≡ true
  pub spans : has_spans kind ≡ true
  pub is : n ≡ m

pub at_span : (kind : Kind) (o last : Option ℕ) (x n m : ℕ) → step_at kind o last x n ≡ Span m → High kind o last n m
at_span kind None last x n m h = absurd (cc)
at_span kind (Some c) None x n m h = absurd (cc)
at_span kind (Some c) (Some e) x n m h = elim (eqb_tells e c) [
  | inl same ↦
      let k = chosen (leb 128 c && has_spans kind) refl (rw same.0 at h) in
      let p = both (leb 128 c) (has_spans kind) k.1 in
      record { byte = c; first = refl; last_too = ap Some same.1; high = p.0; spans = p.1; is = k.0 }
  | inr other ↦ absurd (let h' = rw other.0 at h in cc)
]
  where
    chosen : (is : Bool) → (leb 128 c && has_spans kind) ≡ is → cond is (Span n) (Literal c) ≡ Span m → (n ≡ m) × ((leb 128 c && has_spans kind) ≡ true)
    chosen true e h = (cc, e)
    chosen false e h = absurd (cc)

pub no_byte : (key : List ℕ) (d : ℕ) → slice_get key d ≡ None → drop d key ≡ []
no_byte key d h = elim (slice_get_cases key d).1 [
  | inl there ↦ absurd (let e = there.2 in cc)
  | inr past ↦ drop_all d key past.0
]

-- a value stands first
pub step_value : (kind : Kind) (all : Pairs) (w : Window) (v : ℕ) → w.to ≤ length all → step_of kind all w ≡ Value v
    → (w.from < w.to) × (window all w ≡ ([], v) ∷ window all (record w { from = w.from + 1 }))
step_value kind all w v within e =
    let t = tests kind all w (Value v) (λ h. cc) e in
    let a = at_value kind _ _ _ _ v t.is in (
      t.inside,
      cut_first all w.from w.to w.depth t.inside within ∙ ap (λ k. (k, (item_no all w.from).1) ∷ cut all (w.from + 1) w.to w.depth) (no_byte (item_no all w.from).0 w.depth a.0)
          ∙ ap (λ x. ([], x) ∷ cut all (w.from + 1) w.to w.depth) a.1,
    )

-- the key of the last pair
abbrev pub last_key : Pairs → List ℕ
last_key [] = []
last_key (e ∷ []) = e.0
last_key (e ∷ f ∷ more) = last_key (f ∷ more)

-- each key without its first byte
abbrev tails : Pairs → Pairs
tails pairs = map {B = List ℕ × ℕ} (λ e. (drop 1 e.0, e.1)) pairs

head_same : (c z : ℕ) (k l : List ℕ) → c ∷ k ≡ z ∷ l → c ≡ z
head_same c z k l e = cc

-- the folds of the first bytes do not fall
rise : (kind : Kind) (c z : ℕ) (k l : List ℕ) (v : ℕ) (more : Pairs) → Ordered kind ((c ∷ k, v) ∷ more) → last_key ((c ∷ k, v) ∷ more) ≡ z ∷ l → fold_byte kind c ≤ fold_byte kind z
rise kind c z k l v [] up e = let s = ap (fold_byte kind) (head_same c z k l e) in omega arith
rise kind c z k l v (([], u) ∷ more) up e = absurd (up.0)
rise kind c z k l v ((d ∷ m, u) ∷ more) up e = let r = rise kind d z m l u more up.1 e in step r up.0
  where
    step : fold_byte kind d ≤ fold_byte kind z → (fold_byte kind c < fold_byte kind d) ⊎ ((c ≡ d) × Before kind k m) → fold_byte kind c ≤ fold_byte kind z
    step r (inl less) = omega arith
    step r (inr same) = let s = ap (fold_byte kind) same.0 in omega arith

-- all keys share the byte of the first and the last
shared : (kind : Kind) (b : ℕ) (k l : List ℕ) (v : ℕ) (more : Pairs) → Ordered kind ((b ∷ k, v) ∷ more) → last_key ((b ∷ k, v) ∷ more) ≡ b ∷ l → (b ∷ k, v) ∷ more ≡ with_front b (tails ((b ∷ k, v) ∷ more))
shared kind b k l v [] up e = refl
shared kind b k l v (([], u) ∷ more) up e = absurd (up.0)
shared kind b k l v ((d ∷ m, u) ∷ more) up e = step (shared kind b m l u more) up.0
  where
    step : (Ordered kind ((b ∷ m, u) ∷ more) → last_key ((b ∷ m, u) ∷ more) ≡ b ∷ l → (b ∷ m, u) ∷ more ≡ with_front b (tails ((b ∷ m, u) ∷ more)))
        → (fold_byte kind b < fold_byte kind d) ⊎ ((b ≡ d) × Before kind k m) → (b ∷ k, v) ∷ (d ∷ m, u) ∷ more ≡ with_front b (tails ((b ∷ k, v) ∷ (d ∷ m, u) ∷ more))
    step on (inl less) = absurd (let r = rise kind d b m l u more up.1 e in omega arith)
    step on (inr same) =
        let f : d ≡ b = sym same.0 in
        ap (λ r. (b ∷ k, v) ∷ r) (ap (λ x. (x ∷ m, u) ∷ more) f ∙ on (subst (λ x. Ordered kind ((x ∷ m, u) ∷ more)) f up.1) (subst (λ x. last_key ((x ∷ m, u) ∷ more) ≡ b ∷ l) f e))

last_take : (d n : ℕ) (xs : Pairs) → n < length xs → last_key (map {B = List ℕ × ℕ} (λ e. (drop d e.0, e.1)) (take (suc n) xs)) ≡ drop d (get_or xs n ([], 0)).0
last_take d n [] h = absurd (omega arith)
last_take d zero (x ∷ xs) h = refl
last_take d (suc n) (x ∷ []) h = absurd (omega arith)
last_take d (suc n) (x ∷ y ∷ xs) h = last_take d n (y ∷ xs) (omega arith)

pub last_cut : (all : Pairs) (from to d : ℕ) → from < to → to ≤ length all → last_key (cut all from to d) ≡ drop d (item_no all (to - 1)).0
last_cut all from to d h within =
    let n = to - from - 1 in
    let e : to - from ≡ suc n = omega arith in
    let long = length-drop from all in
    let at : from + n ≡ to - 1 = omega arith in
    ap (λ m. last_key (map {B = List ℕ × ℕ} (λ x. (drop d x.0, x.1)) (take m (drop from all)))) e
    ∙ last_take d n (drop from all) (omega arith)
    ∙ ap (λ x. drop d x.0) (get_or-drop from all n ([], 0) ∙ ap (λ i. get_or all i ([], 0)) at)

tails_cut : (d : ℕ) (xs : Pairs) → tails (map {B = List ℕ × ℕ} (λ e. (drop d e.0, e.1)) xs) ≡ map {B = List ℕ × ℕ} (λ e. (drop (d + 1) e.0, e.1)) xs
tails_cut d [] = refl
tails_cut d (x ∷ xs) = ap (λ k. (k, x.1) ∷ tails (map {B = List ℕ × ℕ} (λ e. (drop d e.0, e.1)) xs)) (drop-drop 1 d x.0) ∙ ap (λ r. (drop (d + 1) x.0, x.1) ∷ r) (tails_cut d xs)

pub key_cut : (key : List ℕ) (d b : ℕ) → slice_get key d ≡ Some b → drop d key ≡ b ∷ drop (suc d) key
key_cut key d b h = drop-cons key d 0 (slice_get_within key d b h) ∙ ap (λ x. x ∷ drop (suc d) key) (get_or_from_slice_get key d b 0 h)

share_all : (kind : Kind) (b : ℕ) (pairs : Pairs) (k l : List ℕ) (v : ℕ) (more : Pairs) → pairs ≡ (b ∷ k, v) ∷ more → Ordered kind pairs → last_key pairs ≡ b ∷ l → pairs ≡ with_front b (tails pairs)
share_all kind b pairs k l v more e up last =
    e ∙ shared kind b k l v more (subst (Ordered kind) e up) (subst (λ p. last_key p ≡ b ∷ l) e last) ∙ ap (λ p. with_front b (tails p)) (sym e)

-- the byte with which the first and the last key go on stands in front of all
pub cut_shared : (kind : Kind) (all : Pairs) (from to d b : ℕ) (k l : List ℕ) → from < to → to ≤ length all → Ordered kind (cut all from to d) → drop d (item_no all from).0 ≡ b ∷ k → drop d (item_no all (to - 1)).0 ≡ b ∷ l
    → cut all from to d ≡ with_front b (cut all from to (d + 1))
cut_shared kind all from to d b k l inside within up first last =
    let begins = cut_first all from to d inside within ∙ ap (λ x. (x, (item_no all from).1) ∷ cut all (from + 1) to d) first in
    share_all kind b (cut all from to d) _ _ _ _ begins up (last_cut all from to d inside within ∙ last)
    ∙ ap (with_front b) (tails_cut d (take (to - from) (drop from all)))

pub ordered_front : (kind : Kind) (b : ℕ) (pairs : Pairs) → Ordered kind (with_front b pairs) → Ordered kind pairs
ordered_front kind b [] h = tt
ordered_front kind b (e ∷ []) h = (tt, tt)
ordered_front kind b (e ∷ f ∷ pairs) h = (later h.0, ordered_front kind b (f ∷ pairs) h.1)
  where
    later : (fold_byte kind b < fold_byte kind b) ⊎ ((b ≡ b) × Before kind e.0 f.0) → Before kind e.0 f.0
    later (inl l) = absurd (omega arith)
    later (inr r) = r.1

-- a byte of a key is one of the kind
pub key_byte : (kind : Kind) (all : Pairs) (i d b : ℕ) → AreKeys kind all → i < length all → byte_of all i d ≡ Some b → b < edge_limit kind
key_byte kind all i d b keys h is =
    let key = (item_no all i).0 in
    subst (λ x. x < edge_limit kind) (get_or_from_slice_get key d b 0 is) (keys i ([], 0) h d 0 (slice_get_within key d b is))

-- what is left of a key at a depth has bytes of the kind
pub rest_bytes : (kind : Kind) (all : Pairs) (i d : ℕ) (key : List ℕ) (v : ℕ) → AreKeys kind all → slice_get all i ≡ Some (key, v) → All (λ b. b < edge_limit kind) (drop d key)
rest_bytes kind all i d key v keys is k e below =
    let long = length-drop d key in
    let item : get_or all i ([], 0) ≡ (key, v) = get_or_from_slice_get all i (key, v) ([], 0) is in
    let whole : All (λ b. b < edge_limit kind) key = subst (λ x. All (λ b. b < edge_limit kind) x.0) item (keys i ([], 0) (slice_get_within all i (key, v) is)) in
    rw (get_or-drop d key k e) (whole (d + k) e (omega arith))

pub low_without : (kind : Kind) (b : ℕ) → b < edge_limit kind → (leb 128 b && has_spans kind) ≡ false → b < 128
low_without simple_ascii b h n = h
low_without ignore_case b h n = h
low_without perfect_hash b h n = elim (cases_lt b 128) [ inl low ↦ low | inr high ↦ absurd (let n' = rw (le-leb 128 b high) at n in cc) ]
low_without extended_capacity b h n = elim (cases_lt b 128) [ inl low ↦ low | inr high ↦ absurd (let n' = rw (le-leb 128 b high) at n in cc) ]

-- after the empty key all keys are longer
pub none_empty : (kind : Kind) (v : ℕ) (pairs : Pairs) → Ordered kind (([], v) ∷ pairs) → value_at kind pairs [] ≡ None
none_empty kind v [] h = refl
none_empty kind v (([], u) ∷ pairs) h = absurd (h.0)
none_empty kind v ((b ∷ k, u) ∷ pairs) h = none_longer kind b k u pairs h.1
  where
    none_longer : (kind : Kind) (b : ℕ) (k : List ℕ) (u : ℕ) (pairs : Pairs) → Ordered kind ((b ∷ k, u) ∷ pairs) → value_at kind ((b ∷ k, u) ∷ pairs) [] ≡ None
    none_longer kind b k u [] h = refl
    none_longer kind b k u (([], w) ∷ pairs) h = absurd (h.0)
    none_longer kind b k u ((c ∷ l, w) ∷ pairs) h = none_longer kind c l w pairs h.1

pub cut_append : (all : Pairs) (from mid to d : ℕ) → from ≤ mid → mid ≤ to → cut all from to d ≡ cut all from mid d ++ cut all mid to d
cut_append all from mid to d a b =
    let f : List ℕ × ℕ → List ℕ × ℕ = λ e. (drop d e.0, e.1) in
    let e : to - from ≡ (mid - from) + (to - mid) = omega arith in
    let m : from + (mid - from) ≡ mid = omega arith in
    ap (λ n. map f (take n (drop from all))) e
    ∙ ap (map f) (take-add (mid - from) (to - mid) (drop from all))
    ∙ map-append f (take (mid - from) (drop from all)) (take (to - mid) (drop (mid - from) (drop from all)))
    ∙ ap (λ x. map f (take (mid - from) (drop from all)) ++ map f (take (to - mid) x)) (drop-drop (mid - from) from all ∙ ap (λ n. drop n all) m)

cut_id : (xs : Pairs) → map {B = List ℕ × ℕ} (λ e. (drop 0 e.0, e.1)) xs ≡ xs
cut_id [] = refl
cut_id (x ∷ xs) = ap (λ r. x ∷ r) (cut_id xs)

pub cut_whole : (all : Pairs) → cut all 0 (length all) 0 ≡ all
cut_whole all = cut_id (take (length all - 0) (drop 0 all)) ∙ take_all (length all - 0) all (omega arith)
