-- Pairs that are written one after another at the front of three rooms.
use Rattle.std.proofs.Common.{◌≡◌, ℕ, suc, ◌+◌, ◌<◌, ◌≤◌, ◌⊎◌, inl, inr, List, [], ◌∷◌, ◌++◌, length, take, drop, set, refl, sym, ◌∙◌, ap, subst, arith, add-one, Bool, true, append_assoc, length-append, Result, Ok, Err, IfOk}
use Rattle.std.proofs.lemmas.List.{append-nil, take_at, take-append-drop, length-take-le, length-drop, set_split}
use Rattle.std.proofs.lemmas.Bool.{cases_lt}
use Rattle.std.proofs.lemmas.List.Elements.{filter-append}
use Rattle.std.proofs.Math.Seq.{drop-append-add}
use Rattle.zerotrie_core.specs.Kind.{Kind}
use Rattle.zerotrie_core.specs.Listings.{to_come}
use Rattle.zerotrie_core.specs.Maps.{Pairs, Map}
use Rattle.zerotrie_core.specs.Texts.{Means}
use Rattle.zerotrie_core.specs.WellFormed.{IsWellFormed}
use Rattle.zerotrie_search.specs.Searches.{accepted}
use Rattle.zerotrie_search.specs.Sorted.{Sorting}
use Rattle.zerotrie_c.specs.Listed.{joined, ends_from, values_of, Part, part, IsPut, IsWritten, HasNoRoom, IsListedSome}

drop_again : {A : Type 0} (n m : ℕ) (xs : List A) → n ≤ length xs → drop m (drop n xs) ≡ drop (n + m) xs
drop_again n m xs h =
    let len : length (take n xs) ≡ n = length-take-le n xs h in
    sym (ap (λ k. drop (k + m) xs) (sym len) ∙ ap (drop (length (take n xs) + m)) (sym (take-append-drop n xs)) ∙ drop-append-add (take n xs) (drop n xs) m)

-- more elements after those that stand at the front of a room
pub put_more : {A : Type 0} (xs ys old room : List A) (p : ℕ) → IsPut xs true old room → p ≡ length xs → p + length ys ≤ length room
    → IsPut (xs ++ ys) true old (take p room ++ (ys ++ drop (p + length ys) room))
put_more xs ys old room p put at fits =
    let rest = drop (length xs) old in
    let len = length-append xs ys in
    let room_len : length room ≡ length xs + length rest = ap length put.1 ∙ length-append xs rest in
    let rest_len = length-drop (length xs) old in
    let within = put.0 in
    let whole : length (xs ++ ys) ≤ length old = omega arith in (
      whole,
      ap (λ r. take p r ++ (ys ++ drop (p + length ys) r)) put.1
          ∙ ap (λ n. take n (xs ++ rest) ++ (ys ++ drop (n + length ys) (xs ++ rest))) at
          ∙ ap (λ t. t ++ (ys ++ drop (length xs + length ys) (xs ++ rest))) (take_at xs rest (length xs) refl)
          ∙ ap (λ d. xs ++ (ys ++ d)) (drop-append-add xs rest (length ys) ∙ drop_again (length xs) (length ys) old within)
          ∙ sym (append_assoc xs ys (drop (length xs + length ys) old))
          ∙ ap (λ n. (xs ++ ys) ++ drop n old) (sym len),
    )

pub set_more : {A : Type 0} (xs : List A) (v : A) (old room : List A) (p : ℕ) → IsPut xs true old room → p ≡ length xs → p < length room → IsPut (xs ++ v ∷ []) true old (set room p v)
set_more xs v old room p put at inside =
    let split : set room p v ≡ take p room ++ v ∷ drop (p + 1) room = set_split room p v inside ∙ ap (λ n. take p room ++ v ∷ drop n room) (sym (add-one p)) in
    subst (λ r. IsPut (xs ++ v ∷ []) true old r) (sym split) (put_more xs (v ∷ []) old room p put at (omega arith))

pub joined_more : {V : Type 0} (ps : List (List ℕ × V)) (k : List ℕ) (v : V) → joined (ps ++ (k, v) ∷ []) ≡ joined ps ++ k
joined_more [] k v = append-nil k
joined_more (p ∷ ps) k v = ap (λ x. p.0 ++ x) (joined_more ps k v) ∙ sym (append_assoc p.0 (joined ps) k)

pub first_end : (n a : ℕ) → n + a ≡ n + 0 + a
first_end n a = omega arith

pub next_end : (n a b c d : ℕ) → d ≡ a + b → n + a + b + c ≡ n + d + c
next_end n a b c d e = omega arith

ends_more : (n : ℕ) (ps : Pairs) (k : List ℕ) (v : ℕ) → ends_from n (ps ++ (k, v) ∷ []) ≡ ends_from n ps ++ (n + length (joined ps) + length k) ∷ []
ends_more n [] k v = ap (λ e. e ∷ []) (first_end n (length k))
ends_more n (p ∷ ps) k v =
    ap (λ x. (n + length p.0) ∷ x)
    (ends_more (n + length p.0) ps k v
    ∙ ap (λ e. ends_from (n + length p.0) ps ++ e ∷ []) (next_end n (length p.0) (length (joined ps)) (length k) (length (joined (p ∷ ps))) (length-append p.0 (joined ps))))

values_more : (ps : Pairs) (k : List ℕ) (v : ℕ) → values_of (ps ++ (k, v) ∷ []) ≡ values_of ps ++ v ∷ []
values_more [] k v = refl
values_more (p ∷ ps) k v = ap (λ x. p.1 ∷ x) (values_more ps k v)

pub ends_len : (n : ℕ) (ps : Pairs) → length (ends_from n ps) ≡ length ps
ends_len n [] = refl
ends_len n (p ∷ ps) = ap suc (ends_len (n + length p.0) ps)

pub values_len : (ps : Pairs) → length (values_of ps) ≡ length ps
values_len [] = refl
values_len (p ∷ ps) = ap suc (values_len ps)

-- nothing is written
pub nothing_written : (before : Part) → IsWritten [] before before
nothing_written before = ((omega arith, refl), (omega arith, refl), (omega arith, refl))

-- These pairs are written, as many as are counted, and their keys take this much.
pub record Going (found : Pairs) (before after : Part) (used : ℕ) : Type 0 where
  pub count_is : after.count ≡ length found
  pub used_is : used ≡ length (joined found)
  pub done : IsWritten found before after

-- nothing is written yet
pub going_start : (keys ends values : List ℕ) (next_len : ℕ) → Going [] (part keys ends values 0 next_len) (part keys ends values 0 next_len) 0
going_start keys ends values next_len = record { count_is = refl; used_is = refl; done = nothing_written (part keys ends values 0 next_len) }

from_none : (n m : ℕ) → 0 + n + m ≡ n + m
from_none n m = omega arith

-- a pair more
pub going_more : {found : Pairs} {before after : Part} {used : ℕ} → Going found before after used
    → (key : List ℕ) (v : ℕ) → used + length key ≤ length after.keys → after.count < length after.ends → after.count < length after.values
    → Going (found ++ (key, v) ∷ []) before
    (part (take used after.keys ++ (key ++ drop (used + length key) after.keys)) (set after.ends after.count (used + length key)) (set after.values after.count v) (after.count + 1) after.next_len)
    (used + length key)
going_more {found} {before} {after} {used} g key v fits room_ends room_values =
    let w = found in
    let e = (key, v) ∷ [] in
    let used_is = g.used_is in
    let end : ends_from 0 (w ++ e) ≡ ends_from 0 w ++ (used + length key) ∷ [] =
    ends_more 0 w key v ∙ ap (λ n. ends_from 0 w ++ n ∷ []) (from_none (length (joined w)) (length key) ∙ ap (λ n. n + length key) (sym used_is)) in
    record {
      count_is = ap (λ n. n + 1) g.count_is ∙ sym (length-append w e);
      used_is = ap (λ n. n + length key) used_is ∙ sym (length-append (joined w) key) ∙ ap length (sym (joined_more w key v));
      done = (
        subst (λ x. IsPut x true before.keys (take used after.keys ++ (key ++ drop (used + length key) after.keys))) (sym (joined_more w key v)) (put_more (joined w) key before.keys after.keys used g.done.0 used_is fits),
        subst (λ x. IsPut x true before.ends (set after.ends after.count (used + length key))) (sym end) (set_more (ends_from 0 w) (used + length key) before.ends after.ends after.count g.done.1 (g.count_is ∙ sym (ends_len 0 w)) room_ends),
        subst (λ x. IsPut x true before.values (set after.values after.count v)) (sym (values_more w key v)) (set_more (values_of w) v before.values after.values after.count g.done.2 (g.count_is ∙ sym (values_len w)) room_values),
      );
    }

-- each of these pairs is one that a listing takes, and so is one more
pub taken_more : (takes : List ℕ → Bool) (found : Pairs) (key : List ℕ) (v : ℕ) → accepted takes found ≡ found → takes key ≡ true → accepted takes (found ++ (key, v) ∷ []) ≡ found ++ (key, v) ∷ []
taken_more takes found key v so_far is = filter-append (λ e. takes e.0) found ((key, v) ∷ []) ∙ ap (λ ps. ps ++ accepted takes ((key, v) ∷ [])) so_far ∙ rw is refl

-- some room has too few places
pub no_room : (keys ends values used count len : ℕ) → (used + len ≤ keys → count < ends → count < values → ⊥) → (keys < used + len) ⊎ ((ends ≤ count) ⊎ (values ≤ count))
no_room keys ends values used count len full = elim (cases_lt keys (used + len)) [
  | inl short ↦ inl short
  | inr fits ↦ elim (cases_lt count ends) [
    | inr few ↦ inr (inl few)
    | inl some ↦ elim (cases_lt count values) [
      | inr few ↦ inr (inr few)
      | inl more ↦ absurd (full fits some more)
    ]
  ]
]

-- a room keeps its length
pub placed_len : (ys room : List ℕ) (p : ℕ) → p + length ys ≤ length room → length (take p room ++ (ys ++ drop (p + length ys) room)) ≡ length room
placed_len ys room p fits =
    let a = length-append (take p room) (ys ++ drop (p + length ys) room) in
    let b = length-append ys (drop (p + length ys) room) in
    let c = length-take-le p room (omega arith) in
    let d = length-drop (p + length ys) room in
    omega arith

-- the next pair has no place in some room
pub has_no_room : {found : Pairs} {before after : Part} {used : ℕ} → Going found before after used → (values : ℕ) (key : List ℕ) (v : ℕ) (left : Pairs)
    → (used + length key ≤ length before.keys → after.count < length before.ends → after.count < values → ⊥)
    → HasNoRoom (length before.keys) (length before.ends) values found ((key, v) ∷ left) (length key)
has_no_room {found} {before} {after} {used} g values key v left full =
    let over = no_room (length before.keys) (length before.ends) values used after.count (length key) full in
    let over = subst (λ n. (length before.keys < n + length key) ⊎ ((length before.ends ≤ after.count) ⊎ (values ≤ after.count))) g.used_is over in
    (refl, subst (λ n. (length before.keys < length (joined found) + length key) ⊎ ((length before.ends ≤ n) ⊎ (values ≤ n))) g.count_is over)

-- a sorted listing of a trie is of valid bytes, and has the pairs of its map
pub valid_sorted : {E : Type 0} {kind : Kind} {bytes : List ℕ} (pairs : Map → Pairs) (r : Result Sorting E)
    → IfOk r (λ s. (m : Map) → Means kind bytes m → s.left ≡ to_come (pairs m)) → IfOk r (λ s. s.kind ≡ kind) → IfOk r (λ s. s.bytes ≡ bytes)
    → (m : Map) → Means kind bytes m → IfOk r (λ s. IsWellFormed s.kind s.bytes × (s.left.pairs ≡ pairs m))
valid_sorted {kind = kind} {bytes = bytes} pairs (Ok s) left kind_is bytes_is m means =
    let well : IsWellFormed kind bytes = (m, means) in
    (subst (λ k. IsWellFormed k s.bytes) (sym kind_is) (subst (λ b. IsWellFormed kind b) (sym bytes_is) well), ap (λ l. l.pairs) (left m means))
valid_sorted pairs (Err e) left kind_is bytes_is m means = tt

-- what a search reads is valid if the listing is, and has as many pairs
pub still_valid : {s t : Sorting} → s ≡ t → IsWellFormed t.kind t.bytes → IsWellFormed s.kind s.bytes
still_valid {s} {t} is well = subst (λ r. IsWellFormed r.kind r.bytes) (sym is) well

pub at_most : {s t : Sorting} → s ≡ t → s.most ≤ t.most
at_most {s} {t} is = let same = ap (λ r. r.most) is in omega (arith, same)

-- no pair is written, since an allocation failed
pub none_listed : (pairs : Pairs) (keys ends values : List ℕ) (next_len : ℕ) {status count next : ℕ} → (status ≡ 11) × (count ≡ 0) × (next ≡ next_len)
    → IsListedSome pairs status (part keys ends values 0 next_len) (part keys ends values count next)
none_listed pairs keys ends values next_len is = ([], pairs, refl, is.1, nothing_written (part keys ends values 0 next_len), inr (inr (is.0, is.2)))
