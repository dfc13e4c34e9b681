-- Places that are marked as taken.
use Rattle.std.proofs.Common.{◌≡◌, ◌≢◌, ℕ, ◌+◌, ◌<◌, ◌≤◌, List, [], ◌∷◌, ◌++◌, length, map, get_or, set, take, drop, replicate, refl, sym, ◌∙◌, ap, subst, arith, Bool, true, false, not, eqb, inl, inr, append_assoc, get_or-set_same, get_or-set_other, length-set}
use Rattle.std.specs.Prelude.{◌||◌, ◌&&◌, filter}
use Rattle.std.specs.List.{IsDistinct, list_any, range_with_len}
use Rattle.std.proofs.lemmas.Bool.{ne_eqb}
use Rattle.std.proofs.lemmas.Bool.Decides.{eqb_tells}
use Rattle.std.proofs.lemmas.List.{get_or-replicate, length-replicate, map_more, drop_more, take-append-drop, map-append, ext_get_or}
use Rattle.std.proofs.lemmas.List.Folds.{list_any-append}
use Rattle.zerotrie_base.specs.byte_phf.Search.{IsMarked}
use Rattle.zerotrie_base.proofs.ApartLemmas.{Has, has_any, any_has, has_filter, from_filter, has_range, apart_filter, apart_range, any_has_not, has_not_any, apart_distinct, distinct_apart, apart_joined, apart_across, has_right}

pub marked_none : IsMarked [] (replicate 256 false)
marked_none = record { size = length-replicate 256 false; marks = λ x h. get_or-replicate 256 x false false h }

any_one_more : (x y : ℕ) (used : List ℕ) → x ≢ y → list_any (eqb x) (used ++ y ∷ []) ≡ list_any (eqb x) used
any_one_more x y [] ne = rw (ne_eqb x y ne) refl
any_one_more x y (u ∷ used) ne = ap (λ b. eqb x u || b) (any_one_more x y used ne)

marks_more : (used : List ℕ) (taken : List Bool) (y x : ℕ) → IsMarked used taken → y < 256 → x < 256 → get_or (set taken y true) x false ≡ list_any (eqb x) (used ++ y ∷ [])
marks_more used taken y x m hy hx =
    elim (eqb_tells x y) [
      | inl e ↦ (let in' : y < length taken = (let s = m.size in omega arith) in
          ap (λ v. get_or (set taken y true) v false) e.1 ∙ get_or-set_same taken y true false in' ∙ sym (any_has x (used ++ y ∷ []) (has_right x used (y ∷ []) (inl e.1))))
      | inr e ↦ get_or-set_other taken y x true false e.1 ∙ m.marks x hx ∙ sym (any_one_more x y used e.1)
    ]

pub marked_more : (used : List ℕ) (taken : List Bool) (y : ℕ) → IsMarked used taken → y < 256 → IsMarked (used ++ y ∷ []) (set taken y true)
marked_more used taken y m hy = record { size = length-set taken y true ∙ m.size; marks = λ x hx. marks_more used taken y x m hy hx }

pub free_more : (used : List ℕ) (taken : List Bool) (y : ℕ) → IsMarked used taken → y < 256 → IsDistinct eqb used → get_or taken y false ≡ false → IsDistinct eqb (used ++ y ∷ [])
free_more used taken y m hy d e =
    distinct_apart (used ++ y ∷ []) (apart_joined used (y ∷ []) (apart_distinct used d) (λ h. h, tt)
    (λ x h k. elim k [ inl same ↦ has_not_any y used (sym (m.marks y hy) ∙ e) (subst (λ v. Has v used) same h) | inr absent ↦ absent ]))

pub taken_not : (used : List ℕ) (taken : List Bool) (y : ℕ) (rest : List ℕ) → IsMarked used taken → y < 256 → get_or taken y false ≡ true → IsDistinct eqb (used ++ y ∷ rest) → ⊥
taken_not used taken y rest m hy e d =
    apart_across y used (y ∷ rest) (apart_distinct (used ++ y ∷ rest) d) (has_any y used (sym (m.marks y hy) ∙ e)) (inl refl)

-- what stays marked when the places after it are freed
freed_bit : (u v : Bool) → (u ≡ true → v ≡ false) → ((u || v) && not v) ≡ u
freed_bit true true h = absurd (let e = h refl in cc)
freed_bit true false h = refl
freed_bit false true h = refl
freed_bit false false h = refl

pub marked_less : (used freed : List ℕ) (taken after : List Bool) → IsMarked (used ++ freed) taken → IsDistinct eqb (used ++ freed) → length after ≡ 256 → ((x : ℕ) → x < 256 → get_or after x false ≡ (get_or taken x false && not (list_any (eqb x) freed))) → IsMarked used after
marked_less used freed taken after m d size h =
    record { size = size; marks = λ x hx. h x hx ∙ ap (λ b. b && not (list_any (eqb x) freed)) (m.marks x hx ∙ list_any-append (eqb x) used freed) ∙ freed_bit (list_any (eqb x) used) (list_any (eqb x) freed) (λ e. any_has_not x freed (apart_across x used freed (apart_distinct (used ++ freed) d) (has_any x used e))) }

-- the places of some keys, and one more

pub places_more : (f : ℕ → ℕ) (used bucket : List ℕ) (i y : ℕ) → i < length bucket → y ≡ f (get_or bucket i 0) → used ++ map f (take (i + 1) bucket) ≡ (used ++ map f (take i bucket)) ++ y ∷ []
places_more f used bucket i y h e = ap (λ r. used ++ r) (map_more f bucket i 0 h) ∙ sym (append_assoc used (map f (take i bucket)) (f (get_or bucket i 0) ∷ [])) ∙ ap (λ v. (used ++ map f (take i bucket)) ++ v ∷ []) (sym e)

pub places_split : (f : ℕ → ℕ) (used bucket : List ℕ) (i y : ℕ) → i < length bucket → y ≡ f (get_or bucket i 0) → used ++ map f bucket ≡ (used ++ map f (take i bucket)) ++ y ∷ map f (drop (i + 1) bucket)
places_split f used bucket i y h e =
    let whole : take i bucket ++ get_or bucket i 0 ∷ drop (i + 1) bucket ≡ bucket = ap (λ r. take i bucket ++ r) (sym (drop_more bucket i 0 h)) ∙ take-append-drop i bucket in
    ap (λ r. used ++ map f r) (sym whole) ∙ ap (λ r. used ++ r) (map-append f (take i bucket) (get_or bucket i 0 ∷ drop (i + 1) bucket))
    ∙ sym (append_assoc used (map f (take i bucket)) (f (get_or bucket i 0) ∷ map f (drop (i + 1) bucket))) ∙ ap (λ v. (used ++ map f (take i bucket)) ++ v ∷ map f (drop (i + 1) bucket)) (sym e)

-- none from the first on, one further
pub none_more : (P : ℕ → Type 0) (first q : ℕ) → ((x : ℕ) → first ≤ x → x < q → P x → ⊥) → (P q → ⊥) → (x : ℕ) → first ≤ x → x < q + 1 → P x → ⊥
none_more P first q none here x lo hi h =
    elim (eqb_tells x q) [ inl e ↦ here (subst P e.1 h) | inr e ↦ none x lo (let ne = e.1 in omega arith) h ]

-- the places that are marked, each once

marked_bit : (taken : List Bool) (x : ℕ) → x < 256 → (b : Bool) → get_or taken x false ≡ b → b ≡ list_any (eqb x) (filter (λ y. get_or taken y false) (range_with_len 0 256))
marked_bit taken x h true e = sym (any_has x _ (has_filter (λ y. get_or taken y false) x (range_with_len 0 256) (has_range x 0 256 (omega arith) (omega arith)) e))
marked_bit taken x h false e = sym (any_has_not x _ (λ k. let r = (from_filter (λ y. get_or taken y false) x (range_with_len 0 256) k).1 in let w : true ≡ false = sym r ∙ e in cc))

pub marked_by : (taken : List Bool) → length taken ≡ 256 → (used : List ℕ) × IsMarked used taken × IsDistinct eqb used
marked_by taken size = (
  filter (λ y. get_or taken y false) (range_with_len 0 256),
  record { size = size; marks = λ x h. marked_bit taken x h (get_or taken x false) refl },
  distinct_apart _ (apart_filter (λ y. get_or taken y false) (range_with_len 0 256) (apart_range 0 256)),
)

pub same_marks : (used : List ℕ) (a b : List Bool) → IsMarked used a → IsMarked used b → a ≡ b
same_marks used a b ma mb = ext_get_or false a b (ma.size ∙ sym mb.size) (λ x h. ma.marks x (let s = ma.size in omega arith) ∙ sym (mb.marks x (let s = ma.size in omega arith)))
