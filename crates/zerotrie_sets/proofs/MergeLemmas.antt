-- Merges of ascending lists.
use Rattle.std.proofs.Common.{◌≡◌, ℕ, List, [], ◌∷◌, Option, Some, None, refl, sym, ap, ◌∙◌, subst, Less, Equal, Greater}
use Rattle.std.specs.Prelude.{cond, false}
use Rattle.std.specs.Ordering.{nat_cmp, match_ordering, is_eq, ordering_reverse}
use Rattle.std.specs.declared.cmp.Ordering.{Ordering}
use Rattle.std.specs.Cmp.{IsTotalOrder, tied_itself}
use Rattle.std.specs.Cmp.Lexicographic.{slice_cmp, nat_list_cmp_total}
use Rattle.std.specs.FinMap.{slice_cmp-IsAntisymmetric, nat_cmp-IsAntisymmetric}
use Rattle.zerotrie_core.specs.Maps.{Pairs, Ascends}
use Rattle.zerotrie_sets.specs.Merges.{Entries, joined, chosen, if_some, value_of, both, FirstKeyAbove, KeysAscend}

pub total : IsTotalOrder (slice_cmp nat_cmp)
total = nat_list_cmp_total

-- keys in the order of bytes
abbrev pub Below : List ℕ → List ℕ → Type 0
Below k l = slice_cmp nat_cmp k l ≡ Less

pub same_key : (k l : List ℕ) → slice_cmp nat_cmp k l ≡ Equal → k ≡ l
same_key k l e = slice_cmp-IsAntisymmetric nat_cmp-IsAntisymmetric k l e

pub above_turned : (k l : List ℕ) → slice_cmp nat_cmp k l ≡ Greater → Below l k
above_turned k l e = total.antisymm l k ∙ ap ordering_reverse e

-- what is below the first key of an ascending list is below all
pub first_above : {V : Type 0} (k l : List ℕ) (es : Entries V) → Below k l → FirstKeyAbove l es → FirstKeyAbove k es
first_above k l [] below above = tt
first_above k l (e ∷ es) below above = total.trans k l e.0 below above

pub none_there : {V : Type 0} (k : List ℕ) (es : Entries V) → FirstKeyAbove k es → KeysAscend es → value_of k es ≡ None
none_there k [] above up = refl
none_there k (e ∷ es) above up = ap (λ o. cond (is_eq o) (Some e.1) (value_of k es)) above ∙ none_there k es (first_above k e.0 es above up.0) up.1

-- the first key of an ascending list, and any other key
pub at_first : {V : Type 0} (k : List ℕ) (v : V) (es : Entries V) → value_of k ((k, v) ∷ es) ≡ Some v
at_first k v es = ap (λ o. cond (is_eq o) (Some v) (value_of k es)) (tied_itself total k)

-- the key with what is chosen, if something is
pub chosen_above : {V : Type 0} (k l : List ℕ) (o : Option V) (es : Entries V) → Below k l → FirstKeyAbove k es → FirstKeyAbove k (if_some l o es)
chosen_above k l None es below above = above
chosen_above k l (Some v) es below above = below

pub chosen_ascends : {V : Type 0} (k : List ℕ) (o : Option V) (es : Entries V) → FirstKeyAbove k es → KeysAscend es → KeysAscend (if_some k o es)
chosen_ascends k None es above up = up
chosen_ascends k (Some v) es above up = (above, up)

-- how a key compares, kept as an equation
pub data Compared (k l : List ℕ) : Type 0 where
  less : slice_cmp nat_cmp k l ≡ Less → Compared k l
  equal : slice_cmp nat_cmp k l ≡ Equal → Compared k l
  greater : slice_cmp nat_cmp k l ≡ Greater → Compared k l

compared_as : (k l : List ℕ) (o : Ordering) → slice_cmp nat_cmp k l ≡ o → Compared k l
compared_as k l Less e = less e
compared_as k l Equal e = equal e
compared_as k l Greater e = greater e

pub compared : (k l : List ℕ) → Compared k l
compared k l = compared_as k l (slice_cmp nat_cmp k l) refl

-- the first row of a merge, as the first keys compare
module _ {U V : Type 0} (x : List ℕ × U) (xs : Entries U) (y : List ℕ × V) (ys : Entries V) where
  pub joined_less : slice_cmp nat_cmp x.0 y.0 ≡ Less → joined (x ∷ xs) (y ∷ ys) ≡ (x.0, (Some x.1, None)) ∷ joined xs (y ∷ ys)
  joined_less e = ap (λ o. match_ordering o ((x.0, (Some x.1, None)) ∷ joined xs (y ∷ ys)) ((x.0, (Some x.1, Some y.1)) ∷ joined xs ys) ((y.0, (None, Some y.1)) ∷ joined (x ∷ xs) ys)) e

  pub joined_equal : slice_cmp nat_cmp x.0 y.0 ≡ Equal → joined (x ∷ xs) (y ∷ ys) ≡ (x.0, (Some x.1, Some y.1)) ∷ joined xs ys
  joined_equal e = ap (λ o. match_ordering o ((x.0, (Some x.1, None)) ∷ joined xs (y ∷ ys)) ((x.0, (Some x.1, Some y.1)) ∷ joined xs ys) ((y.0, (None, Some y.1)) ∷ joined (x ∷ xs) ys)) e

  pub joined_greater : slice_cmp nat_cmp x.0 y.0 ≡ Greater → joined (x ∷ xs) (y ∷ ys) ≡ (y.0, (None, Some y.1)) ∷ joined (x ∷ xs) ys
  joined_greater e = ap (λ o. match_ordering o ((x.0, (Some x.1, None)) ∷ joined xs (y ∷ ys)) ((x.0, (Some x.1, Some y.1)) ∷ joined xs ys) ((y.0, (None, Some y.1)) ∷ joined (x ∷ xs) ys)) e

-- whether a key is another one
pub data Tied (q k : List ℕ) : Type 0 where
  same : q ≡ k → Tied q k
  other : is_eq (slice_cmp nat_cmp q k) ≡ false → Tied q k

pub tied : (q k : List ℕ) → Tied q k
tied q k = elim (compared q k) [
  | less e ↦ other (ap is_eq e)
  | equal e ↦ same (same_key q k e)
  | greater e ↦ other (ap is_eq e)
]

pub value_same : {V : Type 0} (k : List ℕ) (o : Option V) (es : Entries V) → value_of k es ≡ None → value_of k (if_some k o es) ≡ o
value_same k None es none = none
value_same k (Some v) es none = at_first k v es

pub value_other : {V : Type 0} (q k : List ℕ) (o : Option V) (es : Entries V) → is_eq (slice_cmp nat_cmp q k) ≡ false → value_of q (if_some k o es) ≡ value_of q es
value_other q k None es h = refl
value_other q k (Some v) es h = ap (λ b. cond b (Some v) (value_of q es)) h

module _ {U V W : Type 0} (choose : Option U → Option V → Option W) where
  above_all : (k : List ℕ) (xs : Entries U) (ys : Entries V) → FirstKeyAbove k xs → FirstKeyAbove k ys → KeysAscend xs → KeysAscend ys → FirstKeyAbove k (chosen choose (joined xs ys))
  above_all k [] [] hx hy upx upy = tt
  above_all k [] (y ∷ ys) hx hy upx upy = chosen_above k y.0 (choose None (Some y.1)) (chosen choose (joined [] ys)) hy (above_all k [] ys tt (first_above k y.0 ys hy upy.0) tt upy.1)
  above_all k (x ∷ xs) [] hx hy upx upy = chosen_above k x.0 (choose (Some x.1) None) (chosen choose (joined xs [])) hx (above_all k xs [] (first_above k x.0 xs hx upx.0) tt upx.1 tt)
  above_all k (x ∷ xs) (y ∷ ys) hx hy upx upy = elim (compared x.0 y.0) [
    | less e ↦ subst (λ rows. FirstKeyAbove k (chosen choose rows)) (sym (joined_less x xs y ys e))
        (chosen_above k x.0 (choose (Some x.1) None) (chosen choose (joined xs (y ∷ ys))) hx (above_all k xs (y ∷ ys) (first_above k x.0 xs hx upx.0) hy upx.1 upy))
    | equal e ↦ subst (λ rows. FirstKeyAbove k (chosen choose rows)) (sym (joined_equal x xs y ys e))
        (chosen_above k x.0 (choose (Some x.1) (Some y.1)) (chosen choose (joined xs ys)) hx (above_all k xs ys (first_above k x.0 xs hx upx.0) (first_above k y.0 ys hy upy.0) upx.1 upy.1))
    | greater e ↦ subst (λ rows. FirstKeyAbove k (chosen choose rows)) (sym (joined_greater x xs y ys e))
        (chosen_above k y.0 (choose None (Some y.1)) (chosen choose (joined (x ∷ xs) ys)) hy (above_all k (x ∷ xs) ys hx (first_above k y.0 ys hy upy.0) upx upy.1))
  ]

  pub all_ascend : (xs : Entries U) (ys : Entries V) → KeysAscend xs → KeysAscend ys → KeysAscend (chosen choose (joined xs ys))
  all_ascend [] [] upx upy = tt
  all_ascend [] (y ∷ ys) upx upy = chosen_ascends y.0 (choose None (Some y.1)) (chosen choose (joined [] ys)) (above_all y.0 [] ys tt upy.0 tt upy.1) (all_ascend [] ys tt upy.1)
  all_ascend (x ∷ xs) [] upx upy = chosen_ascends x.0 (choose (Some x.1) None) (chosen choose (joined xs [])) (above_all x.0 xs [] upx.0 tt upx.1 tt) (all_ascend xs [] upx.1 tt)
  all_ascend (x ∷ xs) (y ∷ ys) upx upy = elim (compared x.0 y.0) [
    | less e ↦ subst (λ rows. KeysAscend (chosen choose rows)) (sym (joined_less x xs y ys e))
        (chosen_ascends x.0 (choose (Some x.1) None) (chosen choose (joined xs (y ∷ ys))) (above_all x.0 xs (y ∷ ys) upx.0 e upx.1 upy) (all_ascend xs (y ∷ ys) upx.1 upy))
    | equal e ↦ subst (λ rows. KeysAscend (chosen choose rows)) (sym (joined_equal x xs y ys e))
        (chosen_ascends x.0 (choose (Some x.1) (Some y.1)) (chosen choose (joined xs ys))
        (above_all x.0 xs ys upx.0 (subst (λ k. FirstKeyAbove k ys) (sym (same_key x.0 y.0 e)) upy.0) upx.1 upy.1) (all_ascend xs ys upx.1 upy.1))
    | greater e ↦ subst (λ rows. KeysAscend (chosen choose rows)) (sym (joined_greater x xs y ys e))
        (chosen_ascends y.0 (choose None (Some y.1)) (chosen choose (joined (x ∷ xs) ys)) (above_all y.0 (x ∷ xs) ys (above_turned x.0 y.0 e) upy.0 upx upy.1) (all_ascend (x ∷ xs) ys upx upy.1))
  ]

  module _ (none : choose None None ≡ None) where
    -- one row more, of a key below all others
    one_more : (k : List ℕ) (u : Option U) (v : Option V) (xs : Entries U) (ys : Entries V) (rows : Entries W)
        → FirstKeyAbove k xs → KeysAscend xs → FirstKeyAbove k ys → KeysAscend ys
        → ((q : List ℕ) → value_of q rows ≡ choose (value_of q xs) (value_of q ys))
        → (q : List ℕ) → value_of q (if_some k (choose u v) rows) ≡ choose (value_of q (if_some k u xs)) (value_of q (if_some k v ys))
    one_more k u v xs ys rows hx upx hy upy is q = elim (tied q k) [
      | same e ↦ subst (λ p. value_of p (if_some k (choose u v) rows) ≡ choose (value_of p (if_some k u xs)) (value_of p (if_some k v ys))) (sym e)
          (let x_none = none_there k xs hx upx in
          let y_none = none_there k ys hy upy in
          value_same k (choose u v) rows (is k ∙ ap (λ o. choose o (value_of k ys)) x_none ∙ ap (choose None) y_none ∙ none)
          ∙ sym (ap (λ o. choose o (value_of k (if_some k v ys))) (value_same k u xs x_none) ∙ ap (choose u) (value_same k v ys y_none)))
      | other h ↦ value_other q k (choose u v) rows h ∙ is q
          ∙ sym (ap (λ o. choose o (value_of q (if_some k v ys))) (value_other q k u xs h) ∙ ap (choose (value_of q xs)) (value_other q k v ys h))
    ]

    pub all_values : (xs : Entries U) (ys : Entries V) → KeysAscend xs → KeysAscend ys → (q : List ℕ) → value_of q (chosen choose (joined xs ys)) ≡ choose (value_of q xs) (value_of q ys)
    all_values [] [] upx upy q = sym none
    all_values [] (y ∷ ys) upx upy q = one_more y.0 None (Some y.1) [] ys (chosen choose (joined [] ys)) tt tt upy.0 upy.1 (all_values [] ys tt upy.1) q
    all_values (x ∷ xs) [] upx upy q = one_more x.0 (Some x.1) None xs [] (chosen choose (joined xs [])) upx.0 upx.1 tt tt (all_values xs [] upx.1 tt) q
    all_values (x ∷ xs) (y ∷ ys) upx upy q = elim (compared x.0 y.0) [
      | less e ↦ ap (λ rows. value_of q (chosen choose rows)) (joined_less x xs y ys e)
          ∙ one_more x.0 (Some x.1) None xs (y ∷ ys) (chosen choose (joined xs (y ∷ ys))) upx.0 upx.1 e upy (all_values xs (y ∷ ys) upx.1 upy) q
      | equal e ↦ ap (λ rows. value_of q (chosen choose rows)) (joined_equal x xs y ys e)
          ∙ one_more x.0 (Some x.1) (Some y.1) xs ys (chosen choose (joined xs ys)) upx.0 upx.1 (subst (λ k. FirstKeyAbove k ys) (sym (same_key x.0 y.0 e)) upy.0) upy.1 (all_values xs ys upx.1 upy.1) q
          ∙ ap (λ k. choose (value_of q (x ∷ xs)) (value_of q ((k, y.1) ∷ ys))) (same_key x.0 y.0 e)
      | greater e ↦ ap (λ rows. value_of q (chosen choose rows)) (joined_greater x xs y ys e)
          ∙ one_more y.0 None (Some y.1) (x ∷ xs) ys (chosen choose (joined (x ∷ xs) ys)) (above_turned x.0 y.0 e) upx upy.0 upy.1 (all_values (x ∷ xs) ys upx upy.1) q
    ]

-- each row is of some input
pub rows_chosen : {U V : Type 0} (xs : Entries U) (ys : Entries V) → chosen both (joined xs ys) ≡ joined xs ys
rows_chosen [] [] = refl
rows_chosen [] (y ∷ ys) = ap (λ rows. (y.0, (None, Some y.1)) ∷ rows) (rows_chosen [] ys)
rows_chosen (x ∷ xs) [] = ap (λ rows. (x.0, (Some x.1, None)) ∷ rows) (rows_chosen xs [])
rows_chosen (x ∷ xs) (y ∷ ys) = elim (compared x.0 y.0) [
  | less e ↦ subst (λ rows. chosen both rows ≡ rows) (sym (joined_less x xs y ys e)) (ap (λ rows. (x.0, (Some x.1, None)) ∷ rows) (rows_chosen xs (y ∷ ys)))
  | equal e ↦ subst (λ rows. chosen both rows ≡ rows) (sym (joined_equal x xs y ys e)) (ap (λ rows. (x.0, (Some x.1, Some y.1)) ∷ rows) (rows_chosen xs ys))
  | greater e ↦ subst (λ rows. chosen both rows ≡ rows) (sym (joined_greater x xs y ys e)) (ap (λ rows. (y.0, (None, Some y.1)) ∷ rows) (rows_chosen (x ∷ xs) ys))
]

-- of pairs, the order of the keys is that of the definitions below
pub keys_ascend : (pairs : Pairs) → Ascends pairs → KeysAscend pairs
keys_ascend [] up = tt
keys_ascend (e ∷ []) up = (tt, tt)
keys_ascend (e ∷ f ∷ pairs) up = (up.0, keys_ascend (f ∷ pairs) up.1)

pub pairs_ascend : (pairs : Pairs) → KeysAscend pairs → Ascends pairs
pairs_ascend [] up = tt
pairs_ascend (e ∷ []) up = (tt, tt)
pairs_ascend (e ∷ f ∷ pairs) up = (up.0, pairs_ascend (f ∷ pairs) up.1)
