-- Inputs of a merge of many, one after another.
use Rattle.std.proofs.Common.{arith, zero, suc, ◌≡◌, ℕ, ◌+◌, ◌<◌, List, [], ◌∷◌, ◌++◌, map, length, take, drop, get_or, ◌∙◌, Option, Some, None, Bool, true, false, refl, sym, ap, subst}
use Rattle.std.proofs.Math.ListN.{set}
use Rattle.zerotrie_core.specs.Maps.{Pairs}
use Rattle.zerotrie_core.specs.Listings.{Left}
use Rattle.zerotrie_sets.specs.Inputs.{pending, Fetches}
use Rattle.std.specs.Prelude.{if◌then◌else◌}
use Rattle.std.specs.Option.{unwrap_or}
use Rattle.std.specs.Ordering.{nat_cmp, is_lt, is_eq, match_ordering, ordering_reverse}
use Rattle.std.specs.Cmp.{tied_itself}
use Rattle.std.specs.Cmp.Lexicographic.{slice_cmp, nat_list_cmp_total}
use Rattle.std.specs.declared.cmp.Ordering.{Ordering}
use Rattle.std.specs.declared.cmp.Ordering.TheVariants.{Less, Equal, Greater}
use Rattle.zerotrie_sets.specs.ManyInputs.{IsFetched, AllFetched, NotBelow, IsAbove, AllNotBelow, AllAbove, NoneWaits, IsLeastAt, IsLeast, Found, lesser, waits, key_at, waiting_key, held_after, after_key}
use Rattle.zerotrie_sets.specs.declared.input.Held.TheVariants.{Listed, Waiting, Over}
use Rattle.zerotrie_sets.proofs.MergeLemmas.{compared, same_key, above_turned}
use Rattle.zerotrie_sets.proofs.MergeLemmas.Compared.{less, equal, greater}
use Rattle.zerotrie_sets.specs.declared.input.Input.{Input}
use Rattle.zerotrie_sets.specs.declared.input.Held.{Held}

-- one more input of those before a place
pub fetched_more : {S : Type 0} (inputs : List (Input S)) (n : ℕ) (x : Input S) → n < length inputs → AllFetched (take n inputs) → IsFetched x.held → AllFetched (take (n + 1) (set inputs n x))
fetched_more [] n x h before this = absurd (omega arith)
fetched_more (i ∷ inputs) zero x h before this = (this, tt)
fetched_more (i ∷ inputs) (suc n) x h before this =
    let e : suc n + 1 ≡ suc (n + 1) = omega arith in
    rw e (before.0, fetched_more inputs n x (omega arith) before.1 this)

pub fetched_is : (before : Pairs) (left : Left) (current : List ℕ × ℕ) (held : Held) (found : Bool) → Fetches before left current held found → IsFetched held × (pending left current held ≡ before)
fetched_is before left current held true is = rw is.0 (tt, sym is.1)
fetched_is before left current held false is = rw is.0 (tt, sym is.1)

-- an element is replaced by one that f cannot tell from it
pub map_same : {A B : Type 0} (f : A → B) (xs : List A) (n : ℕ) (d y : A) → n < length xs → f y ≡ f (get_or xs n d) → map f (set xs n y) ≡ map f xs
map_same f [] n d y h same = absurd (omega arith)
map_same f (a ∷ xs) zero d y h same = ap (λ b. b ∷ map f xs) same
map_same f (a ∷ xs) (suc n) d y h same = ap (λ bs. f a ∷ bs) (map_same f xs n d y (omega arith) same)

-- one more element is mapped
pub mapped_more : {A : Type 0} (f : A → A) (xs : List A) (n : ℕ) (d : A) → n < length xs
    → set (map f (take n xs) ++ drop n xs) n (f (get_or (map f (take n xs) ++ drop n xs) n d)) ≡ map f (take (n + 1) xs) ++ drop (n + 1) xs
mapped_more f [] n d h = absurd (omega arith)
mapped_more f (a ∷ xs) zero d h = refl
mapped_more f (a ∷ xs) (suc n) d h =
    let e : suc n + 1 ≡ suc (n + 1) = omega arith in
    rw e (ap (λ bs. f a ∷ bs) (mapped_more f xs n d (omega arith)))

module _ {S : Type 0} (current : S → List ℕ × ℕ) where
  -- a key below one that no key is below
  above_next : (k l : List ℕ) (o : Option (List ℕ)) → slice_cmp nat_cmp l k ≡ Less → NotBelow k o → IsAbove l o
  above_next k l None below from = tt
  above_next k l (Some m) below from = elim (compared k m) [
    | less e ↦ nat_list_cmp_total.trans l k m below e
    | equal e ↦ subst (λ n. slice_cmp nat_cmp l n ≡ Less) (same_key k m e) below
    | greater e ↦ absurd (true_false (sym (ap is_lt (above_turned k m e)) ∙ from))
  ]
    where
      true_false : true ≡ false → ⊥
      true_false h = cc

  above_this : (k l : List ℕ) (o : Option (List ℕ)) → slice_cmp nat_cmp l k ≡ Less → o ≡ Some k → IsAbove l o
  above_this k l o below e = subst (IsAbove l) (sym e) below

  above_above : (k l : List ℕ) (o : Option (List ℕ)) → slice_cmp nat_cmp l k ≡ Less → IsAbove k o → IsAbove l o
  above_above k l None below above = tt
  above_above k l (Some m) below above = nat_list_cmp_total.trans l k m below above

  all_above_next : (k l : List ℕ) (inputs : List (Input S)) → slice_cmp nat_cmp l k ≡ Less → AllNotBelow current k inputs → AllAbove current l inputs
  all_above_next k l [] below from = tt
  all_above_next k l (i ∷ inputs) below from = (above_next k l (waits current i) below from.0, all_above_next k l inputs below from.1)

  -- all are above a key below the least
  all_above_least : (k l : List ℕ) (alone : Bool) (at : ℕ) (inputs : List (Input S)) → slice_cmp nat_cmp l k ≡ Less → IsLeastAt current k alone at inputs → AllAbove current l inputs
  all_above_least k l alone at [] below is = tt
  all_above_least k l alone zero (i ∷ inputs) below is = (above_this k l (waits current i) below is.0, all_above_next k l inputs below is.1.0)
  all_above_least k l alone (suc at) (i ∷ inputs) below is = (above_above k l (waits current i) below is.0, all_above_least k l alone at inputs below is.1)

  all_above_none : (l : List ℕ) (inputs : List (Input S)) → NoneWaits current inputs → AllAbove current l inputs
  all_above_none l [] none = tt
  all_above_none l (i ∷ inputs) none = (subst (IsAbove l) (sym none.0) tt, all_above_none l inputs none.1)

  none_more : (inputs : List (Input S)) (n : ℕ) (x : Input S) → n < length inputs → x ≡ get_or inputs n x → NoneWaits current (take n inputs) → waits current x ≡ None → NoneWaits current (take (n + 1) inputs)
  none_more [] n x h is none e = absurd (omega arith)
  none_more (i ∷ inputs) zero x h is none e = (ap (waits current) (sym is) ∙ e, tt)
  none_more (i ∷ inputs) (suc n) x h is none e =
      let s : suc n + 1 ≡ suc (n + 1) = omega arith in
      rw s (none.0, none_more inputs n x (omega arith) is none.1 e)

  not_below_more : (k : List ℕ) (inputs : List (Input S)) (n : ℕ) (x : Input S) → n < length inputs → x ≡ get_or inputs n x → AllNotBelow current k (take n inputs) → NotBelow k (waits current x) → AllNotBelow current k (take (n + 1) inputs)
  not_below_more k [] n x h is from e = absurd (omega arith)
  not_below_more k (i ∷ inputs) zero x h is from e = (subst (λ y. NotBelow k (waits current y)) is e, tt)
  not_below_more k (i ∷ inputs) (suc n) x h is from e =
      let s : suc n + 1 ≡ suc (n + 1) = omega arith in
      rw s (from.0, not_below_more k inputs n x (omega arith) is from.1 e)

  above_more : (k : List ℕ) (inputs : List (Input S)) (n : ℕ) (x : Input S) → n < length inputs → x ≡ get_or inputs n x → AllAbove current k (take n inputs) → IsAbove k (waits current x) → AllAbove current k (take (n + 1) inputs)
  above_more k [] n x h is from e = absurd (omega arith)
  above_more k (i ∷ inputs) zero x h is from e = (subst (λ y. IsAbove k (waits current y)) is e, tt)
  above_more k (i ∷ inputs) (suc n) x h is from e =
      let s : suc n + 1 ≡ suc (n + 1) = omega arith in
      rw s (from.0, above_more k inputs n x (omega arith) is from.1 e)

  -- the least key is that of the last input so far
  least_last : (k : List ℕ) (inputs : List (Input S)) (n : ℕ) (x : Input S) → n < length inputs → x ≡ get_or inputs n x → AllAbove current k (take n inputs) → waits current x ≡ Some k → IsLeastAt current k true n (take (n + 1) inputs)
  least_last k [] n x h is above e = absurd (omega arith)
  least_last k (i ∷ inputs) zero x h is above e = (ap (waits current) (sym is) ∙ e, (tt, λ _. tt))
  least_last k (i ∷ inputs) (suc n) x h is above e =
      let s : suc n + 1 ≡ suc (n + 1) = omega arith in
      rw s (above.0, least_last k inputs n x (omega arith) is above.1 e)

  -- the least key stays the least
  least_stays : (k : List ℕ) (alone : Bool) (at : ℕ) (inputs : List (Input S)) (n : ℕ) (x : Input S) → n < length inputs → x ≡ get_or inputs n x → IsLeastAt current k alone at (take n inputs) → IsAbove k (waits current x) → NotBelow k (waits current x) → IsLeastAt current k alone at (take (n + 1) inputs)
  least_stays k alone at [] n x h is least above from = absurd (omega arith)
  least_stays k alone at (i ∷ inputs) zero x h is least above from = absurd least
  least_stays k alone zero (i ∷ inputs) (suc n) x h is least above from =
      let s : suc n + 1 ≡ suc (n + 1) = omega arith in
      rw s (least.0, (not_below_more k inputs n x (omega arith) is least.1.0 from, λ a. above_more k inputs n x (omega arith) is (least.1.1 a) above))
  least_stays k alone (suc at) (i ∷ inputs) (suc n) x h is least above from =
      let s : suc n + 1 ≡ suc (n + 1) = omega arith in
      rw s (least.0, least_stays k alone at inputs n x (omega arith) is least.1 above from)

  -- another input has the least key
  least_shared : (k : List ℕ) (alone : Bool) (at : ℕ) (inputs : List (Input S)) (n : ℕ) (x : Input S) → n < length inputs → x ≡ get_or inputs n x → IsLeastAt current k alone at (take n inputs) → NotBelow k (waits current x) → IsLeastAt current k false at (take (n + 1) inputs)
  least_shared k alone at [] n x h is least from = absurd (omega arith)
  least_shared k alone at (i ∷ inputs) zero x h is least from = absurd least
  least_shared k alone zero (i ∷ inputs) (suc n) x h is least from =
      let s : suc n + 1 ≡ suc (n + 1) = omega arith in
      rw s (least.0, (not_below_more k inputs n x (omega arith) is least.1.0 from, λ a. absurd (false_true a)))
    where
      false_true : false ≡ true → ⊥
      false_true h = cc
  least_shared k alone (suc at) (i ∷ inputs) (suc n) x h is least from =
      let s : suc n + 1 ≡ suc (n + 1) = omega arith in
      rw s (least.0, least_shared k alone at inputs n x (omega arith) is least.1 from)

  pub least_next : (found : Found) (inputs : List (Input S)) (n : ℕ) (x : Input S) → n < length inputs → x ≡ get_or inputs n x → IsLeast current found (take n inputs)
      → IsLeast current (lesser found n (waits current x)) (take (n + 1) inputs)
  least_next None inputs n x h is least = by (waits current x) refl
    where
      by : (w : Option (List ℕ)) → waits current x ≡ w → IsLeast current (lesser None n w) (take (n + 1) inputs)
      by None e = none_more inputs n x h is least e
      by (Some l) e = least_last l inputs n x h is (all_above_none l (take n inputs) least) e
  least_next (Some f) inputs n x h is least = by (waits current x) refl
    where
      by : (w : Option (List ℕ)) → waits current x ≡ w → IsLeast current (lesser (Some f) n w) (take (n + 1) inputs)
      by None e = least_stays f.1.0 f.1.1 f.0 inputs n x h is least (subst (IsAbove f.1.0) (sym e) tt) (subst (NotBelow f.1.0) (sym e) tt)
      by (Some l) e =
          let shown : Ordering → Type 0 = λ o. IsLeast current (match_ordering o (Some (n, (l, true))) (Some (f.0, (f.1.0, false))) (Some f)) (take (n + 1) inputs) in
          elim (compared l f.1.0) [
            | less c ↦ subst shown (sym c) (least_last l inputs n x h is (all_above_least f.1.0 l f.1.1 f.0 (take n inputs) c least) e)
            | equal c ↦ subst shown (sym c) (least_shared f.1.0 f.1.1 f.0 inputs n x h is least (subst (NotBelow f.1.0) (sym e) (ap is_lt c)))
            | greater c ↦ subst shown (sym c) (least_stays f.1.0 f.1.1 f.0 inputs n x h is least (subst (IsAbove f.1.0) (sym e) (above_turned l f.1.0 c)) (subst (NotBelow f.1.0) (sym e) (ap is_lt c)))
          ]

  -- the key that waits is that of the current pair
  key_waits : (k : List ℕ) (i : Input S) → waits current i ≡ Some k → (current i.stream).0 ≡ k
  key_waits k i e = by i.held e
    where
      none_some : None ≡ Some k → ⊥
      none_some h = cc

      by : (held : Held) → waiting_key held (current i.stream).0 ≡ Some k → (current i.stream).0 ≡ k
      by Listed e = absurd (none_some e)
      by Waiting e = ap (λ o. unwrap_or o []) e
      by Over e = absurd (none_some e)

  -- the pair is listed with its key
  this_listed : (k : List ℕ) (i : Input S) → waits current i ≡ Some k → held_after k i.held (current i.stream).0 ≡ Listed
  this_listed k i e = by i.held e
    where
      none_some : None ≡ Some k → ⊥
      none_some h = cc

      by : (held : Held) → waiting_key held (current i.stream).0 ≡ Some k → held_after k held (current i.stream).0 ≡ Listed
      by Listed e = refl
      by Waiting e =
          let same : (current i.stream).0 ≡ k = ap (λ o. unwrap_or o []) e in
          let tied : slice_cmp nat_cmp (current i.stream).0 k ≡ Equal = ap (λ l. slice_cmp nat_cmp l k) same ∙ tied_itself nat_list_cmp_total k in
          ap (λ o. if is_eq o then Listed else Waiting) tied
      by Over e = absurd (none_some e)

  -- a pair with a key above it stays
  other_stays : (k : List ℕ) (i : Input S) → IsAbove k (waits current i) → after_key current k i ≡ i
  other_stays k i above = ap (λ h. record { stream = i.stream; held = h }) (by i.held above)
    where
      by : (held : Held) → IsAbove k (waiting_key held (current i.stream).0) → held_after k held (current i.stream).0 ≡ held
      by Listed above = refl
      by Waiting above =
          let turned : slice_cmp nat_cmp (current i.stream).0 k ≡ Greater = nat_list_cmp_total.antisymm (current i.stream).0 k ∙ ap ordering_reverse above in
          ap (λ o. if is_eq o then Listed else Waiting) turned
      by Over above = refl

  all_stay : (k : List ℕ) (inputs : List (Input S)) → AllAbove current k inputs → map (after_key current k) inputs ≡ inputs
  all_stay k [] above = refl
  all_stay k (i ∷ inputs) above =
      ap (λ j. j ∷ map (after_key current k) inputs) (other_stays k i above.0) ∙ ap (λ is. i ∷ is) (all_stay k inputs above.1)

  -- what becomes of the input whose pair is listed
  this_after : (k : List ℕ) (i x y : Input S) → waits current i ≡ Some k → x ≡ i → y.stream ≡ x.stream → y.held ≡ Listed → y ≡ after_key current k i
  this_after k i x y e is stream held =
      ap (λ s. record { stream = s; held = y.held }) (stream ∙ ap (λ j. j.stream) is) ∙ ap (λ h. record { stream = i.stream; held = h }) (held ∙ sym (this_listed k i e))

  -- the input alone is listed
  pub listed_alone : (k : List ℕ) (at : ℕ) (inputs : List (Input S)) (x y : Input S) → IsLeastAt current k true at inputs → x ≡ get_or inputs at x → y.stream ≡ x.stream → y.held ≡ Listed
      → set inputs at y ≡ map (after_key current k) inputs
  listed_alone k at [] x y least is stream held = absurd least
  listed_alone k zero (i ∷ inputs) x y least is stream held =
      ap (λ j. j ∷ inputs) (this_after k i x y least.0 is stream held) ∙ ap (λ is. after_key current k i ∷ is) (sym (all_stay k inputs (least.1.1 refl)))
  listed_alone k (suc at) (i ∷ inputs) x y least is stream held =
      ap (λ j. j ∷ set inputs at y) (sym (other_stays k i least.0)) ∙ ap (λ is. after_key current k i ∷ is) (listed_alone k at inputs x y least.1 is stream held)

  -- it is listed, and those after it that have the key
  pub listed_some : (k : List ℕ) (alone : Bool) (at : ℕ) (inputs : List (Input S)) (x y : Input S) → IsLeastAt current k alone at inputs → x ≡ get_or inputs at x → y.stream ≡ x.stream → y.held ≡ Listed
      → take (at + 1) (set inputs at y) ++ map (after_key current k) (drop (at + 1) (set inputs at y)) ≡ map (after_key current k) inputs
  listed_some k alone at [] x y least is stream held = absurd least
  listed_some k alone zero (i ∷ inputs) x y least is stream held = ap (λ j. j ∷ map (after_key current k) inputs) (this_after k i x y least.0 is stream held)
  listed_some k alone (suc at) (i ∷ inputs) x y least is stream held =
      let s : suc at + 1 ≡ suc (at + 1) = omega arith in
      rw s (ap (λ j. j ∷ (take (at + 1) (set inputs at y) ++ map (after_key current k) (drop (at + 1) (set inputs at y)))) (sym (other_stays k i least.0))
      ∙ ap (λ is. after_key current k i ∷ is) (listed_some k alone at inputs x y least.1 is stream held))

  -- the key of the input that was listed
  pub front_key : (k : List ℕ) (alone : Bool) (at : ℕ) (inputs : List (Input S)) (x y z : Input S) → IsLeastAt current k alone at inputs → x ≡ get_or inputs at x → y.stream ≡ x.stream
      → z ≡ get_or (take (at + 1) (set inputs at y)) at z → (current z.stream).0 ≡ k
  front_key k alone at [] x y z least is stream at_front = absurd least
  front_key k alone zero (i ∷ inputs) x y z least is stream at_front =
      ap (λ j. (current j.stream).0) at_front ∙ ap (λ s. (current s).0) (stream ∙ ap (λ j. j.stream) is) ∙ key_waits k i least.0
  front_key k alone (suc at) (i ∷ inputs) x y z least is stream at_front =
      let s : suc at + 1 ≡ suc (at + 1) = omega arith in
      front_key k alone at inputs x y z least.1 is stream (subst (λ m. z ≡ get_or (take m (i ∷ set inputs at y)) (suc at) z) s at_front)

  -- the key at the place of the least one
  pub least_key_at : (k : List ℕ) (alone : Bool) (at : ℕ) (inputs : List (Input S)) → IsLeastAt current k alone at inputs → key_at current (map (after_key current k) inputs) at ≡ k
  least_key_at k alone at [] least = absurd least
  least_key_at k alone zero (i ∷ inputs) least = key_waits k i least.0
  least_key_at k alone (suc at) (i ∷ inputs) least = least_key_at k alone at inputs least.1

  pub least_within : (k : List ℕ) (alone : Bool) (at : ℕ) (inputs : List (Input S)) → IsLeastAt current k alone at inputs → at < length inputs
  least_within k alone at [] least = absurd least
  least_within k alone zero (i ∷ inputs) least = omega arith
  least_within k alone (suc at) (i ∷ inputs) least =
      let more : at < length inputs = least_within k alone at inputs least.1 in
      omega (arith, more)
