-- A step of a merge of many: the least key that waits is listed in each input that has it.
use Rattle.std.proofs.Common.{◌≡◌, ℕ, List, [], ◌∷◌, map, length, ◌⊎◌, inl, inr, Option, Some, None, true, false, refl, sym, ap, ◌∙◌, subst, Equal, Greater}
use Rattle.std.proofs.Common.{zero, suc, Bool}
use Rattle.std.specs.Prelude.{if◌then◌else◌}
use Rattle.std.specs.Option.{unwrap_or}
use Rattle.std.specs.Ordering.{nat_cmp, is_lt, is_eq, ordering_reverse}
use Rattle.std.specs.Cmp.{tied_itself}
use Rattle.std.specs.Cmp.Lexicographic.{slice_cmp, nat_list_cmp_total}
use Rattle.zerotrie_core.specs.Maps.{Pairs}
use Rattle.zerotrie_core.specs.Listings.{Left}
use Rattle.zerotrie_sets.specs.Merges.{Entries, joined, chosen, FirstKeyAbove}
use Rattle.zerotrie_sets.specs.Rows.{Values, nothing, row, all_joined}
use Rattle.zerotrie_sets.specs.Inputs.{pending, listed}
use Rattle.zerotrie_sets.specs.ManyInputs.{IsFetched, AllFetched, NotBelow, IsAbove, AllNotBelow, NoneWaits, IsLeastAt, waits, held_after, after_key, waiting_key, listed_all, pendings}
use Rattle.zerotrie_sets.specs.declared.input.Input.{Input}
use Rattle.zerotrie_sets.specs.declared.input.Held.{Held}
use Rattle.zerotrie_sets.specs.declared.input.Held.TheVariants.{Listed, Waiting, Over}
use Rattle.zerotrie_sets.proofs.MergeLemmas.{Below, compared, same_key, above_turned, joined_less, joined_equal, joined_greater}
use Rattle.zerotrie_sets.proofs.MergeLemmas.Compared.{less, equal, greater}

true_false : true ≡ false → ⊥
true_false h = cc

some_none : {A : Type 0} (a : A) → Some a ≡ None → ⊥
some_none a h = cc

none_some : {A : Type 0} (a : A) → None ≡ Some a → ⊥
none_some a h = cc

-- what becomes of the pairs of one input as the key is listed: its value is taken, or the key is below its first one
data TakesOrStays (k : List ℕ) (pairs : Pairs) (value : Option ℕ) (after : Pairs) : Type 0 where
  takes : (v : ℕ) → pairs ≡ (k, v) ∷ after → value ≡ Some v → TakesOrStays k pairs value after
  stays : FirstKeyAbove k pairs → value ≡ None → after ≡ pairs → TakesOrStays k pairs value after

-- the same of the rows of n inputs
data TakesRow (k : List ℕ) (n : ℕ) (rows : Entries Values) (values : Values) (after : Entries Values) : Type 0 where
  takes_row : rows ≡ (k, values) ∷ after → TakesRow k n rows values after
  stays_row : FirstKeyAbove k rows → values ≡ nothing n → after ≡ rows → TakesRow k n rows values after

first_alone : (k : List ℕ) (v : ℕ) (xs : Pairs) (rows : Entries Values) → FirstKeyAbove k rows → joined ((k, v) ∷ xs) rows ≡ (k, (Some v, None)) ∷ joined xs rows
first_alone k v xs [] above = refl
first_alone k v xs (y ∷ ys) above = joined_less (k, v) xs y ys above

turned : (k l : List ℕ) → Below k l → slice_cmp nat_cmp l k ≡ Greater
turned k l below = nat_list_cmp_total.antisymm l k ∙ ap ordering_reverse below

second_alone : (k : List ℕ) (values : Values) (xs : Pairs) (rows : Entries Values) → FirstKeyAbove k xs → joined xs ((k, values) ∷ rows) ≡ (k, (None, Some values)) ∷ joined xs rows
second_alone k values [] rows above = refl
second_alone k values (x ∷ xs) rows above = joined_greater x xs (k, values) rows (turned k x.0 above)

both_above : (k : List ℕ) (n : ℕ) (xs : Pairs) (rows : Entries Values) → FirstKeyAbove k xs → FirstKeyAbove k rows → FirstKeyAbove k (chosen (row n) (joined xs rows))
both_above k n [] [] hx hy = tt
both_above k n [] (y ∷ ys) hx hy = hy
both_above k n (x ∷ xs) [] hx hy = hx
both_above k n (x ∷ xs) (y ∷ ys) hx hy = elim (compared x.0 y.0) [
  | less e ↦ subst (λ rows. FirstKeyAbove k (chosen (row n) rows)) (sym (joined_less x xs y ys e)) hx
  | equal e ↦ subst (λ rows. FirstKeyAbove k (chosen (row n) rows)) (sym (joined_equal x xs y ys e)) hx
  | greater e ↦ subst (λ rows. FirstKeyAbove k (chosen (row n) rows)) (sym (joined_greater x xs y ys e)) hy
]

-- one input more
one_more : (k : List ℕ) (n : ℕ) (xs : Pairs) (o : Option ℕ) (xs' : Pairs) (rows : Entries Values) (values : Values) (rows' : Entries Values)
    → TakesOrStays k xs o xs' → TakesRow k n rows values rows'
    → TakesRow k (suc n) (chosen (row n) (joined xs rows)) (o ∷ values) (chosen (row n) (joined xs' rows'))
one_more k n xs o xs' rows values rows' (takes v e f) (takes_row g) =
    takes_row (ap (λ ps. chosen (row n) (joined ps rows)) e ∙ ap (λ rs. chosen (row n) (joined ((k, v) ∷ xs') rs)) g
    ∙ ap (chosen (row n)) (joined_equal (k, v) xs' (k, values) rows' (tied_itself nat_list_cmp_total k))
    ∙ ap (λ p. (k, p ∷ values) ∷ chosen (row n) (joined xs' rows')) (sym f))
one_more k n xs o xs' rows values rows' (takes v e f) (stays_row above none same) =
    takes_row (ap (λ ps. chosen (row n) (joined ps rows)) e ∙ ap (chosen (row n)) (first_alone k v xs' rows above)
    ∙ ap (λ p. (k, p ∷ nothing n) ∷ chosen (row n) (joined xs' rows)) (sym f)
    ∙ ap (λ vs. (k, o ∷ vs) ∷ chosen (row n) (joined xs' rows)) (sym none)
    ∙ ap (λ rs. (k, o ∷ values) ∷ chosen (row n) (joined xs' rs)) (sym same))
one_more k n xs o xs' rows values rows' (stays above none same) (takes_row g) =
    takes_row (ap (λ rs. chosen (row n) (joined xs rs)) g ∙ ap (chosen (row n)) (second_alone k values xs rows' above)
    ∙ ap (λ p. (k, p ∷ values) ∷ chosen (row n) (joined xs rows')) (sym none)
    ∙ ap (λ ps. (k, o ∷ values) ∷ chosen (row n) (joined ps rows')) (sym same))
one_more k n xs o xs' rows values rows' (stays above none same) (stays_row above' none' same') =
    stays_row (both_above k n xs rows above above')
    (ap (λ p. p ∷ values) none ∙ ap (λ vs. None ∷ vs) none')
    (ap (λ ps. chosen (row n) (joined ps rows')) same ∙ ap (λ rs. chosen (row n) (joined xs rs)) same')

-- one input, of which a pair waits or no pair is left
of_input : (k : List ℕ) (held : Held) (left : Left) (c : List ℕ × ℕ) → IsFetched held → NotBelow k (waiting_key held c.0)
    → TakesOrStays k (pending left c held) (listed c (held_after k held c.0)) (pending left c (held_after k held c.0))
of_input k Listed left c fetched from = absurd fetched
of_input k Over left c fetched from = stays tt refl refl
of_input k Waiting left c fetched from = elim (compared c.0 k) [
  | less e ↦ absurd (true_false (sym (ap is_lt e) ∙ from))
  | equal e ↦
      let after : held_after k Waiting c.0 ≡ Listed = ap (λ o. if is_eq o then Listed else Waiting) e in
      subst (λ held. TakesOrStays k (c ∷ left.pairs) (listed c held) (pending left c held)) (sym after)
      (takes c.1 (ap (λ key. (key, c.1) ∷ left.pairs) (same_key c.0 k e)) refl)
  | greater e ↦
      let after : held_after k Waiting c.0 ≡ Waiting = ap (λ o. if is_eq o then Listed else Waiting) e in
      subst (λ held. TakesOrStays k (c ∷ left.pairs) (listed c held) (pending left c held)) (sym after)
      (stays (above_turned c.0 k e) refl refl)
]

-- a pair that waits with the key is listed
is_listed : (k : List ℕ) (held : Held) (c : List ℕ × ℕ) → waiting_key held c.0 ≡ Some k → listed c (held_after k held c.0) ≡ None → ⊥
is_listed k Listed c e h = none_some k e
is_listed k Over c e h = none_some k e
is_listed k Waiting c e h =
    let same : c.0 ≡ k = ap (λ o. unwrap_or o []) e in
    let tied : slice_cmp nat_cmp c.0 k ≡ Equal = ap (λ l. slice_cmp nat_cmp l k) same ∙ tied_itself nat_list_cmp_total k in
    let after : held_after k Waiting c.0 ≡ Listed = ap (λ o. if is_eq o then Listed else Waiting) tied in
    some_none c.1 (sym (ap (listed c) after) ∙ h)

abbrev head_of : Values → Option ℕ
head_of [] = None
head_of (o ∷ values) = o

abbrev tail_of : Values → Values
tail_of [] = []
tail_of (o ∷ values) = values

module _ {S : Type 0} (left : S → Left) (current : S → List ℕ × ℕ) where
  abbrev HasKey : List ℕ → List (Input S) → Type 0
  HasKey k [] = ⊥
  HasKey k (i ∷ inputs) = (waiting_key i.held (current i.stream).0 ≡ Some k) ⊎ HasKey k inputs

  nothing_left : (inputs : List (Input S)) → AllFetched inputs → NoneWaits current inputs → all_joined (pendings left current inputs) ≡ []
  nothing_left [] fetched none = refl
  nothing_left (i ∷ inputs) fetched none =
      let more = nothing_left inputs fetched.1 none.1 in
      let here = over i.held (left i.stream) (current i.stream) fetched.0 none.0 in
      let n = length (pendings left current inputs) in
      ap (λ ps. chosen (row n) (joined ps (all_joined (pendings left current inputs)))) here ∙ ap (λ rs. chosen (row n) (joined [] rs)) more
    where
      over : (held : Held) (l : Left) (c : List ℕ × ℕ) → IsFetched held → waiting_key held c.0 ≡ None → pending l c held ≡ []
      over Listed l c fetched none = absurd fetched
      over Waiting l c fetched none = absurd (some_none c.0 none)
      over Over l c fetched none = refl

  same_length : (k : List ℕ) (inputs : List (Input S)) → length (pendings left current (map (after_key current k) inputs)) ≡ length (pendings left current inputs)
  same_length k [] = refl
  same_length k (i ∷ inputs) = ap (λ n. suc n) (same_length k inputs)

  of_inputs : (k : List ℕ) (inputs : List (Input S)) → AllFetched inputs → AllNotBelow current k inputs
      → TakesRow k (length (pendings left current inputs)) (all_joined (pendings left current inputs))
      (listed_all current (map (after_key current k) inputs)) (all_joined (pendings left current (map (after_key current k) inputs)))
  of_inputs k [] fetched from = stays_row tt refl refl
  of_inputs k (i ∷ inputs) fetched from =
      let n = length (pendings left current inputs) in
      let after = map (after_key current k) inputs in
      let c = current i.stream in
      let l = left i.stream in
      let pairs = pending l c (held_after k i.held c.0) in
      subst (λ m. TakesRow k (suc n) (chosen (row n) (joined (pending l c i.held) (all_joined (pendings left current inputs))))
      (listed c (held_after k i.held c.0) ∷ listed_all current after) (chosen (row m) (joined pairs (all_joined (pendings left current after))))) (sym (same_length k inputs))
      (one_more k n (pending l c i.held) (listed c (held_after k i.held c.0)) pairs (all_joined (pendings left current inputs)) (listed_all current after) (all_joined (pendings left current after))
      (of_input k i.held l c fetched.0 from.0) (of_inputs k inputs fetched.1 from.1))

  some_listed : (k : List ℕ) (inputs : List (Input S)) → HasKey k inputs → listed_all current (map (after_key current k) inputs) ≡ nothing (length (pendings left current inputs)) → ⊥
  some_listed k [] has h = has
  some_listed k (i ∷ inputs) (inl e) h = is_listed k i.held (current i.stream) e (ap head_of h)
  some_listed k (i ∷ inputs) (inr more) h = some_listed k inputs more (ap tail_of h)

  steps : (k : List ℕ) (inputs : List (Input S)) → AllFetched inputs → AllNotBelow current k inputs → HasKey k inputs
      → all_joined (pendings left current inputs)
      ≡ (k, listed_all current (map (after_key current k) inputs)) ∷ all_joined (pendings left current (map (after_key current k) inputs))
  steps k inputs fetched from has =
      elim (of_inputs k inputs fetched from) [
        | takes_row e ↦ e
        | stays_row above none same ↦ absurd (some_listed k inputs has none)
      ]

  not_below : (k : List ℕ) (o : Option (List ℕ)) → IsAbove k o → NotBelow k o
  not_below k None above = tt
  not_below k (Some l) above = ap is_lt (turned k l above)

  not_itself : (k : List ℕ) (o : Option (List ℕ)) → o ≡ Some k → NotBelow k o
  not_itself k o e = subst (NotBelow k) (sym e) (ap is_lt (tied_itself nat_list_cmp_total k))

  least_from : (k : List ℕ) (alone : Bool) (at : ℕ) (inputs : List (Input S)) → IsLeastAt current k alone at inputs → AllNotBelow current k inputs
  least_from k alone at [] is = absurd is
  least_from k alone zero (i ∷ inputs) is = (not_itself k (waits current i) is.0, is.1.0)
  least_from k alone (suc at) (i ∷ inputs) is = (not_below k (waits current i) is.0, least_from k alone at inputs is.1)

  least_has : (k : List ℕ) (alone : Bool) (at : ℕ) (inputs : List (Input S)) → IsLeastAt current k alone at inputs → HasKey k inputs
  least_has k alone at [] is = absurd is
  least_has k alone zero (i ∷ inputs) is = inl is.0
  least_has k alone (suc at) (i ∷ inputs) is = inr (least_has k alone at inputs is.1)

  -- the same, once the inputs were fetched and the key was listed
  pub steps_from : (k : List ℕ) (alone : Bool) (at : ℕ) (before : List Pairs) (fetched after : List (Input S)) → AllFetched fetched × (pendings left current fetched ≡ before)
      → IsLeastAt current k alone at fetched → after ≡ map (after_key current k) fetched
      → all_joined before ≡ (k, listed_all current after) ∷ all_joined (pendings left current after)
  steps_from k alone at before fetched after is least listed =
      subst (λ lists. all_joined lists ≡ (k, listed_all current after) ∷ all_joined (pendings left current after)) is.1
      (subst (λ inputs. all_joined (pendings left current fetched) ≡ (k, listed_all current inputs) ∷ all_joined (pendings left current inputs)) (sym listed)
      (steps k fetched is.0 (least_from k alone at fetched least) (least_has k alone at fetched least)))

  pub ends_from : (before : List Pairs) (fetched : List (Input S)) → AllFetched fetched × (pendings left current fetched ≡ before) → NoneWaits current fetched → all_joined before ≡ []
  ends_from before fetched is none = subst (λ lists. all_joined lists ≡ []) is.1 (nothing_left fetched is.0 none)
