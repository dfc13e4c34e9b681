-- What is selected of any number of maps.
use Rattle.std.proofs.Common.{◌≡◌, ◌+◌, ◌<◌, ◌≤◌, ◌⊎◌, inl, inr, ℕ, List, [], ◌∷◌, ◌++◌, map, fold, length, take, drop, get_or, zero, suc, Option, Some, None, All, Bool, true, false, refl, sym, ap, subst, ◌∙◌, arith, cond, length-append}
use Rattle.std.specs.Prelude.{is_some, if◌then◌else◌, ◌↔◌, Result, Ok, Err, IfOk, IfErr}
use Rattle.std.specs.List.{list_any}
use Rattle.std.specs.Ordering.{nat_cmp, is_eq, ordering_reverse}
use Rattle.std.specs.Cmp.Lexicographic.{slice_cmp}
use Rattle.std.proofs.lemmas.List.Elements.{All-append, All-cons, All-head, All-nil, All-tail, filter_map-append}
use Rattle.std.proofs.lemmas.List.Sums.{fold-append}
use Rattle.std.proofs.Math.Seq.{take-suc}
use Rattle.std.proofs.lemmas.List.{append-nil, length-map}
use Rattle.zerotrie_core.specs.Maps.{Pairs}
use Rattle.zerotrie_sets.specs.Inputs.{listed}
use Rattle.zerotrie_sets.specs.ManyInputs.{listed_all}
use Rattle.zerotrie_sets.specs.declared.input.Input.{Input}
use Rattle.zerotrie_sets.specs.Merges.{Entries, value_of, FirstKeyAbove, KeysAscend}
use Rattle.zerotrie_sets.specs.Rows.{Values, all_joined, EachAscends}
use Rattle.zerotrie_sets.specs.Selections.{present, one_of_two, as_one, is_taken, selected, selected_rows, one_more, IsSmall, HasNoTwo, HasSame, AreSame, IsNoOne, IsNoNext, IsRuleError, IsSelection, IsSelectionError, SomeRowErrs}
use Rattle.zerotrie_sets.specs.declared.selection.Selection.{Selection}
use Rattle.zerotrie_sets.specs.declared.selection.Rule.{Rule}
use Rattle.zerotrie_sets.specs.declared.selection.Rule.TheVariants.{Sum, Equal, Refuse}
use Rattle.zerotrie_sets.specs.declared.selection.RuleError.{RuleError}
use Rattle.zerotrie_sets.specs.declared.selection.RuleError.TheVariants.{SeveralValues, DifferentValues, SumTooLarge}
use Rattle.zerotrie_sets.proofs.MergeLemmas.{Below, same, other, tied, total, first_above, none_there, at_first, chosen_above, chosen_ascends, value_same, value_other, pairs_ascend}
use Rattle.zerotrie_sets.proofs.RowLemmas.{rows_of_all}

-- ---- one value of many

-- the value, if there is one
abbrev pub if_there : Option ℕ → List ℕ
if_there None = []
if_there (Some v) = v ∷ []

present_one : (o : Option ℕ) → present (o ∷ []) ≡ if_there o
present_one None = refl
present_one (Some v) = refl

pub present_next : (vs : Values) (i : ℕ) (o : Option ℕ) → i < length vs → get_or vs i o ≡ o → present (take (i + 1) vs) ≡ present (take i vs) ++ if_there o
present_next vs i o inside is =
    let e : i + 1 ≡ suc i = omega arith in
    ap (λ n. present (take n vs)) e
    ∙ ap present (take-suc vs i o inside)
    ∙ filter_map-append (λ v. v) (take i vs) (get_or vs i o ∷ [])
    ∙ ap (λ p. present (take i vs) ++ present (p ∷ [])) is
    ∙ ap (λ p. present (take i vs) ++ p) (present_one o)

-- what is made of an element is at its place
made_at : {A : Type 0} (f : A → Option ℕ) (xs : List A) (i : ℕ) (x : A) → i < length xs → x ≡ get_or xs i x → get_or (map f xs) i (f x) ≡ f x
made_at f [] i x inside is = absurd (omega arith)
made_at f (y ∷ xs) zero x inside is = ap f (sym is)
made_at f (y ∷ xs) (suc i) x inside is = made_at f xs i x (omega arith) is

-- one value more is there, or none
pub counted_next : (vs : Values) (i : ℕ) (o : Option ℕ) (b : Bool) → i < length vs → get_or vs i o ≡ o → b ≡ is_some o
    → ((b ≡ true) × (length (present (take (i + 1) vs)) ≡ length (present (take i vs)) + 1)) ⊎ ((b ≡ false) × (length (present (take (i + 1) vs)) ≡ length (present (take i vs))))
counted_next vs i None b inside is b_is = inr (b_is, ap length (present_next vs i None inside is) ∙ length-append (present (take i vs)) [] ∙ no_more (length (present (take i vs))))
  where
    no_more : (n : ℕ) → n + 0 ≡ n
    no_more n = omega arith
counted_next vs i (Some v) b inside is b_is = inl (b_is, ap length (present_next vs i (Some v) inside is) ∙ length-append (present (take i vs)) (v ∷ []))

-- a value that was listed is at its place
pub listed_at : {S : Type 0} (current : S → List ℕ × ℕ) (xs : List (Input S)) (i : ℕ) (x : Input S) (o : Option ℕ) → i < length xs → x ≡ get_or xs i x → o ≡ listed (current x.stream) x.held
    → (i < length (listed_all current xs)) × (get_or (listed_all current xs) i o ≡ o)
listed_at {S} current xs i x o inside is o_is =
    let f : Input S → Option ℕ = λ y. listed (current y.stream) y.held in
    let same = length-map xs f in
    (omega (arith, inside, same), subst (λ p. get_or (listed_all current xs) i p ≡ p) (sym o_is) (made_at f xs i x inside is))

-- the values after a place, too
pub present_parts : (vs : Values) (i : ℕ) (o : Option ℕ) → i < length vs → get_or vs i o ≡ o → present vs ≡ (present (take i vs) ++ if_there o) ++ present (drop (i + 1) vs)
present_parts [] i o inside is = absurd (omega arith)
present_parts (None ∷ vs) zero o inside is = ap (λ p. if_there p ++ present vs) is
present_parts (Some v ∷ vs) zero o inside is = ap (λ p. if_there p ++ present vs) is
present_parts (None ∷ vs) (suc i) o inside is = let e : suc i + 1 ≡ suc (i + 1) = omega arith in rw e (present_parts vs i o (omega arith) is)
present_parts (Some v ∷ vs) (suc i) o inside is = let e : suc i + 1 ≡ suc (i + 1) = omega arith in rw e (ap (λ ps. v ∷ ps) (present_parts vs i o (omega arith) is))

pub one_next : (rule : Rule) (xs : List ℕ) (o : Option ℕ) → as_one rule (xs ++ if_there o) ≡ one_more rule (as_one rule xs) o
one_next rule [] None = refl
one_next rule [] (Some v) = refl
one_next rule (x ∷ xs) None = ap Some (fold-append (one_of_two rule) x xs [])
one_next rule (x ∷ xs) (Some v) = ap Some (fold-append (one_of_two rule) x xs (v ∷ []))

-- one value at most, if no two were there
pub few_next : (rule : Rule) (xs : List ℕ) (o : Option ℕ) → length xs ≤ 1 → HasNoTwo (as_one rule xs) o → length (xs ++ if_there o) ≤ 1
few_next rule [] None few h = omega arith
few_next rule [] (Some v) few h = omega arith
few_next rule (x ∷ xs) o few h = rw h (let e = length-append (x ∷ xs) [] in omega (arith, e, few))

-- the first value is kept
pub equal_first : (a : ℕ) (xs : List ℕ) → fold (one_of_two Equal) a xs ≡ a
equal_first a [] = refl
equal_first a (x ∷ xs) = equal_first a xs

pub all_at : (one : ℕ) (xs : List ℕ) (x : ℕ) (ys : List ℕ) → All (λ value. value ≡ one) ((xs ++ x ∷ []) ++ ys) → x ≡ one
all_at one [] x ys all = All-head (λ value. value ≡ one) x ys all
all_at one (y ∷ xs) x ys all = all_at one xs x ys (All-tail (λ value. value ≡ one) y ((xs ++ x ∷ []) ++ ys) all)

-- all are one value, if those before and the next one are
pub same_next : (rule : Rule) (xs : List ℕ) (o : Option ℕ) → rule ≡ Equal → AreSame xs → HasSame (as_one rule xs) o → AreSame (xs ++ if_there o)
same_next rule xs None is alike h = subst AreSame (sym (append-nil xs)) alike
same_next rule [] (Some v) is alike h = (v, All-cons (λ value. value ≡ v) v [] refl (All-nil (λ value. value ≡ v)))
same_next rule (x ∷ xs) (Some v) is alike h =
    let next : fold (one_of_two Equal) x xs ≡ v = rw is at h in
    let P : ℕ → Type 0 = λ value. value ≡ alike.0 in
    (alike.0, All-append P (x ∷ xs) (v ∷ []) alike.1 (All-cons P v [] (sym next ∙ equal_first x xs ∙ All-head P x xs alike.1) (All-nil P)))

-- a sum is no less than one of its parts
sum_least : (a : ℕ) (xs : List ℕ) → a ≤ fold (one_of_two Sum) a xs
sum_least a [] = omega arith
sum_least a (x ∷ xs) = let more = sum_least (a + x) xs in omega (arith, more)

some_first : (rule : Rule) (xs : List ℕ) (v : ℕ) → as_one rule xs ≡ Some v → 0 < length xs
some_first rule [] v is = absurd (none_some v is)
  where
    none_some : (v : ℕ) → None ≡ Some v → ⊥
    none_some v is = cc
some_first rule (x ∷ xs) v is = omega arith

same_value : (a b : ℕ) → Some a ≡ Some b → a ≡ b
same_value a b e = cc

-- nothing is made of two values, so nothing is made of all
pub none_of_all : (rule : Rule) (xs ys : List ℕ) (o : Option ℕ) (e : RuleError) → IsNoNext rule (as_one rule xs) o e → IsNoOne rule ((xs ++ if_there o) ++ ys) e
none_of_all rule xs ys o SeveralValues h =
    let some = some_first rule xs h.0 h.2 in
    rw h.3 (h.4, (let a = length-append (xs ++ h.1 ∷ []) ys in let b = length-append xs (h.1 ∷ []) in omega (arith, a, b, some)))
none_of_all rule [] ys o DifferentValues h = absurd (omega (arith, some_first rule [] h.0 h.2))
none_of_all rule (x ∷ xs) ys o DifferentValues h =
    subst (λ p. IsNoOne rule (((x ∷ xs) ++ if_there p) ++ ys) DifferentValues) (sym h.3) (
      h.4.0,
      λ alike. h.4.1
          (sym (same_value (fold (one_of_two Equal) x xs) h.0 (rw h.4.0 at h.2)) ∙ equal_first x xs
          ∙ All-head (λ value. value ≡ alike.0) x ((xs ++ h.1 ∷ []) ++ ys) alike.1 ∙ sym (all_at alike.0 (x ∷ xs) h.1 ys alike.1)),
    )
none_of_all rule [] ys o SumTooLarge h = absurd (omega (arith, some_first rule [] h.0 h.2))
none_of_all rule (x ∷ xs) ys o SumTooLarge h =
    let n = fold (one_of_two Sum) x ((xs ++ h.1 ∷ []) ++ ys) in
    rw h.3 (rw h.4.0 (
      refl,
      n,
      refl,
      (let first = same_value (fold (one_of_two Sum) x xs) h.0 (rw h.4.0 at h.2) in
          let parts : n ≡ fold (one_of_two Sum) (fold (one_of_two Sum) x xs + h.1) ys = fold-append (one_of_two Sum) x (xs ++ h.1 ∷ []) ys ∙ ap (λ a. fold (one_of_two Sum) a ys) (fold-append (one_of_two Sum) x xs (h.1 ∷ [])) in
          let least = sum_least (fold (one_of_two Sum) x xs + h.1) ys in
          let over = h.4.1 in
          omega (arith, first, parts, least, over)),
    ))

-- one value at most is one
pub one_allowed : (rule : Rule) (xs : List ℕ) (o : Option ℕ) (e : RuleError) → as_one rule xs ≡ o → (rule ≡ Refuse → length xs ≤ 1) → (rule ≡ Equal → AreSame xs) → IsSmall o → IsNoOne rule xs e → ⊥
one_allowed rule xs o SeveralValues is few alike small h = let most = few h.0 in omega (arith, most, h.1)
one_allowed rule xs o DifferentValues is few alike small h = h.1 (alike h.0)
one_allowed rule xs o SumTooLarge is few alike small h = let less = subst IsSmall (sym is ∙ h.2) small in omega (arith, less, h.3)

-- the same of a row, whose key is taken
pub row_allowed : (selection : Selection) (rule : Rule) (values row : Values) (r : Result (Option ℕ) RuleError) → values ≡ row
    → IfOk r (λ _. (e : RuleError) → IsNoOne rule (present values) e → ⊥) → IfOk r (λ _. (e : RuleError) → IsRuleError selection rule row e → ⊥)
row_allowed selection rule values row (Ok one) is allowed = λ e h. allowed e (subst (λ vs. IsNoOne rule (present vs) e) (sym is) h.1)
row_allowed selection rule values row (Err e) is allowed = tt

pub row_err : (selection : Selection) (rule : Rule) (values row : Values) (r : Result (Option ℕ) RuleError) → values ≡ row → is_taken selection row ≡ true
    → IfErr r (IsNoOne rule (present values)) → IfErr r (IsRuleError selection rule row)
row_err selection rule values row (Ok one) is taken err = tt
row_err selection rule values row (Err e) is taken err = (taken, subst (λ vs. IsNoOne rule (present vs) e) is err)

-- ---- rows

-- each row has P
abbrev EachRow : (List ℕ × Values → Type 0) → Entries Values → Type 0
EachRow P [] = Unit {0}
EachRow P (row ∷ rows) = P row × EachRow P rows

each_both : {P Q S : List ℕ × Values → Type 0} → ((row : List ℕ × Values) → P row → Q row → S row) → (rows : Entries Values) → EachRow P rows → EachRow Q rows → EachRow S rows
each_both make [] p q = tt
each_both make (row ∷ rows) p q = (make row p.0 q.0, each_both make rows p.1 q.1)

each_of : {P S : List ℕ × Values → Type 0} → ((row : List ℕ × Values) → P row → S row) → (rows : Entries Values) → EachRow P rows → EachRow S rows
each_of make [] p = tt
each_of make (row ∷ rows) p = (make row p.0, each_of make rows p.1)

-- each key is above what the first is above
each_above : (k : List ℕ) (rows : Entries Values) → FirstKeyAbove k rows → KeysAscend rows → EachRow (λ row. Below k row.0) rows
each_above k [] above up = tt
each_above k (row ∷ rows) above up = (above, each_above k rows (first_above k row.0 rows above up.0) up.1)

-- each row is what is found for its key
each_found : (rows : Entries Values) → KeysAscend rows → EachRow (λ row. value_of row.0 rows ≡ Some row.1) rows
each_found [] up = tt
each_found (first ∷ rows) up = (
  at_first first.0 first.1 rows,
  each_both (λ row below found. later row below ∙ found) rows (each_above first.0 rows up.0 up.1) (each_found rows up.1),
)
  where
    later : (row : List ℕ × Values) → Below first.0 row.0 → value_of row.0 (first ∷ rows) ≡ value_of row.0 rows
    later row below = ap (λ o. cond (is_eq o) (Some first.1) (value_of row.0 rows)) (total.antisymm row.0 first.0 ∙ ap ordering_reverse below)

same_values : (a b : Values) → Some a ≡ Some b → b ≡ a
same_values a b e = cc

-- the rows of some key are found
some_row : (selection : Selection) (rule : Rule) (e : RuleError) (key : List ℕ) (values : Values) (rows : Entries Values) → value_of key rows ≡ Some values → IsRuleError selection rule values e → SomeRowErrs selection rule rows e
some_row selection rule e key values [] is h = absurd cc
some_row selection rule e key values (row ∷ rows) is h = by (is_eq (slice_cmp nat_cmp key row.0)) refl (λ found. some_row selection rule e key values rows found h)
  where
    by : (b : Bool) → is_eq (slice_cmp nat_cmp key row.0) ≡ b → (value_of key rows ≡ Some values → SomeRowErrs selection rule rows e) → IsRuleError selection rule row.1 e ⊎ SomeRowErrs selection rule rows e
    by true eq more = inl (subst (λ v. IsRuleError selection rule v e) (same_values row.1 values (ap (λ b. cond b (Some row.1) (value_of key rows)) (sym eq) ∙ is)) h)
    by false eq more = inr (more (ap (λ b. cond b (Some row.1) (value_of key rows)) (sym eq) ∙ is))

-- ---- what is selected

module _ (selection : Selection) (rule : Rule) where
  selected_above : (k : List ℕ) (rows : Entries Values) → FirstKeyAbove k rows → KeysAscend rows → FirstKeyAbove k (selected_rows selection rule rows)
  selected_above k [] above up = tt
  selected_above k (row ∷ rows) above up =
      chosen_above k row.0 (selected selection rule row.1) (selected_rows selection rule rows) above (selected_above k rows (first_above k row.0 rows above up.0) up.1)

  selected_ascend : (rows : Entries Values) → KeysAscend rows → KeysAscend (selected_rows selection rule rows)
  selected_ascend [] up = tt
  selected_ascend (row ∷ rows) up =
      chosen_ascends row.0 (selected selection rule row.1) (selected_rows selection rule rows) (selected_above row.0 rows up.0 up.1) (selected_ascend rows up.1)

  -- what is selected of what a key has, if it has something
  abbrev selected_of : Option Values → Option ℕ
  selected_of None = None
  selected_of (Some values) = selected selection rule values

  selected_value : (key : List ℕ) (rows : Entries Values) → KeysAscend rows → value_of key (selected_rows selection rule rows) ≡ selected_of (value_of key rows)
  selected_value key [] up = refl
  selected_value key (row ∷ rows) up = elim (tied key row.0) [
    | same e ↦ subst (λ k. value_of k (selected_rows selection rule (row ∷ rows)) ≡ selected_of (value_of k (row ∷ rows))) (sym e)
        (value_same row.0 (selected selection rule row.1) (selected_rows selection rule rows)
        (none_there row.0 (selected_rows selection rule rows) (selected_above row.0 rows up.0 up.1) (selected_ascend rows up.1))
        ∙ ap selected_of (sym (at_first row.0 row.1 rows)))
    | other h ↦ value_other key row.0 (selected selection rule row.1) (selected_rows selection rule rows) h
        ∙ selected_value key rows up.1
        ∙ ap selected_of (sym (ap (λ b. cond b (Some row.1) (value_of key rows)) h))
  ]

  -- no value is there, and so nothing is selected
  none_present : (values : Values) → list_any is_some values ≡ false → present values ≡ []
  none_present [] h = refl
  none_present (None ∷ values) h = none_present values h
  none_present (Some v ∷ values) h = absurd cc

  none_selected : (values : Values) → present values ≡ [] → selected selection rule values ≡ None
  none_selected values none = by (is_taken selection values)
    where
      by : (b : Bool) → (if b then as_one rule (present values) else None) ≡ None
      by true = ap (as_one rule) none
      by false = refl

  none_errs : (values : Values) (e : RuleError) → present values ≡ [] → IsNoOne rule (present values) e → ⊥
  none_errs values SeveralValues none h = let few = ap length none in omega (arith, few, h.1)
  none_errs values DifferentValues none h = h.1 (subst AreSame (sym none) (0, All-nil (λ value. value ≡ 0)))
  none_errs values SumTooLarge none h = absurd (no (h.1) (ap (as_one rule) (sym none) ∙ h.2))
    where
      no : (n : ℕ) → None ≡ Some n → ⊥
      no n is = cc

  -- of a key that has nothing in all lists, and of one that has something
  of_values : (values : Values) → selected_of (if list_any is_some values then Some values else None) ≡ selected selection rule values
  of_values values = by (list_any is_some values) refl
    where
      by : (b : Bool) → list_any is_some values ≡ b → selected_of (if b then Some values else None) ≡ selected selection rule values
      by true h = refl
      by false h = sym (none_selected values (none_present values h))

  pub selection_of_maps : (lists : List Pairs) → EachAscends lists → IsSelection selection rule lists (selected_rows selection rule (all_joined lists))
  selection_of_maps lists up =
      let rows = rows_of_all lists up in
      record {
        ascends = pairs_ascend (selected_rows selection rule (all_joined lists)) (selected_ascend (all_joined lists) rows.ascends);
        values = λ key. selected_value key (all_joined lists) rows.ascends ∙ ap selected_of (rows.values key) ∙ of_values (map (value_of key) lists);
      }

  -- the values of a row are those of its key
  the_values : (b : Bool) (values found : Values) → Some found ≡ (if b then Some values else None) → found ≡ values
  the_values true values found is = cc
  the_values false values found is = absurd cc

  some_key : (lists : List Pairs) (e : RuleError) (rows : Entries Values) → EachRow (λ row. row.1 ≡ map (value_of row.0) lists) rows → SomeRowErrs selection rule rows e → IsSelectionError selection rule lists e
  some_key lists e [] are errs = absurd errs
  some_key lists e (row ∷ rows) are errs = elim errs [
    | inl h ↦ (row.0, subst (λ values. IsRuleError selection rule values e) are.0 h)
    | inr more ↦ some_key lists e rows are.1 more
  ]

  pub row_errors : (lists : List Pairs) (e : RuleError) → EachAscends lists → SomeRowErrs selection rule (all_joined lists) e ↔ IsSelectionError selection rule lists e
  row_errors lists e up =
      let rows = rows_of_all lists up in (
        some_key lists e (all_joined lists) (each_of (λ row found. the_values (list_any is_some (map (value_of row.0) lists)) (map (value_of row.0) lists) row.1 (sym found ∙ rows.values row.0)) (all_joined lists) (each_found (all_joined lists) rows.ascends)),
        λ error. by error.0 error.1 (list_any is_some (map (value_of error.0) lists)) refl,
      )
    where
      by : (key : List ℕ) → IsRuleError selection rule (map (value_of key) lists) e → (b : Bool) → list_any is_some (map (value_of key) lists) ≡ b → SomeRowErrs selection rule (all_joined lists) e
      by key h true some = some_row selection rule e key (map (value_of key) lists) (all_joined lists) ((rows_of_all lists up).values key ∙ ap (λ b. if b then Some (map (value_of key) lists) else None) some) h
      by key h false none = absurd (none_errs (map (value_of key) lists) e (none_present (map (value_of key) lists) none) h.1)
