-- Merges of any number of ascending lists.
use Rattle.std.proofs.Common.{◌≡◌, ℕ, List, [], ◌∷◌, map, length, Option, Some, None, Bool, true, false, refl, sym, ap, ◌∙◌}
use Rattle.std.specs.Prelude.{is_some, if◌then◌else◌, ◌||◌}
use Rattle.std.specs.List.{list_any}
use Rattle.zerotrie_core.specs.Maps.{Pairs}
use Rattle.zerotrie_sets.specs.Merges.{value_of, KeysAscend}
use Rattle.zerotrie_sets.specs.Rows.{Values, nothing, row, all_joined, values_of, EachAscends, IsMergeAll}
use Rattle.zerotrie_sets.proofs.MergeLemmas.{all_ascend, all_values, keys_ascend}

rows_ascend : (lists : List Pairs) → EachAscends lists → KeysAscend (all_joined lists)
rows_ascend [] up = tt
rows_ascend (pairs ∷ lists) up = all_ascend (row (length lists)) pairs (all_joined lists) (keys_ascend pairs up.0) (rows_ascend lists up.1)

-- values of which none is there
none_some : (key : List ℕ) (lists : List Pairs) → list_any is_some (map (value_of key) lists) ≡ false → map (value_of key) lists ≡ nothing (length lists)
none_some key [] h = refl
none_some key (pairs ∷ lists) h = first (value_of key pairs) (map (value_of key) lists) h (none_some key lists)
  where
    first : (o : Option ℕ) (values : Values) → (is_some o || list_any is_some values) ≡ false → (list_any is_some values ≡ false → values ≡ nothing (length lists)) → o ∷ values ≡ None ∷ nothing (length lists)
    first None values h more = ap (λ vs. None ∷ vs) (more h)
    first (Some v) values h more = absurd (cc)

-- a row of one list and others is a row of all
row_of_all : (n : ℕ) (o : Option ℕ) (values : Values) → (list_any is_some values ≡ false → values ≡ nothing n)
    → row n o (if list_any is_some values then Some values else None) ≡ (if list_any is_some (o ∷ values) then Some (o ∷ values) else None)
row_of_all n None values none = by (list_any is_some values)
  where
    by : (b : Bool) → row n None (if b then Some values else None) ≡ (if b then Some (None ∷ values) else None)
    by true = refl
    by false = refl
row_of_all n (Some v) values none = by (list_any is_some values) none
  where
    by : (b : Bool) → (b ≡ false → values ≡ nothing n) → row n (Some v) (if b then Some values else None) ≡ Some (Some v ∷ values)
    by true none = refl
    by false none = ap (λ vs. Some (Some v ∷ vs)) (sym (none refl))

rows_values : (lists : List Pairs) → EachAscends lists → (key : List ℕ) → value_of key (all_joined lists) ≡ values_of key lists
rows_values [] up key = refl
rows_values (pairs ∷ lists) up key =
    all_values (row (length lists)) refl pairs (all_joined lists) (keys_ascend pairs up.0) (rows_ascend lists up.1) key
    ∙ ap (row (length lists) (value_of key pairs)) (rows_values lists up.1 key)
    ∙ row_of_all (length lists) (value_of key pairs) (map (value_of key) lists) (none_some key lists)

pub rows_of_all : (lists : List Pairs) → EachAscends lists → IsMergeAll lists (all_joined lists)
rows_of_all lists up = record { ascends = rows_ascend lists up; values = rows_values lists up }
