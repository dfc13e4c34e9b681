-- Merges of any number of lists of pairs.
use Rattle.std.specs.Prelude.{◌≡◌, ℕ, List, [], ◌∷◌, length, map, Option, Some, None, is_some, if◌then◌else◌}
use Rattle.std.specs.List.{list_any}
use Rattle.std.specs.Option.{option_or}
use Rattle.std.proofs.Common.{zero, suc}
use Rattle.zerotrie_core.specs.Maps.{Pairs, Ascends}
use Rattle.zerotrie_sets.specs.Streams.{Coming}
use Rattle.zerotrie_sets.specs.Merges.{Entries, joined, chosen, value_of, KeysAscend}

-- what each input has for a key
abbrev pub Values : Type 0
Values = List (Option ℕ)

-- this many inputs have nothing
abbrev pub nothing : ℕ → Values
nothing zero = []
nothing (suc n) = None ∷ nothing n

-- what the first input has for a key, and then what n others have, unless none has the key
abbrev pub row : ℕ → Option ℕ → Option Values → Option Values
row n None None = None
row n None (Some values) = Some (None ∷ values)
row n (Some v) None = Some (Some v ∷ nothing n)
row n (Some v) (Some values) = Some (Some v ∷ values)

-- the lists as one list of rows: the first list merged with the rows of the others
abbrev pub all_joined : List Pairs → Entries Values
all_joined [] = []
all_joined (pairs ∷ lists) = chosen (row (length lists)) (joined pairs (all_joined lists))

-- what the lists have for a key, unless none has it
abbrev pub values_of : List ℕ → List Pairs → Option Values
values_of key lists =
    let values = map (value_of key) lists in
    if list_any is_some values then Some values else None

-- each list ascends
abbrev pub EachAscends : List Pairs → Type 0
EachAscends [] = Unit {0}
EachAscends (pairs ∷ lists) = Ascends pairs × EachAscends lists

-- The rows ascend, and have for each key what each list has.
pub record IsMergeAll (lists : List Pairs) (rows : Entries Values) : Type 0 where
  pub ascends : KeysAscend rows
  pub values : (key : List ℕ) → value_of key rows ≡ values_of key lists

-- the value of the first input that has one
abbrev pub first_of : Values → Option ℕ
first_of [] = None
first_of (value ∷ values) = option_or value (first_of values)

-- the value of the last input that has one
abbrev pub last_of : Values → Option ℕ
last_of [] = None
last_of (value ∷ values) = option_or (last_of values) value

-- the state of a merge of many: the current row, and what is left
pub record MergingAll : Type 0 where
  pub current : List ℕ × Values
  pub left : Coming (List ℕ × Values)
