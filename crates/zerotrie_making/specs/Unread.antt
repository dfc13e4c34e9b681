-- What shows that there are no pairs in a JSON value.
use Rattle.std.specs.Prelude.{◌≡◌, ℕ, suc, List, Option, Some, None, option_map, option_and_then}
use Rattle.json.specs.Json.{Json, Items, no_items, item, Members, no_members, member}
use Rattle.json.specs.Find.{as_array, as_object}
use Rattle.zerotrie_making.specs.Json.{number_in, pair_in}
use Rattle.zerotrie_making.specs.declared.error.NoPair.{NoPair}
use Rattle.zerotrie_making.specs.declared.error.NoPair.TheVariants.{Member, Item, Line}

-- 1 if nothing is read, and else one more than the number among the rest, if one of these has it
abbrev pub first_or_later : {A : Type 0} → Option A → Option ℕ → Option ℕ
first_or_later None later = Some 1
first_or_later (Some a) later = option_map suc later

-- the number, from 1 on, of the first item in which nothing is read
abbrev pub first_unread : {A : Type 0} → (Json → Option A) → Items → Option ℕ
first_unread read no_items = None
first_unread read (item j js) = first_or_later (read j) (first_unread read js)

-- the key, if nothing is read, and else that among the rest
abbrev pub key_or_later : {A : Type 0} → Option A → List ℕ → Option (List ℕ) → Option (List ℕ)
key_or_later None key later = Some key
key_or_later (Some a) key later = later

-- the key of the first member whose value is no whole number
abbrev pub first_member : Members → Option (List ℕ)
first_member no_members = None
first_member (member k j ms) = key_or_later (number_in j) k (first_member ms)

-- the key of the first member of an object that is no pair
abbrev pub bad_member : Json → Option (List ℕ)
bad_member j = option_and_then first_member (as_object j)

-- the number of the first item of a list that is no pair
abbrev pub bad_item : Json → Option ℕ
bad_item j = option_and_then (first_unread pair_in) (as_array j)

-- the first member or item of a value that is no pair, if it has one
abbrev pub IsFirst : Json → Option NoPair → Type 0
IsFirst j None = (bad_member j ≡ None) × (bad_item j ≡ None)
IsFirst j (Some (Member key)) = bad_member j ≡ Some key.items
IsFirst j (Some (Item number)) = bad_item j ≡ Some number
IsFirst j (Some (Line number)) = ⊥
