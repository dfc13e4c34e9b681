-- The pairs in a JSON value, in the order of the text.
use Rattle.std.specs.Prelude.{◌≡◌, ◌↔◌, ℕ, ◌^◌, ◌&&◌, nat_lt, nat_le, if◌then◌else◌, List, [], ◌∷◌, length, Option, Some, None, option_map, option_and_then}
use Rattle.std.specs.Option.{option_or, option_zip}
use Rattle.json.specs.Json.{Json, Items, no_items, item, Members, no_members, member}
use Rattle.json.specs.Find.{as_str, as_number, as_array, as_object}
use Rattle.zerotrie_lines.specs.Numbers.{number_behind, IsNumber}
use Rattle.zerotrie_lines.specs.Faults.{is_digits}
use Rattle.zerotrie_lines.specs.Tables.{Pair, Pairs}

-- the number that 1 to 20 digits are, if it is below 2 ^ 64
abbrev pub whole : List ℕ → Option ℕ
whole digits =
    if is_digits digits && (nat_le 1 (length digits) && (nat_le (length digits) 20 && nat_lt (number_behind 0 digits) (2 ^ 64)))
    then Some (number_behind 0 digits) else None

-- it is the number that a value of a line is
abbrev pub WholeIsNumber : Type 0
WholeIsNumber = (digits : List ℕ) (value : ℕ) → (whole digits ≡ Some value) ↔ IsNumber digits value

-- the whole number that a value is
abbrev pub number_in : Json → Option ℕ
number_in j = option_and_then whole (as_number j)

-- the byte that a value is
abbrev pub byte_in : Json → Option ℕ
byte_in j = option_and_then (λ n. if nat_lt n 256 then Some n else None) (number_in j)

-- what is read in each item, if something is in each
abbrev pub each : {A : Type 0} → (Json → Option A) → Items → Option (List A)
each read no_items = Some []
each read (item j js) = option_and_then (λ a. option_map (λ more. a ∷ more) (each read js)) (read j)

-- the key in a value: a text, or a list of bytes
abbrev pub key_in : Json → Option (List ℕ)
key_in j = option_or (as_str j) (option_and_then (each byte_in) (as_array j))

-- the pair in items: a key and its value, and no more
abbrev pub pair_of_items : Items → Option Pair
pair_of_items no_items = None
pair_of_items (item k no_items) = None
pair_of_items (item k (item v no_items)) = option_zip (key_in k) (number_in v)
pair_of_items (item k (item v (item j js))) = None

-- the pair in a value, which is a list of two
abbrev pub pair_in : Json → Option Pair
pair_in j = option_and_then pair_of_items (as_array j)

-- the pairs in the members of an object, each of a name and its value: a name that comes twice is the key of two pairs
abbrev pub member_pairs : Members → Option Pairs
member_pairs no_members = Some []
member_pairs (member k j ms) = option_and_then (λ n. option_map (λ more. (k, n) ∷ more) (member_pairs ms)) (number_in j)

-- the pairs in a value: an object from names to numbers, or a list of pairs
abbrev pub pairs_in : Json → Option Pairs
pairs_in j = option_or (option_and_then member_pairs (as_object j)) (option_and_then (each pair_in) (as_array j))
