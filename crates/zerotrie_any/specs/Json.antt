-- The JSON value of a map, and the pairs in a value.
use Rattle.std.specs.Prelude.{◌≡◌, ℕ, List, [], ◌∷◌, map, Bool, nat_lt, if◌then◌else◌, Option, Some, None, option_map, option_and_then}
use Rattle.std.specs.Option.{option_or, option_zip}
use Rattle.std.specs.List.{list_all}
use Rattle.std.specs.FinMap.{entries}
use Rattle.std.specs.Str.{is_utf8}
use Rattle.serde_json.specs.Data.{Data, number, unsigned, array, object, Items, no_items, item, Members, no_members, member}
use Rattle.serde_json.specs.Find.{as_u64, as_number, as_str, as_array, as_object}
use Rattle.serde_json.specs.View.{items_of}
use Rattle.zerotrie_core.specs.Kind.{Kind}
use Rattle.zerotrie_core.specs.Maps.{Pairs, Map}
use Rattle.zerotrie_core.specs.Fits.{Fits}

-- a whole number
abbrev pub whole : ℕ → Data
whole n = number (unsigned n)

-- the members of an object from keys to values
abbrev pub members : Pairs → Members
members [] = no_members
members (e ∷ pairs) = member e.0 (whole e.1) (members pairs)

-- a list of values
abbrev pub list_of : List Data → Data
list_of ds = array (items_of ds)

-- a pair as a list of two, the bytes of its key and its value
abbrev pub pair_list : List ℕ × ℕ → Data
pair_list e = list_of (list_of (map whole e.0) ∷ whole e.1 ∷ [])

-- whether each key is UTF-8
abbrev pub are_text : Pairs → Bool
are_text pairs = list_all (λ e. is_utf8 e.0) pairs

-- the value of pairs: an object if each key is UTF-8, and else a list of lists of two
abbrev pub json_of : Pairs → Data
json_of pairs = if are_text pairs then object (members pairs) else list_of (map pair_list pairs)

-- the value of a map, whose keys ascend by their bytes
abbrev pub json : Map → Data
json m = json_of (entries m)

-- what is read in each item, if something is in each
abbrev pub each : {A : Type 0} → (Data → Option A) → Items → Option (List A)
each read no_items = Some []
each read (item d ds) = option_and_then (λ a. option_map (λ more. a ∷ more) (each read ds)) (read d)

-- the whole number that a value is
abbrev pub number_in : Data → Option ℕ
number_in d = option_and_then as_u64 (as_number d)

-- the byte that a value is
abbrev pub byte_in : Data → Option ℕ
byte_in d = option_and_then (λ n. if nat_lt n 256 then Some n else None) (number_in d)

-- the key in a value: a text, or a list of bytes
abbrev pub key_in : Data → Option (List ℕ)
key_in d = option_or (as_str d) (option_and_then (each byte_in) (as_array d))

-- the pair in items: a key and its value, and no more
abbrev pub pair_of_items : Items → Option (List ℕ × ℕ)
pair_of_items no_items = None
pair_of_items (item k no_items) = None
pair_of_items (item k (item v no_items)) = option_zip (key_in k) (number_in v)
pair_of_items (item k (item v (item d ds))) = None

-- the pair in a value, which is a list of two
abbrev pub pair_in : Data → Option (List ℕ × ℕ)
pair_in d = option_and_then pair_of_items (as_array d)

-- the pairs in the members of an object, each of a text and its value
abbrev pub member_pairs : Members → Option Pairs
member_pairs no_members = Some []
member_pairs (member k d ms) = option_and_then (λ n. option_map (λ more. (k, n) ∷ more) (member_pairs ms)) (number_in d)

-- the pairs in a value: an object from text to number, or a list of pairs
abbrev pub pairs_in : Data → Option Pairs
pairs_in d = option_or (option_and_then member_pairs (as_object d)) (option_and_then (each pair_in) (as_array d))

-- the pairs in the value of a map are the map's, if the map fits some kind
abbrev pub JsonKeepsPairs : Type 0
JsonKeepsPairs = (kind : Kind) (m : Map) → Fits kind m → pairs_in (json m) ≡ Some (entries m)
