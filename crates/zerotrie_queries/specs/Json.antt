-- Pairs as JSON.
use Rattle.std.specs.Prelude.{ℕ, List, [], ◌∷◌, ◌++◌, Bool, true, decimal, map, if◌then◌else◌}
use Rattle.std.specs.Str.{is_utf8}
use Rattle.json.specs.Print.{quoted}
use Rattle.serde_json.specs.Data.{Data, string, object}
use Rattle.serde_json.specs.Written.{compact_text, comma_if}
use Rattle.zerotrie_core.specs.Maps.{Pairs}
use Rattle.zerotrie_any.specs.Json.{whole, members, list_of}

-- the object from the keys of pairs to their values as a text with no space, and a line feed
abbrev pub object_line : Pairs → List ℕ
object_line pairs = compact_text (object (members pairs)) ++ 10 ∷ []

-- a key as a value: a string if it is UTF-8, and else a list of its bytes
abbrev pub key_data : List ℕ → Data
key_data key = if is_utf8 key then string key else list_of (map whole key)

-- a pair as a list of its key and its value, as a text with no space
abbrev pub pair_json : List ℕ × ℕ → List ℕ
pair_json e = compact_text (list_of (key_data e.0 ∷ whole e.1 ∷ []))

-- a pair as a member of an object
abbrev pub member_text : List ℕ × ℕ → List ℕ
member_text e = quoted e.0 ++ 58 ∷ decimal e.1

-- pairs with a comma before each, but none before the first if nothing is before it
abbrev pub member_texts : Bool → Pairs → List ℕ
member_texts later [] = []
member_texts later (e ∷ pairs) = (comma_if later ++ member_text e) ++ member_texts true pairs
