-- What a look-up finds in a dense row: words for private functions.
use Rattle.std.specs.Prelude.{ℕ, List, [], ◌∷◌, Option, None}
use Rattle.zerotrie_core.specs.Kind.{simple_ascii}
use Rattle.zerotrie_core.specs.Maps.{Pairs, Map, value_at, look}
use Rattle.zerotrie.specs.dense.Records.{Parts}
use Rattle.zerotrie.specs.dense.Laws.{in_matrix, or_else}

-- the value of a key, but none of the empty key
abbrev pub beside_value : Pairs → List ℕ → Option ℕ
beside_value pairs [] = None
beside_value pairs (b ∷ key) = value_at simple_ascii pairs (b ∷ key)

-- what a dense row of this number answers, of which the primary has these pairs after prefix and delimiter
abbrev pub row_answer : Parts → Pairs → Map → List ℕ → ℕ → Option ℕ
row_answer t pairs columns suffix row = or_else (beside_value pairs suffix)
    (in_matrix t row (value_at simple_ascii pairs []) (look simple_ascii columns suffix))
