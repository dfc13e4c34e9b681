-- Unions, intersections and differences of maps.
use Rattle.std.specs.Prelude.{◌≡◌, ℕ, List, Option, Some, None}
use Rattle.std.specs.Option.{option_or, option_and, option_xor}
use Rattle.zerotrie_core.specs.Maps.{Pairs, Ascends}
use Rattle.zerotrie_core.specs.Listings.{Left}
use Rattle.zerotrie_sets.specs.Streams.{Coming}
use Rattle.zerotrie_sets.specs.Merges.{Both, chosen, value_of}
use Rattle.zerotrie_sets.specs.declared.combined.Keep.TheVariants.{First, Last}
use Rattle.zerotrie_sets.specs.declared.combined.Operation.{Operation}
use Rattle.zerotrie_sets.specs.declared.combined.Operation.TheVariants.{Union, Intersection, Difference, SymmetricDifference}

-- the value if there is no other
abbrev pub without : Option ℕ → Option ℕ → Option ℕ
without first None = first
without first (Some v) = None

-- what a combination has for a key, of what its first and its second map have
abbrev pub choose : Operation → Option ℕ → Option ℕ → Option ℕ
choose (Union First) first second = option_or first second
choose (Union Last) first second = option_or second first
choose (Intersection First) first second = option_and second first
choose (Intersection Last) first second = option_and first second
choose Difference first second = without first second
choose SymmetricDifference first second = option_xor first second

-- The pairs ascend, and have for each key what is chosen of the two lists' values.
pub record IsCombined (operation : Operation) (first second pairs : Pairs) : Type 0 where
  pub ascends : Ascends pairs
  pub values : (key : List ℕ) → value_of key pairs ≡ choose operation (value_of key first) (value_of key second)

-- what is left of a merge, as a combination
abbrev pub combined_left : Operation → Coming (List ℕ × Both ℕ ℕ) → Left
combined_left operation left = record { pairs = chosen (choose operation) left.items; ended = left.ended }
