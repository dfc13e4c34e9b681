-- Ranges that are left.
use Rattle.std.specs.Prelude.{ℕ, List, Bool, false, Option, Some, None}
use Rattle.std.specs.Range.Bound.{bound_map, bounds_contain}
use Rattle.zerotrie_search.specs.Sets.{by_bytes}
use Rattle.zerotrie_search.specs.declared.range.KeyRange.{KeyRange}

-- whether a key is in a range, if one is left
abbrev pub is_in_left : Option KeyRange → List ℕ → Bool
is_in_left None key = false
is_in_left (Some range) key = bounds_contain by_bytes (bound_map (λ b. b.now) range.from) (bound_map (λ b. b.now) range.to) key
