-- The first key that has a value.
use Rattle.std.specs.Prelude.{◌==◌, ℕ, List, Option}
use Rattle.std.specs.List.{find}
use Rattle.std.specs.Option.{option_map}
use Rattle.zerotrie_base.specs.Maps.{Pairs}

-- the key of the first pair that has this value, if one has
abbrev pub first_key_of : ℕ → Pairs → Option (List ℕ)
first_key_of v pairs = option_map (λ e. e.0) (find (λ e. e.1 == v) pairs)
