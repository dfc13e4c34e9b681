-- The sorted listings that C asks for.
use Rattle.std.specs.Prelude.{ℕ, List, Option}
use Rattle.std.specs.Option.{option_zip}
use Rattle.std.specs.declared.ops.Bound.{Bound}
use Rattle.zerotrie_c.specs.Searched.{bound_with}

-- the lower and the upper bound of these numbers and keys, if each number has a bound
abbrev pub bounds_with : ℕ → List ℕ → ℕ → List ℕ → Option (Bound (List ℕ) × Bound (List ℕ))
bounds_with from_bound from to_bound to = option_zip (bound_with from_bound from) (bound_with to_bound to)
