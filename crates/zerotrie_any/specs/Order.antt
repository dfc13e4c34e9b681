-- Orders of keys.
use Rattle.std.specs.Prelude.{◌≡◌, ℕ, List}
use Rattle.std.specs.Cmp.Lexicographic.{slice_cmp}
use Rattle.std.specs.Ordering.{nat_cmp}
use Rattle.std.specs.declared.cmp.Ordering.{Ordering}

-- the order of keys is that of their bytes
abbrev pub IsByBytes : {K : Type 0} → (K → K → Ordering) → (K → List ℕ) → Type 0
IsByBytes {K = K} cmp key = (j k : K) → cmp j k ≡ slice_cmp nat_cmp (key j) (key k)
