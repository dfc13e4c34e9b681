-- Items of a slice or a list, as pairs.
use Rattle.std.specs.Prelude.{ℕ, List, map}
use Rattle.std.specs.Borrow.{Bor}
use Rattle.zerotrie_base.specs.Maps.{Pairs}

-- borrowed keys with their values
abbrev pub Items : Type 0
Items = List (Bor (List ℕ) × ℕ)

-- the pairs of a slice of items
abbrev pub pairs_of : Items → Pairs
pairs_of items = map (λ e. (e.0.now, e.1)) items

-- the pairs of a list, each key by its bytes
abbrev pub keyed : {K : Type 0} → (K → List ℕ) → List (K × ℕ) → Pairs
keyed key items = map {B = List ℕ × ℕ} (λ e. (key e.0, e.1)) items
