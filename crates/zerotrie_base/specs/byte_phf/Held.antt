-- What a cache keeps inside.
use Rattle.std.specs.Prelude.{ℕ, List, Vec, map}
use Rattle.std.specs.BTreeMap.{BTreeMap}
use Rattle.zerotrie_base.specs.Caches.{Tables}

-- the keys and bytes of tables in vectors
abbrev pub tables_of : {A : Type 0} → List (Vec ℕ A × Vec ℕ A) → Tables
tables_of entries = map {B = List ℕ × List ℕ} (λ e. (e.0.items, e.1.items)) entries

-- the tables of a map, in the order of their keys
abbrev pub held : {A : Type 0} → BTreeMap (Vec ℕ A) (Vec ℕ A) → Tables
held m = tables_of m.entries
