-- Tables of places.
use Rattle.std.specs.Prelude.{◌≡◌, ℕ, List, map, Option, Some, None, Vec, vec_len}
use Rattle.std.specs.Global.{Global}
use Rattle.std.specs.List.Sorted.{IsNonDecreasingBy}
use Rattle.zerotrie_core.specs.Kind.{Kind}
use Rattle.zerotrie_core.specs.Maps.{Pairs}
use Rattle.zerotrie_core.specs.Texts.{Lists}
use Rattle.zerotrie_core.specs.Values.{first_key_of}
use Rattle.zerotrie_reverse.specs.Descent.{key_at, value_at}

-- The trie that a table is of, and how many places the table has.
pub record Reversed : Type 0 where
  pub kind : Kind
  pub bytes : List ℕ
  pub size : ℕ

-- the number of places, if there are any
abbrev pub size_of : Option (Vec ℕ Global) → ℕ
size_of None = 0
size_of (Some places) = vec_len places

-- the pair that a descent to a place reads
abbrev pub pair_at : Kind → List ℕ → ℕ → List ℕ × ℕ
pair_at kind bytes place = (key_at kind bytes place, value_at bytes place)

-- the pairs at some places
abbrev pub pairs_at : Kind → List ℕ → List ℕ → Pairs
pairs_at kind bytes places = map {B = List ℕ × ℕ} (pair_at kind bytes) places

-- The places are in the order of their values, and of each value the first of them is that of the
-- first pair that has it.
pub record IsTable (kind : Kind) (bytes places : List ℕ) : Type 0 where
  pub ascends : IsNonDecreasingBy (value_at bytes) places
  pub firsts : (pairs : Pairs) → Lists kind bytes pairs → (v : ℕ) → first_key_of v (pairs_at kind bytes places) ≡ first_key_of v pairs
