-- Laws of sorted listings.
use Rattle.std.specs.Prelude.{◌≡◌, ℕ, List}
use Rattle.std.specs.declared.ops.Bound.{Bound}
use Rattle.std.specs.declared.ops.Bound.TheVariants.{Unbounded}
use Rattle.zerotrie_base.specs.Kind.{simple_ascii}
use Rattle.zerotrie_base.specs.Maps.{Pairs, Map, map_of, Ascends}
use Rattle.zerotrie_base.specs.Texts.{Lists}
use Rattle.zerotrie_search.specs.Sorted.{within}

-- the pairs between two bounds ascend by their keys
abbrev pub SortedAscends : Type 0
SortedAscends = (from to : Bound (List ℕ)) (m : Map) → Ascends (within from to m)

-- where a table is sorted by bytes, the sorted listing is the listing itself
abbrev pub SortedIsListed : Type 0
SortedIsListed = (bytes : List ℕ) (pairs : Pairs) → Lists simple_ascii bytes pairs → within Unbounded Unbounded (map_of pairs) ≡ pairs
