-- The pairs of a trie in an order.
use Rattle.std.specs.Prelude.{◌≡◌, ℕ, List, Bool, true, false, ◌&&◌, is_some, not, if◌then◌else◌}
use Rattle.std.proofs.Common.{suc}
use Rattle.std.specs.FinMap.{entries}
use Rattle.std.specs.Range.Bound.{bound_map, bounds_contain}
use Rattle.std.specs.declared.ops.Bound.{Bound}
use Rattle.std.specs.declared.ops.Bound.TheVariants.{Included, Excluded, Unbounded}
use Rattle.zerotrie_core.specs.Maps.{Pairs, map_of}
use Rattle.zerotrie_core.specs.declared.TrieKind.{TrieKind}
use Rattle.zerotrie_search.specs.Nearest.{nearest}
use Rattle.zerotrie_search.specs.Searches.{accepted}
use Rattle.zerotrie_search.specs.Sets.{by_bytes}
use Rattle.zerotrie_search.specs.Sorted.{within}
use Rattle.zerotrie_search.specs.declared.range.KeyRange.{KeyRange}
use Rattle.zerotrie_queries.specs.Chosen.{chosen, closest, edits_of, is_chosen, measured}
use Rattle.zerotrie_queries.specs.declared.question.Choice.{Choice}
use Rattle.zerotrie_queries.specs.declared.question.Order.{Order}
use Rattle.zerotrie_queries.specs.declared.question.Order.TheVariants.{Stored, ByBytes, Closest, Nearest}

-- whether a range has no bounds
abbrev pub is_free : {A : Type 0} → Bound A → Bool
is_free (Included key) = false
is_free (Excluded key) = false
is_free Unbounded = true

abbrev pub is_unbounded : KeyRange → Bool
is_unbounded r = is_free r.from && is_free r.to

-- whether a choice has no condition but a prefix
abbrev pub is_prefix_alone : Choice → Bool
is_prefix_alone c = not (is_some c.sought) && (not (is_some c.without) && is_unbounded c.range)

-- the pairs whose keys are chosen, in an order: those with a prefix as a trie lists them, or all as their keys ascend by their
-- bytes; of those that edits find, the nearest, or the nearest first
abbrev pub picked : Order → TrieKind → Choice → Pairs → Pairs
picked Stored kind c pairs = if is_prefix_alone c then chosen kind c pairs else chosen kind c (entries (map_of pairs))
picked ByBytes kind c pairs = chosen kind c (entries (map_of pairs))
picked Closest kind c pairs = closest kind c (entries (map_of pairs)) 0 (edits_of c)
picked Nearest kind c pairs = nearest (measured kind c) (entries (map_of pairs)) 0 (suc (edits_of c))

-- the pairs between two bounds that are accepted, as their keys ascend by their bytes
abbrev pub found_between : KeyRange → (accepts : List ℕ → Bool) → Pairs → Pairs
found_between r accepts pairs = accepted accepts (within (bound_map (λ b. b.now) r.from) (bound_map (λ b. b.now) r.to) (map_of pairs))

-- each key that is chosen is between two bounds
abbrev pub AreWithin : TrieKind → Choice → (from to : Bound (List ℕ)) → Type 0
AreWithin kind choice from to = (key : List ℕ) → is_chosen kind choice key ≡ true → bounds_contain by_bytes from to key ≡ true
