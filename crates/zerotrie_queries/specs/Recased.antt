-- A map whose keys are in the case that another map has them in.
use Rattle.std.specs.Prelude.{ℕ, List, [], ◌∷◌, ◌&&◌, Bool, Option, Some, if◌then◌else◌}
use Rattle.std.specs.FinMap.{entries}
use Rattle.zerotrie_core.specs.Kind.{Kind, flags}
use Rattle.zerotrie_core.specs.Maps.{Map, Pairs, look}
use Rattle.zerotrie_sets.specs.Merges.{if_some, joined, chosen}
use Rattle.zerotrie_sets.specs.Operations.{choose}
use Rattle.zerotrie_sets.specs.declared.combined.Keep.TheVariants.{First, Last}
use Rattle.zerotrie_sets.specs.declared.combined.Operation.{Operation}
use Rattle.zerotrie_sets.specs.declared.combined.Operation.TheVariants.{Union, Intersection, Difference}

-- both kinds ignore case
abbrev pub ignore_both : Kind → Kind → Bool
ignore_both k j = (flags k).ignore_case && (flags j).ignore_case

-- the keys for which an operation has a value, of theirs and of what a look-up in the second map finds, each with that
abbrev pub looked_up : Operation → (List ℕ → Option ℕ) → Pairs → Pairs
looked_up operation at [] = []
looked_up operation at (e ∷ pairs) = if_some e.0 (choose operation (Some e.1) (at e.0)) (looked_up operation at pairs)

-- pairs of the second map, whose keys may be in any case, with their keys as the first one has them: the keys of the first that the second
-- has, and the other pairs
abbrev pub recased : Kind → Kind → Map → Map → Pairs → Pairs
recased k j m n pairs = chosen (choose (Union First))
    (joined (looked_up (Intersection Last) (look j n) (entries m)) (looked_up Difference (look k m) pairs))

-- what a merge takes of the second map: all as it is, unless both kinds ignore case
abbrev pub second_pairs : Kind → Kind → Map → Map → Pairs
second_pairs k j m n = if ignore_both k j then recased k j m n (entries n) else entries n
