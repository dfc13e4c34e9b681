-- What changed from one map to another.
use Rattle.std.specs.Prelude.{◌≡◌, ◌==◌, ℕ, List, Option, Some, None, if◌then◌else◌}
use Rattle.zerotrie_core.specs.Maps.{Pairs}
use Rattle.zerotrie_sets.specs.Streams.{Coming}
use Rattle.zerotrie_sets.specs.Merges.{Entries, Both, joined, chosen, value_of, KeysAscend}
use Rattle.zerotrie_sets.specs.declared.diff.Change.{Change}
use Rattle.zerotrie_sets.specs.declared.diff.Change.TheVariants.{Added, Removed, Changed}

-- how a key changed, of what the first and the second map have for it
abbrev pub change : Option ℕ → Option ℕ → Option Change
change None None = None
change None (Some new) = Some (Added new)
change (Some old) None = Some (Removed old)
change (Some old) (Some new) = if old == new then None else Some (Changed old new)

-- the keys that changed, each with how it did
abbrev pub changes : Pairs → Pairs → Entries Change
changes first second = chosen change (joined first second)

-- The keys ascend, and a key is there exactly as it changed from the first list to the second.
pub record IsDiff (first second : Pairs) (diff : Entries Change) : Type 0 where
  pub ascends : KeysAscend diff
  pub changes : (key : List ℕ) → value_of key diff ≡ change (value_of key first) (value_of key second)

-- the state of a diff: the current key with its change, and what is left
pub record Differing : Type 0 where
  pub current : List ℕ × Change
  pub left : Coming (List ℕ × Change)

-- what is left of a merge, as changes
abbrev pub changes_left : Coming (List ℕ × Both ℕ ℕ) → Coming (List ℕ × Change)
changes_left left = record { items = chosen change left.items; ended = left.ended }
