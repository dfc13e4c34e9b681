-- The keys of another trie, as an automaton.
use Rattle.std.specs.Prelude.{ℕ, List, Bool, is_some}
use Rattle.zerotrie_base.specs.Kind.{Kind}
use Rattle.zerotrie_base.specs.Maps.{Pairs, value_at, with_run}
use Rattle.zerotrie_base.specs.Texts.{Lists}
use Rattle.zerotrie_core.specs.Machine.{after_steps}
use Rattle.zerotrie_core.specs.Places.{Place, ListsAt}
use Rattle.zerotrie_core.specs.CursorPlaces.{cursor_at}
use Rattle.zerotrie_core.specs.listing.Listed.{listed}
use Rattle.zerotrie_core.specs.declared.cursor_place.CursorPlace.{CursorPlace}

-- another trie: its kind and its bytes
pub record Other : Type 0 where
  pub kind : Kind
  pub bytes : List ℕ

-- whether it has a key, as its kind compares bytes
abbrev pub has_key : Other → List ℕ → Bool
has_key other key = is_some (value_at other.kind (listed other.kind other.bytes) key)

-- whether a place has a key
abbrev pub has_at : Kind → Place → List ℕ → Bool
has_at kind place key = is_some (value_at kind (with_run place.run (listed kind place.trie)) key)

-- a place lists what remains of the other trie's keys after these bytes
abbrev pub IsAlong : Other → List ℕ → CursorPlace → Type 0
IsAlong other front place = (pairs : Pairs) → Lists other.kind other.bytes pairs
    → ListsAt other.kind (cursor_at other.bytes place) (after_steps other.kind front pairs)
