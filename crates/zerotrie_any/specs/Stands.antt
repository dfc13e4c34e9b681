-- The cursor of a `ZeroTrie`, which knows its kind.
use Rattle.std.specs.Prelude.{ℕ, List, []}
use Rattle.zerotrie_core.specs.Maps.{Pairs}
use Rattle.zerotrie_core.specs.Places.{Place, ListsAt}
use Rattle.zerotrie_any.specs.Flavors.{flavor_kind}
use Rattle.zerotrie_any.specs.declared.trie.ZeroTrieFlavor.{ZeroTrieFlavor}

-- Where a cursor is, in a text of which kind.
pub record Stand : Type 0 where
  pub flavor : ZeroTrieFlavor
  pub place : Place

-- in front of all keys of a text
abbrev pub in_front : ZeroTrieFlavor → List ℕ → Stand
in_front flavor bytes = record { flavor = flavor; place = record { run = []; trie = bytes } }

-- what it lists
abbrev pub ListsFrom : Stand → Pairs → Type 0
ListsFrom stand pairs = ListsAt (flavor_kind stand.flavor) stand.place pairs
