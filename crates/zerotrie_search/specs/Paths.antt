-- Paths down a trie, and what comes in order from a place of one on.
use Rattle.std.specs.Prelude.{◌≡◌, ℕ, List, [], ◌∷◌, ◌++◌, Bool, false, Option, Some, None}
use Rattle.std.specs.Ordering.{nat_cmp, is_le}
use Rattle.std.specs.Cmp.Lexicographic.{slice_cmp}
use Rattle.zerotrie_base.specs.Kind.{Kind, simple_ascii}
use Rattle.zerotrie_base.specs.Maps.{Pairs, value_at, residual}
use Rattle.zerotrie_base.specs.Texts.{Lists}
use Rattle.zerotrie_core.specs.Places.{ListsAt}
use Rattle.zerotrie_core.specs.CursorPlaces.{cursor_at}
use Rattle.zerotrie_core.specs.declared.cursor_place.CursorPlace.{CursorPlace}

-- whether a key is at least another, in the order of bytes
abbrev pub is_from : List ℕ → List ℕ → Bool
is_from bound key = is_le (slice_cmp nat_cmp bound key)

-- the byte of an edge, if there is one
abbrev pub edge_of : Option (ℕ × CursorPlace) → Option ℕ
edge_of None = None
edge_of (Some r) = Some r.0

-- the place after an edge, if there is one, lists what remains after it
abbrev pub LeadsTo : Kind → List ℕ → Pairs → Option (ℕ × CursorPlace) → Type 0
LeadsTo kind bytes pairs None = Unit {0}
LeadsTo kind bytes pairs (Some r) = ListsAt kind (cursor_at bytes r.1) (residual r.0 pairs)

-- the place after an edge of this very byte lists what remains after it; or no key begins with the
-- byte
abbrev pub IsExact : Kind → List ℕ → Pairs → ℕ → Option CursorPlace → Type 0
IsExact kind bytes pairs b None = residual b pairs ≡ []
IsExact kind bytes pairs b (Some after) = ListsAt kind (cursor_at bytes after) (residual b pairs)

-- the places before each byte of a key, and the place after it, list what remains of the keys that
-- begin with the bytes so far
abbrev pub IsPath : Kind → List ℕ → List ℕ → List CursorPlace → CursorPlace → Pairs → Type 0
IsPath kind bytes [] [] here pairs = ListsAt kind (cursor_at bytes here) pairs
IsPath kind bytes [] (p ∷ places) here pairs = ⊥
IsPath kind bytes (b ∷ key) [] here pairs = ⊥
IsPath kind bytes (b ∷ key) (p ∷ places) here pairs = ListsAt kind (cursor_at bytes p) pairs × IsPath kind bytes key places here (residual b pairs)

-- that, in whatever the bytes list
abbrev pub IsPathIn : Kind → List ℕ → List ℕ → List CursorPlace → CursorPlace → Type 0
IsPathIn kind bytes key places here = (pairs : Pairs) → Lists kind bytes pairs → IsPath kind bytes key places here pairs

-- the same keys are at least either of two bounds
abbrev pub SameFrom : Pairs → List ℕ → List ℕ → Type 0
SameFrom pairs x y = (key : List ℕ) (v : ℕ) → value_at simple_ascii pairs key ≡ Some v → is_from x key ≡ is_from y key

-- no key is at least a bound
abbrev pub NoneFrom : Pairs → List ℕ → Type 0
NoneFrom pairs x = (key : List ℕ) (v : ℕ) → value_at simple_ascii pairs key ≡ Some v → is_from x key ≡ false

-- a key was followed as far as the trie has its bytes: all of them, or up to a byte
abbrev pub IsFollowed : Kind → List ℕ → List ℕ → List ℕ → Option ℕ → Type 0
IsFollowed kind bytes sought key None = key ≡ sought
IsFollowed kind bytes sought key (Some b) = (pairs : Pairs) → Lists kind bytes pairs → (tail : List ℕ) → SameFrom pairs (sought ++ tail) (key ++ b ∷ [])
