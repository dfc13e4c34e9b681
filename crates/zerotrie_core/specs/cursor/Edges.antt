-- Steps and probes, after a value.
use Rattle.std.specs.Prelude.{◌≡◌, ◌≢◌, ℕ, List, [], Option, Some, None}
use Rattle.std.specs.Option.{option_map}
use Rattle.zerotrie_base.specs.Kind.{Kind}
use Rattle.zerotrie_base.specs.Maps.{Pairs}
use Rattle.zerotrie_base.specs.Numbers.{BeginsWith}
use Rattle.zerotrie_base.specs.Texts.{Lists}
use Rattle.zerotrie_core.specs.Machine.{behind}
use Rattle.zerotrie_base.specs.Cursors.{met}
use Rattle.zerotrie_base.specs.Nodes.{Shape, Begins}
use Rattle.zerotrie_core.specs.Places.{Place, nowhere, ListsBehind, ListsAt, IsStep, IsProbe}
use Rattle.zerotrie_core.specs.listing.Runs.{HasParts}
use Rattle.zerotrie_core.specs.declared.edges.Along as declared

-- the bytes do not begin with a value
abbrev pub NoValue : List ℕ → Type 0
NoValue bytes = (v : ℕ) (rest : List ℕ) → BeginsWith 16 4 v bytes rest → ⊥

-- Whatever the bytes list, the rest lists pairs with the same edges, and the same after each.
abbrev pub HasTheEdges : Kind → List ℕ → List ℕ → Type 0
HasTheEdges kind bytes rest = (pairs : Pairs) → Lists kind bytes pairs
    → (below : Pairs) × Lists kind rest below × (met below ≡ met pairs) × ((edge : Option ℕ) → behind edge below ≡ behind edge pairs)

-- a byte of the run is left
abbrev pub ListsInside : Kind → List ℕ → List ℕ → Pairs → Type 0
ListsInside kind run trie pairs = (run ≢ []) × ListsBehind kind run trie pairs

-- where an edge leads
abbrev pub place_after : declared.Along → Place
place_after along = record { run = along.run.now; trie = along.trie.now }

-- where an edge leads, if there is one
abbrev pub place_along : Option declared.Along → Place
place_along None = nowhere
place_along (Some along) = place_after along

-- what an edge leads to lies in the bytes, if there is an edge
abbrev pub LiesBehind : List ℕ → Option declared.Along → Type 0
LiesBehind bytes None = Unit {0}
LiesBehind bytes (Some along) = HasParts bytes along.run.now along.trie.now along.after

-- whichever bytes begin with the node: the edge that equals the byte c
abbrev pub StepsFrom : Kind → Shape → ℕ → Option declared.Along → Type 0
StepsFrom kind node c found = (bytes : List ℕ) → Begins kind bytes node
    → IsStep kind (Lists kind bytes) c (option_map (λ a. a.edge) found) (ListsAt kind (place_along found))

-- whichever bytes begin with the node: edge number i, and the number of edges
abbrev pub ProbesFrom : Kind → Shape → ℕ → Option (declared.Along × ℕ) → Type 0
ProbesFrom kind node i found = (bytes : List ℕ) → Begins kind bytes node
    → IsProbe (Lists kind bytes) i (option_map {U = ℕ × ℕ} (λ r. (r.0.edge, r.1)) found) (ListsAt kind (place_along (option_map (λ r. r.0) found)))
