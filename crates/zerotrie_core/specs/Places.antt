-- Where a cursor is in an encoding, and what its calls return and leave.
use Rattle.std.specs.Prelude.{◌≡◌, ◌≢◌, ℕ, List, [], ◌∷◌, Option}
use Rattle.std.specs.Option.{option_map}
use Rattle.zerotrie_base.specs.Kind.{Kind}
use Rattle.zerotrie_base.specs.Maps.{Pairs, value_at, with_front}
use Rattle.zerotrie_base.specs.Texts.{Lists}
use Rattle.zerotrie_base.specs.Nodes.{Begins}
use Rattle.zerotrie_base.specs.Nodes.Shape.{value, span}
use Rattle.zerotrie_base.specs.Cursors.{met, edge_like}
use Rattle.zerotrie_core.specs.Machine.{behind, without_value, nth_edge}

-- The rest of a run of bytes that all keys continue with, and the encoding after it.
pub record Place : Type 0 where
  pub run : List ℕ
  pub trie : List ℕ

-- no run is left, and nothing after it
abbrev pub nowhere : Place
nowhere = record { run = []; trie = [] }

-- the pairs are those of the encoding, with the run before each key
abbrev pub ListsBehind : Kind → List ℕ → List ℕ → Pairs → Type 0
ListsBehind kind [] trie pairs = Lists kind trie pairs
ListsBehind kind (b ∷ run) trie pairs = (below : Pairs) × (below ≢ []) × (pairs ≡ with_front b below) × ListsBehind kind run trie below

-- what a place lists
abbrev pub ListsAt : Kind → Place → Pairs → Type 0
ListsAt kind place pairs = ListsBehind kind place.run place.trie pairs

-- Of whichever pairs there were, the edge that equals the byte c in the kind, and the pairs after
-- it.
abbrev pub IsStep : Kind → (Pairs → Type 0) → ℕ → Option ℕ → (Pairs → Type 0) → Type 0
IsStep kind Before c answer After = (pairs : Pairs) → Before pairs
    → (answer ≡ edge_like kind c (met pairs)) × After (behind answer pairs)

-- Of whichever there were, the value of the empty key, and the pairs without it.
abbrev pub IsTake : Kind → (Pairs → Type 0) → Option ℕ → (Pairs → Type 0) → Type 0
IsTake kind Before answer After = (pairs : Pairs) → Before pairs
    → (answer ≡ value_at kind pairs []) × After (without_value pairs)

-- Of whichever there were, edge number i with the number of edges, and the pairs after it.
abbrev pub IsProbe : (Pairs → Type 0) → ℕ → Option (ℕ × ℕ) → (Pairs → Type 0) → Type 0
IsProbe Before i answer After = (pairs : Pairs) → Before pairs
    → (answer ≡ nth_edge i (met pairs)) × After (behind (option_map (λ a. a.0) answer) pairs)

-- after the values before it, the bytes have a span: its run, and the rest after it
pub data MeetsSpan (kind : Kind) : List ℕ → List ℕ → List ℕ → Type 0 where
  at_once : {bytes run rest : List ℕ} → Begins kind bytes (span run rest) → MeetsSpan kind bytes run rest
  after_value : {bytes after run rest : List ℕ} (v : ℕ) → Begins kind bytes (value v after) → MeetsSpan kind after run rest → MeetsSpan kind bytes run rest

-- the run at a place, and the rest after it: what is left of one, or that of the span that comes
-- next
abbrev pub HasRun : Kind → List ℕ → List ℕ → List ℕ → List ℕ → Type 0
HasRun kind [] trie run rest = MeetsSpan kind trie run rest
HasRun kind (b ∷ left) trie run rest = (run ≡ b ∷ left) × (rest ≡ trie)

-- An edge follows the run at a place, by its first byte, and no other.
pub record FollowsRun (kind : Kind) (before : Place) (edge : ℕ) (after : Place) : Type 0 where
  pub along : (b : ℕ) (run rest : List ℕ) → HasRun kind before.run before.trie (b ∷ run) rest
      → (edge ≡ b) × (after ≡ record { run = run; trie = rest })
  pub no_other : after.run ≢ [] → HasRun kind before.run before.trie (edge ∷ after.run) after.trie
