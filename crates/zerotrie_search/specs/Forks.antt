-- Open branches, and the keys beyond a key.
use Rattle.std.specs.Prelude.{◌≡◌, ◌≢◌, ◌≤◌, ◌<◌, ◌+◌, ◌==◌, ◌||◌, ◌&&◌, ℕ, List, [], ◌∷◌, ◌++◌, Bool, false, true, Option, Some, None, length, nat_le, not, filter, if◌then◌else◌}
use Rattle.std.proofs.Common.{suc}
use Rattle.std.specs.Borrow.{Bor}
use Rattle.std.specs.FinMap.{entries}
use Rattle.std.specs.Range.Bound.{is_up_to_end}
use Rattle.std.specs.declared.ops.Bound.{Bound}
use Rattle.std.specs.declared.ops.Bound.TheVariants.{Included, Excluded, Unbounded}
use Rattle.zerotrie_base.specs.Kind.{Kind, simple_ascii}
use Rattle.zerotrie_base.specs.Canonical.{size_of}
use Rattle.zerotrie_base.specs.Maps.{Pairs, value_at, residual, behind_all, begins_some, with_run, map_of}
use Rattle.zerotrie_base.specs.Maps.{edges as edges_of}
use Rattle.zerotrie_base.specs.Texts.{Lists}
use Rattle.zerotrie_base.specs.Nodes.{Begins}
use Rattle.zerotrie_core.specs.ByteSets.{is_in}
use Rattle.zerotrie_core.specs.Shapes.{branch_shape}
use Rattle.zerotrie_core.specs.declared.byte_set.ByteSet.{ByteSet}
use Rattle.zerotrie_search.specs.Paths.{SameFrom, NoneFrom, is_from}
use Rattle.zerotrie_search.specs.Sets.{by_bytes}
use Rattle.zerotrie_search.specs.declared.sorted.fork.Fork.{Fork}
use Rattle.zerotrie_search.specs.declared.sorted.seek.Way.{Way}
use Rattle.zerotrie_search.specs.declared.sorted.seek.Way.TheVariants.{Down, Found}

-- whether a byte is one of these
abbrev pub is_among : ℕ → List ℕ → Bool
is_among c [] = false
is_among c (e ∷ edges) = (c == e) || is_among c edges

-- no key begins with a byte that is at least n
abbrev pub NoEdge : Pairs → ℕ → Type 0
NoEdge pairs n = (c : ℕ) → n ≤ c → residual c pairs ≡ []

-- no key begins with a byte from n on and below b
abbrev pub NoneBetween : Pairs → ℕ → ℕ → Type 0
NoneBetween pairs n b = (c : ℕ) → n ≤ c → c < b → residual c pairs ≡ []

-- the same pairs come after each byte
abbrev pub SameEdges : Pairs → Pairs → Type 0
SameEdges p q = (c : ℕ) → residual c p ≡ residual c q

-- at each byte of a run, no key continues with a greater one
abbrev pub Clear : Pairs → List ℕ → Type 0
Clear pairs [] = Unit {0}
Clear pairs (c ∷ run) = NoEdge pairs (suc c) × Clear (residual c pairs) run

-- the target of an edge lists what remains after it; or no key begins with the edge
abbrev pub IsTarget : Kind → Pairs → ℕ → Option (Bor (List ℕ)) → Type 0
IsTarget kind pairs b None = residual b pairs ≡ []
IsTarget kind pairs b (Some target) = Lists kind target.now (residual b pairs)

-- how many bytes the edges of a set and their targets have
abbrev pub need : Kind → Pairs → ByteSet → List ℕ → ℕ
need kind pairs set [] = 0
need kind pairs set (c ∷ edges) = (if is_in set c then suc (size_of kind (residual c pairs)) else 0) + need kind pairs set edges

-- An open branch has the edges of these pairs. Some are left, and there are enough bytes for them.
pub record IsOpen (kind : Kind) (pairs : Pairs) (fork : Fork) : Type 0 where
  pub bytes : List ℕ
  pub below : Pairs
  pub text : Lists kind bytes below
  pub begins : Begins kind bytes (branch_shape fork.branch)
  pub same : SameEdges below pairs
  pub edges : (c : ℕ) → is_in fork.left c ≡ true → (c < 256) × (residual c pairs ≢ [])
  pub room : need kind below fork.left (edges_of below) ≤ fork.room

-- Those that are at least `from` are left.
pub record IsFork (kind : Kind) (pairs : Pairs) (fork : Fork) (from : ℕ) : Type 0 where
  pub opens : IsOpen kind pairs fork
  pub left : (c : ℕ) → is_in fork.left c ≡ (nat_le from c && begins_some pairs c)

-- no edge is left
abbrev pub IsOver : Fork → Type 0
IsOver fork = (c : ℕ) → is_in fork.left c ≡ false

-- The least edge that is left was taken, or none is left.
abbrev pub TakesLeast : Kind → Pairs → Fork → Fork → Option (ℕ × Bor (List ℕ)) → Type 0
TakesLeast kind pairs fork after None = IsOver fork
TakesLeast kind pairs fork after (Some r) =
    (is_in fork.left r.0 ≡ true) × ((c : ℕ) → c < r.0 → is_in fork.left c ≡ false) × Lists kind r.1.now (residual r.0 pairs) × IsOpen kind pairs after × ((c : ℕ) → is_in after.left c ≡ (not (c == r.0) && is_in fork.left c))

-- The least edge from `from` on was taken, and those above it are left; or none was left.
abbrev pub TakesEdge : Kind → Pairs → ℕ → Fork → Option (ℕ × Bor (List ℕ)) → Type 0
TakesEdge kind pairs from fork None = NoEdge pairs from
TakesEdge kind pairs from fork (Some r) =
    (from ≤ r.0) × NoneBetween pairs from r.0 × Lists kind r.1.now (residual r.0 pairs) × (residual r.0 pairs ≢ []) × IsFork kind pairs fork (suc r.0)

-- An open branch on the way to a key, whose edge in the key is the last that was entered. Behind that
-- edge no other branch has edges left.
pub record IsOnWay (kind : Kind) (pairs : Pairs) (key : List ℕ) (fork : Fork) : Type 0 where
  pub front : List ℕ
  pub byte : ℕ
  pub run : List ℕ
  pub key_is : key ≡ front ++ byte ∷ run
  pub depth : fork.depth ≡ length front
  pub left : IsFork kind (behind_all front pairs) fork (suc byte)
  pub some : IsOver fork → ⊥
  pub clear : Clear (residual byte (behind_all front pairs)) run

-- These are the open branches on the way to a key, the innermost first.
abbrev pub AreForks : Kind → Pairs → List ℕ → List Fork → Type 0
AreForks kind pairs key [] = Clear pairs key
AreForks kind pairs key (fork ∷ outer) = (at : IsOnWay kind pairs key fork) × AreForks kind pairs at.front outer

-- the open branches, the innermost first, without those that are at least this deep
abbrev pub outer : ℕ → List Fork → List Fork
outer depth [] = []
outer depth (fork ∷ forks) = if nat_le depth fork.depth then outer depth forks else fork ∷ forks

-- The bytes list all that remains after the key, which some pair does. The keys from the bound on are
-- those from the key on.
pub record Arrives (kind : Kind) (pairs : Pairs) (bound key bytes : List ℕ) (forks : List Fork) : Type 0 where
  pub text : Lists kind bytes (behind_all key pairs)
  pub some : behind_all key pairs ≢ []
  pub way : AreForks kind pairs key forks
  pub from : SameFrom pairs bound key

-- The least edge from `from` on behind a key was entered; or there is none, and nothing changed.
abbrev pub EntersLeast : Kind → Pairs → ℕ → List ℕ → List ℕ → List Fork → Option (Bor (List ℕ)) → Type 0
EntersLeast kind pairs from key key' forks' None = NoEdge (behind_all key pairs) from × (key' ≡ key) × AreForks kind pairs key' forks'
EntersLeast kind pairs from key key' forks' (Some bytes) = Arrives kind pairs (key ++ from ∷ []) key' bytes.now forks'

-- that, or no key is at least the bound
abbrev pub ArrivesOrEnds : Kind → Pairs → List ℕ → List ℕ → List Fork → Option (Bor (List ℕ)) → Type 0
ArrivesOrEnds kind pairs bound key forks None = NoneFrom pairs bound
ArrivesOrEnds kind pairs bound key forks (Some bytes) = Arrives kind pairs bound key bytes.now forks

-- where the keys begin that are still to come: at a key whose value was not read, or behind it
abbrev pub bound_by : List ℕ → Option ℕ → List ℕ
bound_by key None = key ++ 0 ∷ []
bound_by key (Some v) = key

-- The bytes list what remains after the key, but perhaps for its value. The keys from the bound on are
-- those that are still to come.
pub record Stands (kind : Kind) (pairs : Pairs) (bound key bytes : List ℕ) (forks : List Fork) : Type 0 where
  pub below : Pairs
  pub text : Lists kind bytes below
  pub same : SameEdges below (behind_all key pairs)
  pub value : (v : ℕ) → value_at simple_ascii below [] ≡ Some v → value_at simple_ascii pairs key ≡ Some v
  pub way : AreForks kind pairs key forks
  pub from : SameFrom pairs bound (bound_by key (value_at simple_ascii below []))

-- On the way along a lower bound: the key is what was followed of it, and the bytes list what remains
-- after the key, but perhaps for its value if bytes of the bound are left.
pub record Follows (kind : Kind) (pairs : Pairs) (bound left key bytes : List ℕ) (forks : List Fork) : Type 0 where
  pub below : Pairs
  pub text : Lists kind bytes below
  pub same : SameEdges below (behind_all key pairs)
  pub whole : left ≡ [] → below ≡ behind_all key pairs
  pub way : AreForks kind pairs key forks
  pub is : bound ≡ key ++ left

-- a listing from a bound on is at the bytes, or no key is at least the bound
abbrev pub StandsOrEnds : Kind → Pairs → List ℕ → List ℕ → List Fork → Option (Bor (List ℕ)) → Type 0
StandsOrEnds kind pairs bound key forks None = NoneFrom pairs bound
StandsOrEnds kind pairs bound key forks (Some bytes) = Stands kind pairs bound key bytes.now forks

-- The way continues, or ends where the keys from the bound on begin, and the bound is no key.
abbrev pub GoesOn : Kind → Pairs → List ℕ → List ℕ → List Fork → Way → Type 0
GoesOn kind pairs bound key forks (Down bytes left) = Follows kind pairs bound left.now key bytes.now forks
GoesOn kind pairs bound key forks (Found bytes) = (value_at simple_ascii pairs bound ≡ None) × StandsOrEnds kind pairs bound key forks bytes

-- The bytes list the same without the value of the empty key, if that has one.
pub record IsPastValue (kind : Kind) (pairs : Pairs) (bytes : List ℕ) : Type 0 where
  pub below : Pairs
  pub text : Lists kind bytes below
  pub same : SameEdges below pairs
  pub none : value_at simple_ascii below [] ≡ None

-- all keys of the bytes continue with a run, and the bytes after it list what remains
abbrev pub IsRun : Kind → List ℕ → List ℕ → List ℕ → Type 0
IsRun kind bytes run after = (pairs : Pairs) → Lists kind bytes pairs
    → (below : Pairs) × Lists kind after below × (pairs ≡ with_run run below) × (run ≢ []) × (after ≢ [])

-- no more bytes are left to read than before, and fewer if the way continues
abbrev pub IsShorter : ℕ → Way → ℕ → Type 0
IsShorter before (Down after left) rooms = length after.now + rooms < before
IsShorter before (Found None) rooms = Unit {0}
IsShorter before (Found (Some after)) rooms = length after.now + rooms ≤ before

-- the keys that are within a lower bound are those that are at least this
abbrev pub first_bound : Bound (List ℕ) → List ℕ
first_bound (Included key) = key
first_bound (Excluded key) = key ++ 0 ∷ []
first_bound Unbounded = []

-- the pairs whose keys are at least a bound, and within an upper one
abbrev pub pairs_from : Pairs → Bound (List ℕ) → List ℕ → Pairs
pairs_from pairs to bound = filter (λ e. is_from bound e.0 && is_up_to_end by_bytes to e.0) (entries (map_of pairs))
