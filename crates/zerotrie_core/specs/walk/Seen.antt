-- What is seen of a walk: where it is, and what comes next.
use Rattle.std.specs.Prelude.{◌≡◌, ℕ, ◌+◌, ◌≤◌, List, [], ◌∷◌, length, take, drop, map, reverse, Option, Some, None, Result, Ok, Err}
use Rattle.std.specs.declared.alloc.AllocError.{AllocError}
use Rattle.zerotrie_base.specs.Kind.{Kind}
use Rattle.zerotrie_base.specs.Nodes.{Begins}
use Rattle.zerotrie_core.specs.Shapes.{shape}
use Rattle.zerotrie_core.specs.walk.Visits.{Part, Visit, visits, of_parts}
use Rattle.zerotrie_core.specs.declared.walk.part.Part as parts
use Rattle.zerotrie_core.specs.declared.walk.Visit as seen

-- a part that was read
abbrev pub part_of : parts.Part → Part
part_of p = record { place = p.place; depth = p.depth; above = p.above; edge = p.edge; bytes = p.bytes.now }

-- a node that was read
abbrev pub visit_of : seen.Visit → Visit
visit_of v = record { part = part_of v.part; node = shape v.node }

-- the nodes of parts, the last of which comes first
abbrev pub visits_left : Kind → List parts.Part → List Visit
visits_left kind stack = of_parts (visits kind) (map part_of (reverse stack))

-- The result of `next_node`: the first node that was left, or none was left. After an error nothing
-- is left.
abbrev pub IsNext : List Visit → Result (Option seen.Visit) AllocError → List Visit → Type 0
IsNext before (Ok None) after = (before ≡ []) × (after ≡ [])
IsNext before (Ok (Some v)) after = before ≡ visit_of v ∷ after
IsNext before (Err e) after = after ≡ []

-- The node is at its place in the bytes.
pub record LiesIn (kind : Kind) (bytes : List ℕ) (v : Visit) : Type 0 where
  pub begins : Begins kind v.part.bytes v.node
  pub within : v.part.place + length v.part.bytes ≤ length bytes
  pub there : v.part.bytes ≡ take (length v.part.bytes) (drop v.part.place bytes)
