-- The nodes of any bytes in their order, each with its place, up to where none begins.
use Rattle.std.proofs.Common.{zero, suc}
use Rattle.std.specs.Prelude.{ℕ, ◌+◌, ◌-◌, List, [], ◌∷◌, ◌++◌, length, take, slice_index, Option, Some, None, if◌then◌else◌}
use Rattle.zerotrie_base.specs.Kind.{Kind}
use Rattle.zerotrie_base.specs.Nodes.{Shape, targets_behind, begin_of}
use Rattle.zerotrie_base.specs.Nodes.Shape.{value, literal, span, branch}
use Rattle.zerotrie_core.specs.walk.Row.{row_behind}
use Rattle.zerotrie_core.specs.listing.Listed.{node_of, is_in_order, target_of}

-- A part of an encoding: the number of bytes before it, the number of branches above it, the place
-- of the node that it follows, and, for a target, the byte of its edge.
pub record Part : Type 0 where
  pub place : ℕ
  pub depth : ℕ
  pub above : Option ℕ
  pub edge : Option ℕ
  pub bytes : List ℕ

-- A node, and the part that begins with it.
pub record Visit : Type 0 where
  pub part : Part
  pub node : Shape

-- all of the bytes
abbrev pub whole : List ℕ → Part
whole bytes = record { place = 0; depth = 0; above = None; edge = None; bytes = bytes }

-- what follows a node that is no branch
abbrev pub after_node : Part → List ℕ → Part
after_node at rest = record { place = at.place + (length at.bytes - length rest); depth = at.depth; above = Some at.place; edge = None; bytes = rest }

-- where the targets of a branch begin
abbrev pub targets_place : Part → ℕ → ℕ → List ℕ → ℕ
targets_place at n w behind = at.place + (length at.bytes - length (targets_behind n w behind))

-- the target of an edge, at its place
abbrev pub below_edge : Part → ℕ → ℕ → List ℕ → Part
below_edge at place edge bytes = record { place = place; depth = at.depth + 1; above = Some at.place; edge = Some edge; bytes = bytes }

-- target number i of a branch
abbrev pub target_part : Part → ℕ → ℕ → List ℕ → ℕ → Part
target_part at n w behind i = below_edge at (targets_place at n w behind + begin_of n w behind i) (slice_index behind i) (target_of n w behind i)

-- the last k of n targets, up to the first whose offsets fall
abbrev pub target_parts : Part → ℕ → ℕ → List ℕ → ℕ → List Part
target_parts at n w behind zero = []
target_parts at n w behind (suc k) = let i = n - suc k in
    if is_in_order n w behind i then target_part at n w behind i ∷ target_parts at n w behind k else []

-- what follows a node
abbrev pub parts_behind : Part → Shape → List Part
parts_behind at (value v rest) = after_node at rest ∷ []
parts_behind at (literal b rest) = after_node at rest ∷ []
parts_behind at (span run rest) = after_node at rest ∷ []
parts_behind at (branch n w table behind) = target_parts at n w behind n

-- the nodes of parts, one part after another
abbrev pub of_parts : (Part → List Visit) → List Part → List Visit
of_parts visits [] = []
of_parts visits (at ∷ parts) = visits at ++ of_parts visits parts

-- the nodes of a part that begins with a node
abbrev pub of_first : (Part → List Visit) → Part → Option Shape → List Visit
of_first visits at None = []
of_first visits at (Some s) = record { part = at; node = s } ∷ of_parts visits (parts_behind at s)

-- the nodes of a part, of which at most d are below one another
abbrev pub visits_to : ℕ → Kind → Part → List Visit
visits_to zero kind at = []
visits_to (suc d) kind at = of_first (visits_to d kind) at (node_of kind at.bytes)

-- the nodes of a part
unfoldable pub visits : Kind → Part → List Visit
visits kind at = visits_to (length at.bytes) kind at

-- the nodes of bytes
abbrev pub nodes_of : Kind → List ℕ → List Visit
nodes_of kind bytes = visits kind (whole bytes)

-- the bytes of a node alone: of a branch, those before its targets
abbrev pub own_bytes : Visit → List ℕ
own_bytes v = take (length v.part.bytes - length (row_behind v.node)) v.part.bytes
