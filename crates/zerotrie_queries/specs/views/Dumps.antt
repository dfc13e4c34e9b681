-- The lines of nodes.
use Rattle.std.specs.Prelude.{ℕ, List, [], ◌∷◌, ◌++◌, decimal, Option, Some, None}
use Rattle.zerotrie_lines.specs.Escapes.{escaped}
use Rattle.zerotrie_core.specs.walk.Visits.{Part, Visit, own_bytes}
use Rattle.zerotrie_queries.specs.views.Meanings.{meaning, hex}

-- the byte of an edge, if there is one
abbrev pub edge_text : Option ℕ → List ℕ
edge_text None = []
edge_text (Some b) = escaped (b ∷ [])

-- where a node is: its place, how many branches are above it, and the byte of its edge, with tabs between them
abbrev pub stand_text : Part → List ℕ
stand_text p = decimal p.place ++ (9 ∷ (decimal p.depth ++ (9 ∷ edge_text p.edge)))

-- the line of a node: where it is, what it means, and its bytes
abbrev pub dump_line : Visit → List ℕ
dump_line v = stand_text v.part ++ (9 ∷ (meaning v.node ++ (9 ∷ (hex (own_bytes v) ++ (10 ∷ [])))))

abbrev pub dump_lines : List Visit → List ℕ
dump_lines [] = []
dump_lines (v ∷ visits) = dump_line v ++ dump_lines visits
