-- The drawing of nodes, as Graphviz reads it.
use Rattle.std.specs.Prelude.{ℕ, ◌/◌, ◌%◌, ◌==◌, ◌&&◌, nat_le, List, [], ◌∷◌, ◌++◌, take, codes, decimal, Option, Some, None, if◌then◌else◌}
use Rattle.zerotrie_lines.specs.Escapes.{hex_digit}
use Rattle.zerotrie_core.specs.Nodes.{Shape}
use Rattle.zerotrie_core.specs.Nodes.Shape.{value, literal, span, branch}
use Rattle.zerotrie_core.specs.walk.Visits.{Visit}

-- a byte of a label: a quotation mark and a backslash after a backslash, other printable ones as they are, and the rest as \x and
-- two digits
abbrev pub quoted_byte : ℕ → List ℕ
quoted_byte b =
    if b == 34 then codes "\\\"" else (if b == 92 then codes "\\\\" else (if nat_le 32 b && nat_le b 126 then b ∷ []
    else 92 ∷ 92 ∷ 120 ∷ hex_digit (b / 16) ∷ hex_digit (b % 16) ∷ []))

abbrev pub quoted : List ℕ → List ℕ
quoted [] = []
quoted (b ∷ bytes) = quoted_byte b ++ quoted bytes

-- the shape of a node
abbrev pub shape_text : Shape → List ℕ
shape_text (value v rest) = codes "box"
shape_text (literal b rest) = codes "ellipse"
shape_text (span run rest) = codes "ellipse"
shape_text (branch edges width table behind) = codes "diamond"

-- what is in it
abbrev pub label : Shape → List ℕ
label (value v rest) = decimal v
label (literal b rest) = quoted (b ∷ [])
label (span run rest) = quoted run
label (branch edges width table behind) = decimal edges ++ codes " edges"

-- the byte of an edge
abbrev pub edge_label : Option ℕ → List ℕ
edge_label None = []
edge_label (Some b) = quoted (b ∷ [])

-- the ends of the line from the node that a node follows, and the byte on it
abbrev pub ends_text : ℕ → ℕ → List ℕ
ends_text above place = codes "  n" ++ (decimal above ++ (codes " -> n" ++ decimal place))

abbrev pub arrow : Option ℕ → ℕ → Option ℕ → List ℕ
arrow None place edge = []
arrow (Some above) place edge = ends_text above place ++ (codes " [label=\"" ++ (edge_label edge ++ codes "\"];\n"))

-- the name of a node, and its shape
abbrev pub name_text : ℕ → Shape → List ℕ
name_text place s = codes "  n" ++ (decimal place ++ (codes " [shape=" ++ shape_text s))

-- the lines of a node
abbrev pub dot_node : Visit → List ℕ
dot_node v = name_text v.part.place v.node ++ (codes ",label=\"" ++ (label v.node ++ (codes "\"];\n" ++ arrow v.part.above v.part.place v.part.edge)))

abbrev pub dot_nodes : List Visit → List ℕ
dot_nodes [] = []
dot_nodes (v ∷ visits) = dot_node v ++ dot_nodes visits

-- the drawing of the first nodes, at most this many
abbrev pub drawing : ℕ → List Visit → List ℕ
drawing most visits = codes "digraph trie {\n  rankdir=LR;\n" ++ (dot_nodes (take most visits) ++ codes "}\n")
