-- What a node means, as text.
use Rattle.std.specs.Prelude.{ℕ, nat_lt, List, [], ◌∷◌, ◌++◌, ◌/◌, ◌%◌, length, take, codes, decimal, if◌then◌else◌}
use Rattle.zerotrie_lines.specs.Escapes.{hex_digit, escaped}
use Rattle.zerotrie_core.specs.Nodes.{Shape}
use Rattle.zerotrie_core.specs.Nodes.Shape.{value, literal, span, branch}

-- whether a branch has a hashed table, which has more bytes than edges
abbrev pub table_text : ℕ → List ℕ → List ℕ
table_text edges table = if nat_lt edges (length table) then codes "hashed" else codes "sorted"

-- how many edges a branch has, and its table
abbrev pub edges_text : ℕ → List ℕ → List ℕ
edges_text edges table = codes "branch of " ++ (decimal edges ++ (codes " edges, " ++ table_text edges table))

-- the width of its offsets, and its edges
abbrev pub offsets_text : ℕ → List ℕ → List ℕ
offsets_text width edges = codes ", offsets of width " ++ (decimal width ++ (codes ": " ++ escaped edges))

-- what a node means
abbrev pub meaning : Shape → List ℕ
meaning (value v rest) = codes "value " ++ decimal v
meaning (literal b rest) = codes "literal " ++ escaped (b ∷ [])
meaning (span run rest) = codes "span " ++ escaped run
meaning (branch edges width table behind) = edges_text edges table ++ offsets_text width (take edges behind)

-- bytes in hexadecimal
abbrev pub hex : List ℕ → List ℕ
hex [] = []
hex (b ∷ bytes) = hex_digit (b / 16) ∷ hex_digit (b % 16) ∷ hex bytes
