-- What is counted over the nodes of a trie.
use Rattle.std.specs.Prelude.{ℕ, ◌+◌, ◌-◌, ◌*◌, ◌==◌, nat_le, Bool, true, false, if◌then◌else◌, List, [], ◌∷◌, ◌++◌, map, max, Option, Some, None}
use Rattle.std.specs.List.{count_by, range_with_len}
use Rattle.zerotrie_core.specs.Nodes.{Shape}
use Rattle.zerotrie_core.specs.Nodes.Shape.{value, literal, span, branch}
use Rattle.zerotrie_core.specs.WellFormed.{greatest}
use Rattle.zerotrie_core.specs.walk.Visits.{Visit}
use Rattle.zerotrie_queries.specs.declared.reports.branches.Branches.{Branches}

-- the value that a node is, if it is one
abbrev pub value_in : Shape → List ℕ
value_in (value v rest) = v ∷ []
value_in (literal b rest) = []
value_in (span run rest) = []
value_in (branch edges width table behind) = []

-- the values, in the order of their nodes
abbrev pub values : List Visit → List ℕ
values [] = []
values (v ∷ visits) = value_in v.node ++ values visits

-- how many branches the key of a value passes, if the node is a value
abbrev pub depth_in : Visit → List ℕ
depth_in v = map (λ value. v.part.depth) (value_in v.node)

-- how many branches each key passes
abbrev pub depths : List Visit → List ℕ
depths [] = []
depths (v ∷ visits) = depth_in v ++ depths visits

-- the greatest of some numbers, if there are any
abbrev pub greatest_of : List ℕ → Option ℕ
greatest_of [] = None
greatest_of (n ∷ more) = Some (max n (greatest more))

-- the sorts of nodes
abbrev pub is_literal : Shape → Bool
is_literal (value v rest) = false
is_literal (literal b rest) = true
is_literal (span run rest) = false
is_literal (branch edges width table behind) = false

abbrev pub is_span : Shape → Bool
is_span (value v rest) = false
is_span (literal b rest) = false
is_span (span run rest) = true
is_span (branch edges width table behind) = false

abbrev pub is_branch : Shape → Bool
is_branch (value v rest) = false
is_branch (literal b rest) = false
is_branch (span run rest) = false
is_branch (branch edges width table behind) = true

-- the group of a number of edges: 2, 3 to 4, 5 to 8, and so on up to 129 to 256
abbrev pub group_of : ℕ → ℕ
group_of edges =
    if nat_le edges 2 then 0 else (if nat_le edges 4 then 1 else (if nat_le edges 8 then 2 else (if nat_le edges 16 then 3
    else (if nat_le edges 32 then 4 else (if nat_le edges 64 then 5 else (if nat_le edges 128 then 6 else 7))))))

-- the cell of branches with this many edges and offsets of this many bytes
abbrev pub cell_of : ℕ → ℕ → ℕ
cell_of edges width = 8 * group_of edges + (width - 1)

-- whether a node is a branch of this cell
abbrev pub is_in_cell : ℕ → Shape → Bool
is_in_cell i (value v rest) = false
is_in_cell i (literal b rest) = false
is_in_cell i (span run rest) = false
is_in_cell i (branch edges width table behind) = i == cell_of edges width

-- how many nodes are of a sort
unfoldable pub count_of : (Shape → Bool) → List Visit → ℕ
count_of is_one visits = count_by (λ v. is_one v.node) visits

-- how many branches each of the first n cells has
unfoldable pub cells_in : ℕ → List Visit → List ℕ
cells_in n visits = map (λ i. count_of (is_in_cell i) visits) (range_with_len 0 n)

-- the branches, by the number of their edges and the width of their offsets
abbrev pub branches_in : List Visit → Branches
branches_in visits = record {
  count = count_of is_branch visits;
  cells = cells_in 64 visits;
}
