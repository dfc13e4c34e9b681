-- A report as one JSON object.
use Rattle.std.specs.Prelude.{ℕ, ◌+◌, ◌/◌, ◌%◌, ◌^◌, ◌==◌, if◌then◌else◌, Bool, true, false, List, [], ◌∷◌, ◌++◌, codes, decimal, Option, Some, None}
use Rattle.json.specs.Print.{quoted}
use Rattle.serde_json.specs.Written.{comma_if}
use Rattle.zerotrie_core.specs.Kinds.{kind_name}
use Rattle.zerotrie_queries.specs.declared.reports.count.Report.{Report}

-- a member after another, by its name and the text of its value
abbrev pub member_after : List ℕ → List ℕ → List ℕ
member_after name text = codes ",\"" ++ (name ++ (codes "\":" ++ text))

-- a number, if there is one
abbrev pub number_or_null : Option ℕ → List ℕ
number_or_null None = codes "null"
number_or_null (Some number) = decimal number

-- the least and the greatest number of edges in a group
abbrev pub least_edges : ℕ → ℕ
least_edges group = if group == 0 then 2 else 2 ^ group + 1

abbrev pub most_edges : ℕ → ℕ
most_edges group = 2 ^ (group + 1)

-- the numbers of edges in a group
abbrev pub edge_members : ℕ → List ℕ
edge_members group = codes "{\"least_edges\":" ++ (decimal (least_edges group) ++ member_after (codes "most_edges") (decimal (most_edges group)))

-- a cell: its numbers of edges, its width, and how many branches it has
abbrev pub cell_object : ℕ → ℕ → List ℕ
cell_object i count =
    edge_members (i / 8) ++ (member_after (codes "width") (decimal (i % 8 + 1)) ++ (member_after (codes "count") (decimal count) ++ codes "}"))

-- the cells that have a branch, of which the first has number i, with a comma before each, but none before the first if nothing is before it
abbrev pub cell_objects : Bool → ℕ → List ℕ → List ℕ
cell_objects later i [] = []
cell_objects later i (count ∷ cells) =
    if count == 0 then cell_objects later (i + 1) cells else (comma_if later ++ cell_object i count) ++ cell_objects true (i + 1) cells

-- the members of how much there is
abbrev pub size_members : Report → List ℕ
size_members r = codes "\"kind\":\"" ++ (kind_name r.kind ++ (codes "\"" ++ (member_after (codes "bytes") (decimal r.bytes) ++ member_after (codes "pairs") (decimal r.pairs))))

-- the members of what keys and values are
abbrev pub key_members : Report → List ℕ
key_members r = member_after (codes "greatest_value") (number_or_null r.greatest) ++ member_after (codes "depth") (decimal r.depth)

-- the members of what nodes are
abbrev pub node_members : Report → List ℕ
node_members r =
    member_after (codes "nodes") (decimal r.nodes)
    ++ (member_after (codes "literals") (decimal r.literals)
    ++ (member_after (codes "spans") (decimal r.spans) ++ member_after (codes "branches") (decimal r.branches.count)))

-- the last member, the branches by their size
abbrev pub branch_member : Report → List ℕ
branch_member r = codes ",\"branch_sizes\":[" ++ (cell_objects false 0 r.branches.cells ++ codes "]}\n")

-- the beginning, with the name of a file if there is one
abbrev pub object_front : (file : Option (List ℕ)) → List ℕ
object_front None = codes "{"
object_front (Some name) = codes "{\"file\":" ++ (quoted name ++ codes ",")

-- all members, and a line feed
abbrev pub report_object : (file : Option (List ℕ)) → Report → List ℕ
report_object file r = object_front file ++ (size_members r ++ (key_members r ++ (node_members r ++ branch_member r)))
