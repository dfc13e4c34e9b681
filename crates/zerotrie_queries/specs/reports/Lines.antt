-- The lines of a report.
use Rattle.std.specs.Prelude.{ℕ, ◌+◌, ◌*◌, ◌/◌, ◌%◌, ◌==◌, if◌then◌else◌, List, [], ◌∷◌, ◌++◌, codes, decimal, Option, Some, None}
use Rattle.zerotrie_core.specs.Kinds.{kind_name}
use Rattle.zerotrie_lines.specs.Escapes.{escaped}
use Rattle.zerotrie_queries.specs.declared.reports.count.Report.{Report}

-- a line: a name, a tab and a text
abbrev pub text_line : List ℕ → List ℕ → List ℕ
text_line name text = name ++ (9 ∷ (text ++ (10 ∷ [])))

-- the line of a number
abbrev pub number_line : List ℕ → ℕ → List ℕ
number_line name number = text_line name (decimal number)

-- a number, if there is one
abbrev pub option_text : Option ℕ → List ℕ
option_text None = codes "none"
option_text (Some number) = decimal number

-- how many bytes there are to a key, with the hundredths of the rest, if there is a key
abbrev pub ratio_text : ℕ → ℕ → List ℕ
ratio_text bytes keys =
    if keys == 0 then codes "none"
    else (let rest = bytes % keys * 100 / keys in decimal (bytes / keys) ++ (46 ∷ (48 + rest / 10) ∷ (48 + rest % 10) ∷ []))

-- the numbers of edges in a group
abbrev pub group_text : ℕ → List ℕ
group_text group =
    if group == 0 then codes "2" else (if group == 1 then codes "3-4" else (if group == 2 then codes "5-8" else (if group == 3 then codes "9-16"
    else (if group == 4 then codes "17-32" else (if group == 5 then codes "33-64" else (if group == 6 then codes "65-128" else codes "129-256"))))))

-- the name of a cell: its numbers of edges, and its width
abbrev pub group_name : ℕ → List ℕ
group_name group = codes "branches of " ++ (group_text group ++ codes " edges")

abbrev pub cell_name : ℕ → List ℕ
cell_name i = group_name (i / 8) ++ (codes ", width " ++ decimal (i % 8 + 1))

-- the line of a cell, if it has a branch
abbrev pub cell_line : ℕ → ℕ → List ℕ
cell_line i count = if count == 0 then [] else number_line (cell_name i) count

-- the lines of cells, of which the first has number i
abbrev pub cell_lines : ℕ → List ℕ → List ℕ
cell_lines i [] = []
cell_lines i (count ∷ cells) = cell_line i count ++ cell_lines (i + 1) cells

-- the lines of how much there is
abbrev pub size_lines : Report → List ℕ
size_lines r = text_line (codes "kind") (kind_name r.kind) ++ (number_line (codes "bytes") r.bytes ++ number_line (codes "pairs") r.pairs)

-- the lines of what keys and values are
abbrev pub key_lines : Report → List ℕ
key_lines r =
    text_line (codes "greatest value") (option_text r.greatest)
    ++ (text_line (codes "bytes a key") (ratio_text r.bytes r.pairs) ++ number_line (codes "depth") r.depth)

-- the lines of what nodes are
abbrev pub node_lines : Report → List ℕ
node_lines r =
    number_line (codes "nodes") r.nodes
    ++ (number_line (codes "literals") r.literals ++ (number_line (codes "spans") r.spans ++ number_line (codes "branches") r.branches.count))

-- all lines
abbrev pub report_lines : Report → List ℕ
report_lines r = size_lines r ++ (key_lines r ++ (node_lines r ++ cell_lines 0 r.branches.cells))

-- the line of the name of a file, if there is one
abbrev pub heading : Option (List ℕ) → List ℕ
heading None = []
heading (Some name) = escaped name ++ codes ":\n"
