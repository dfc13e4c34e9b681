-- All nodes of an encoding as one row, in which the targets of a branch follow one another.
use Rattle.std.specs.Prelude.{ℕ, List}
use Rattle.zerotrie_base.specs.Nodes.{Shape, targets_behind}
use Rattle.zerotrie_base.specs.Nodes.Shape.{value, literal, span, branch}

-- what follows a node in the row
abbrev pub row_behind : Shape → List ℕ
row_behind (value v rest) = rest
row_behind (literal b rest) = rest
row_behind (span run rest) = rest
row_behind (branch n w table behind) = targets_behind n w behind

-- the number of values of a node
abbrev pub values_in : Shape → ℕ
values_in (value v rest) = 1
values_in (literal b rest) = 0
values_in (span run rest) = 0
values_in (branch n w table behind) = 0
