-- A report that one more node is counted in.
use Rattle.std.specs.Prelude.{ℕ, ◌+◌, ◌≤◌, All, List, [], ◌∷◌, length, max, Option, Some, None, set, get_or, if◌then◌else◌, replicate}
use Rattle.zerotrie_core.specs.Nodes.{Shape}
use Rattle.zerotrie_core.specs.Nodes.Shape.{value, literal, span, branch}
use Rattle.zerotrie_core.specs.WellFormed.{greatest}
use Rattle.zerotrie_core.specs.walk.Visits.{Visit}
use Rattle.zerotrie_core.specs.declared.TrieKind.{TrieKind}
use Rattle.zerotrie_queries.specs.reports.Counts.{value_in, depth_in, greatest_of, is_literal, is_span, cell_of}
use Rattle.zerotrie_queries.specs.declared.reports.branches.Branches.{Branches}
use Rattle.zerotrie_queries.specs.declared.reports.count.Report.{Report}

-- no branches
abbrev pub no_branches : Branches
no_branches = record { count = 0; cells = replicate 64 0 }

-- no cell has more than all branches
abbrev pub AreWithin : Branches → Type 0
AreWithin b = All (λ n. n ≤ b.count) b.cells

-- one branch more
abbrev pub with_branch : ℕ → ℕ → Branches → Branches
with_branch edges width b = let i = cell_of edges width in record { count = b.count + 1; cells = set b.cells i (get_or b.cells i 0 + 1) }

-- a branch more if the node is one
abbrev pub with_shape : Shape → Branches → Branches
with_shape (value v rest) b = b
with_shape (literal l rest) b = b
with_shape (span run rest) b = b
with_shape (branch edges width table behind) b = with_branch edges width b

-- the greater of a number, if there is one, and the greatest of others, if there are any
abbrev pub greater : Option ℕ → List ℕ → Option ℕ
greater None more = greatest_of more
greater (Some n) more = Some (max n (greatest more))

-- No count is above that of the nodes.
pub record IsWithin (r : Report) : Type 0 where
  pub pairs : r.pairs ≤ r.nodes
  pub literals : r.literals ≤ r.nodes
  pub spans : r.spans ≤ r.nodes
  pub branches : r.branches.count ≤ r.nodes
  pub cells : AreWithin r.branches

-- a report of no nodes
abbrev pub no_nodes : TrieKind → ℕ → Report
no_nodes kind bytes = record { kind = kind; bytes = bytes; nodes = 0; pairs = 0; greatest = None; depth = 0; literals = 0; spans = 0; branches = no_branches }

-- one node more
abbrev pub with_node : Visit → Report → Report
with_node v r = record {
  kind = r.kind;
  bytes = r.bytes;
  nodes = r.nodes + 1;
  pairs = r.pairs + length (value_in v.node);
  greatest = greater r.greatest (value_in v.node);
  depth = max r.depth (greatest (depth_in v));
  literals = r.literals + (if is_literal v.node then 1 else 0);
  spans = r.spans + (if is_span v.node then 1 else 0);
  branches = with_shape v.node r.branches;
}

-- these nodes more
abbrev pub with_nodes : List Visit → Report → Report
with_nodes [] r = r
with_nodes (v ∷ visits) r = with_nodes visits (with_node v r)
