-- What a report says of a trie.
use Rattle.std.specs.Prelude.{◌≡◌, ℕ, List, length, map}
use Rattle.zerotrie_core.specs.Maps.{Pairs}
use Rattle.zerotrie_core.specs.WellFormed.{greatest}
use Rattle.zerotrie_core.specs.walk.Visits.{Visit, nodes_of}
use Rattle.zerotrie_core.specs.Kinds.{kind_of}
use Rattle.zerotrie_core.specs.declared.TrieKind.{TrieKind}
use Rattle.zerotrie_queries.specs.reports.Counts.{values, depths, greatest_of, is_literal, is_span, count_of, branches_in}
use Rattle.zerotrie_queries.specs.declared.reports.count.Report.{Report}

-- the report of this many bytes of a kind, by their nodes
abbrev pub report_over : TrieKind → ℕ → List Visit → Report
report_over kind bytes visits = record {
  kind = kind;
  bytes = bytes;
  nodes = length visits;
  pairs = length (values visits);
  greatest = greatest_of (values visits);
  depth = greatest (depths visits);
  literals = count_of is_literal visits;
  spans = count_of is_span visits;
  branches = branches_in visits;
}

-- the report of bytes of a kind
abbrev pub report_of : TrieKind → List ℕ → Report
report_of kind bytes = report_over kind (length bytes) (nodes_of (kind_of kind) bytes)

-- The report says how many pairs there are, and the greatest of their values.
pub record TellsPairs (r : Report) (pairs : Pairs) : Type 0 where
  pub count : r.pairs ≡ length pairs
  pub greatest : r.greatest ≡ greatest_of (map {B = ℕ} (λ e. e.1) pairs)
