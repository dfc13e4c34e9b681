-- What any bytes list: the pairs by the nodes that are there, up to where none begins.
use Rattle.std.proofs.Common.{zero, suc}
use Rattle.std.specs.Prelude.{ℕ, ◌+◌, ◌-◌, ◌*◌, ◌/◌, ◌%◌, ◌^◌, ◌==◌, ◌&&◌, List, [], ◌∷◌, ◌++◌, Bool, length, take, drop, nat_lt, nat_le, slice_index, Option, Some, None, if◌then◌else◌}
use Rattle.zerotrie_base.specs.Kind.{Kind, has_spans, greatest_width}
use Rattle.zerotrie_base.specs.Maps.{Pairs, with_front, with_run}
use Rattle.zerotrie_base.specs.Branches.{table_size, before_edges}
use Rattle.zerotrie_base.specs.Nodes.{Shape, targets_behind, begin_of, end_of}
use Rattle.zerotrie_base.specs.Nodes.Shape.{value, literal, span, branch}

-- the number whose first digit is a, in the form of L, at the front of its trail bytes, and what follows it
abbrev pub trail_read : ℕ → ℕ → List ℕ → Option (ℕ × List ℕ)
trail_read L a [] = None
trail_read L a (t ∷ ts) = let more = 128 * a + t % 128 + L in if nat_lt t 128 then Some (more, ts) else trail_read L more ts

-- the number at the front of the bytes after its lead
abbrev pub number_read : ℕ → ℕ → List ℕ → Option (ℕ × List ℕ)
number_read L lead rest = if lead / L % 2 == 0 then Some (lead % L, rest) else trail_read L (lead % L) rest

-- a value node of the number that was read, and what follows it
abbrev pub as_value : Option (ℕ × List ℕ) → Option Shape
as_value None = None
as_value (Some r) = if nat_lt r.0 (2 ^ 64) then Some (value r.0 r.1) else None

-- a span of this many bytes, if they are there
abbrev pub as_span : Option (ℕ × List ℕ) → Option Shape
as_span None = None
as_span (Some r) = if nat_lt r.0 (2 ^ 64) && nat_le r.0 (length r.1) then Some (span (take r.0 r.1) (drop r.0 r.1)) else None

-- whether a kind has branches of this many edges and this width, and the body has the table and the offsets
abbrev pub is_whole : Kind → ℕ → ℕ → List ℕ → Bool
is_whole kind edges width body =
    nat_le 2 edges && nat_le width (greatest_width kind + 1) && nat_le (table_size kind edges + width * (edges - 1)) (length body)

-- a branch whose head is the number that was read
abbrev pub as_branch : Kind → Option (ℕ × List ℕ) → Option Shape
as_branch kind None = None
as_branch kind (Some r) = let edges = if r.0 % 256 == 0 then 256 else r.0 % 256 in let width = r.0 / 256 + 1 in
    if is_whole kind edges width r.1 then Some (branch edges width (take (table_size kind edges) r.1) (drop (before_edges kind edges) r.1)) else None

-- the node that the bytes begin with, if one does
abbrev pub node_of : Kind → List ℕ → Option Shape
node_of kind [] = None
node_of kind (lead ∷ rest) =
    if nat_lt lead 128 then Some (literal lead rest)
    else (if nat_lt lead 160 then as_value (number_read 16 lead rest)
    else (if nat_lt lead 192 then (if has_spans kind then as_span (number_read 16 lead rest) else None)
    else as_branch kind (number_read 32 lead rest)))

-- whether target number i lies between its offsets
abbrev pub is_in_order : ℕ → ℕ → List ℕ → ℕ → Bool
is_in_order n w behind i = nat_le (begin_of n w behind i) (end_of n w behind i) && nat_le (end_of n w behind i) (length (targets_behind n w behind))

-- target number i
abbrev pub target_of : ℕ → ℕ → List ℕ → ℕ → List ℕ
target_of n w behind i = take (end_of n w behind i - begin_of n w behind i) (drop (begin_of n w behind i) (targets_behind n w behind))

-- the pairs of the last k of n targets, up to the first whose offsets fall
abbrev pub of_targets : (List ℕ → Pairs) → ℕ → ℕ → List ℕ → ℕ → Pairs
of_targets listed n w behind zero = []
of_targets listed n w behind (suc k) = let i = n - suc k in
    if is_in_order n w behind i then with_front (slice_index behind i) (listed (target_of n w behind i)) ++ of_targets listed n w behind k else []

-- the pairs of a text that begins with a node
abbrev pub of_node : (List ℕ → Pairs) → Option Shape → Pairs
of_node listed None = []
of_node listed (Some (value v rest)) = ([], v) ∷ listed rest
of_node listed (Some (literal b rest)) = with_front b (listed rest)
of_node listed (Some (span run rest)) = with_run run (listed rest)
of_node listed (Some (branch n w table behind)) = of_targets listed n w behind n

-- by at most d nodes, one below another
abbrev pub listed_to : ℕ → Kind → List ℕ → Pairs
listed_to zero kind bytes = []
listed_to (suc d) kind bytes = of_node (listed_to d kind) (node_of kind bytes)

-- by all of them
unfoldable pub listed : Kind → List ℕ → Pairs
listed kind bytes = listed_to (length bytes) kind bytes
