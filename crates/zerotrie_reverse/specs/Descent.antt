-- How a descent from the root towards a place in the bytes reads a key. It is a function of any bytes and
-- any place. What it returns is a key of the trie only if the place is that of the key's value.
use Rattle.std.proofs.Common.{zero, suc}
use Rattle.std.specs.Prelude.{ℕ, ◌+◌, ◌-◌, ◌*◌, ◌/◌, ◌%◌, ◌^◌, ◌==◌, ◌&&◌, List, [], ◌∷◌, ◌++◌, length, take, drop, nat_lt, nat_le, slice_index, Option, Some, None, if◌then◌else◌}
use Rattle.zerotrie_base.specs.Kind.{Kind}
use Rattle.zerotrie_base.specs.Branches.{before_edges}
use Rattle.zerotrie_base.specs.Nodes.{targets_behind, end_of}

-- the number with the digit a before these trail bytes, in the form of L, and what follows it
abbrev pub number_from : ℕ → ℕ → List ℕ → Option (ℕ × List ℕ)
number_from L a [] = None
number_from L a (t ∷ ts) =
    if nat_lt (128 * a + t % 128 + L) (2 ^ 64) then (if nat_lt t 128 then Some (128 * a + t % 128 + L, ts) else number_from L (128 * a + t % 128 + L) ts) else None

-- the number with this lead
abbrev pub number_after : ℕ → ℕ → List ℕ → Option (ℕ × List ℕ)
number_after L lead rest = if lead / L % 2 == 0 then Some (lead % L, rest) else number_from L (lead % L) rest

-- What a step of a descent passes: bytes of the key, and how many bytes of the trie.
pub record Passed : Type 0 where
  pub run : List ℕ
  pub size : ℕ

-- A branch: the number of edges, the width of an offset in bytes, and all bytes from the edges on.
pub record Row : Type 0 where
  pub edges : ℕ
  pub width : ℕ
  pub behind : List ℕ

-- the branch whose head is this number, if it is whole
abbrev pub row_with : Kind → ℕ → ℕ → List ℕ → Option Row
row_with kind edges width body = let behind = drop (before_edges kind edges) body in
    if nat_le 2 edges && (nat_le width 8 && nat_le (edges + width * (edges - 1)) (length behind))
    then Some (record { edges = edges; width = width; behind = behind }) else None

abbrev pub row_in : Kind → Option (ℕ × List ℕ) → Option Row
row_in kind None = None
row_in kind (Some r) = row_with kind (if r.0 % 256 == 0 then 256 else r.0 % 256) (r.0 / 256 + 1) r.1

-- the first of the next edges whose target ends after the place, or else the one after them
abbrev pub edge_over : (ℕ → ℕ) → ℕ → ℕ → ℕ → ℕ
edge_over ends to i zero = i
edge_over ends to i (suc left) = if nat_lt to (ends i) then i else edge_over ends to (i + 1) left

-- where the targets of a branch begin, and the target of an edge among them
abbrev pub front_of : List ℕ → Row → ℕ
front_of bytes row = length bytes - length (targets_behind row.edges row.width row.behind)

abbrev pub target_begin : Row → ℕ → ℕ
target_begin row i = if i == 0 then 0 else end_of row.edges row.width row.behind (i - 1)

-- the step over the edge whose target has the place
abbrev pub over_edge : List ℕ → Row → ℕ → Passed
over_edge bytes row i = record { run = slice_index row.behind i ∷ []; size = front_of bytes row + target_begin row i }

abbrev pub over_row : List ℕ → ℕ → Option Row → Option Passed
over_row bytes to None = None
over_row bytes to (Some row) =
    Some (over_edge bytes row (edge_over (end_of row.edges row.width row.behind) (to - front_of bytes row) 0 (row.edges - 1)))

-- the step over a value, and over a span
abbrev pub over_value : List ℕ → Option (ℕ × List ℕ) → Option Passed
over_value bytes None = None
over_value bytes (Some r) = Some (record { run = []; size = length bytes - length r.1 })

abbrev pub over_span : List ℕ → Option (ℕ × List ℕ) → Option Passed
over_span bytes None = None
over_span bytes (Some r) =
    if nat_le r.0 (length r.1) then Some (record { run = take r.0 r.1; size = length bytes - length (drop r.0 r.1) }) else None

-- a step towards a place that is this many bytes away
abbrev pub step_towards : Kind → List ℕ → ℕ → Option Passed
step_towards kind [] to = None
step_towards kind (lead ∷ rest) to =
    if nat_lt lead 128 then Some (record { run = lead ∷ []; size = 1 })
    else (if nat_lt lead 160 then over_value (lead ∷ rest) (number_after 16 lead rest)
    else (if nat_lt lead 192 then over_span (lead ∷ rest) (number_after 16 lead rest)
    else over_row (lead ∷ rest) to (row_in kind (number_after 32 lead rest))))

-- the bytes that a descent passes after a step, unless the step passes the place
abbrev pub after_step : (List ℕ → ℕ → List ℕ) → List ℕ → ℕ → Option Passed → List ℕ
after_step below bytes to None = []
after_step below bytes to (Some p) = if nat_le p.size to then p.run ++ below (drop p.size bytes) (to - p.size) else []

-- the bytes of the key that at most n steps pass
abbrev pub key_by : ℕ → Kind → List ℕ → ℕ → List ℕ
key_by zero kind bytes to = []
key_by (suc n) kind bytes to = if nat_lt 0 to then after_step (key_by n kind) bytes to (step_towards kind bytes to) else []

-- the key that a descent to this place reads
unfoldable pub key_at : Kind → List ℕ → ℕ → List ℕ
key_at kind bytes place = key_by place kind bytes place

abbrev pub number_or_0 : Option (ℕ × List ℕ) → ℕ
number_or_0 None = 0
number_or_0 (Some r) = r.0

-- the number that these bytes begin with, or 0
abbrev pub value_of : List ℕ → ℕ
value_of [] = 0
value_of (lead ∷ rest) = number_or_0 (number_after 16 lead rest)

-- the value at this place
unfoldable pub value_at : List ℕ → ℕ → ℕ
value_at bytes place = value_of (drop place bytes)
