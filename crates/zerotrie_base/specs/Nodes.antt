-- The nodes of an encoding, and what follows them.
use Rattle.std.proofs.Common.{zero, suc}
use Rattle.std.specs.Prelude.{◌≡◌, ℕ, ◌+◌, ◌-◌, ◌*◌, ◌%◌, ◌<◌, ◌≤◌, ◌==◌, List, ◌∷◌, ◌++◌, length, true, slice_index, take, drop, if◌then◌else◌, Option}
use Rattle.std.specs.Borrow.{Bor}
use Rattle.std.specs.Slice.{IsGetRangeResult}
use Rattle.zerotrie_base.specs.Kind.{Kind, greatest_width, has_spans}
use Rattle.zerotrie_base.specs.Numbers.{BeginsWith}
use Rattle.zerotrie_base.specs.Branches.{table_size, before_edges}

pub data Shape : Type 0 where
  -- a value, and what follows it
  value : ℕ → List ℕ → Shape
  -- a byte that all keys continue with, and what follows it
  literal : ℕ → List ℕ → Shape
  -- a run of bytes that all keys continue with, and what follows it
  span : List ℕ → List ℕ → Shape
  -- the number of edges of a branch, the width of an offset in bytes, its search table, and all
  -- bytes from the edges on
  branch : ℕ → ℕ → List ℕ → List ℕ → Shape

-- the bytes are the length of a run, the run, and the rest
abbrev pub BeginsSpan : List ℕ → List ℕ → List ℕ → Type 0
BeginsSpan bytes run rest = BeginsWith 16 5 (length run) bytes (run ++ rest)

-- The bytes are the head of a branch and its body. The body has the search table, which ends with
-- the edges, and all offsets.
pub record BeginsBranch (kind : Kind) (bytes : List ℕ) (edges width : ℕ) (table behind : List ℕ) : Type 0 where
  pub two : 2 ≤ edges
  pub at_most : edges ≤ 256
  pub some : 1 ≤ width
  pub fits : width ≤ greatest_width kind + 1
  pub body : List ℕ
  pub begins : BeginsWith 32 3 (256 * (width - 1) + edges % 256) bytes body
  pub table_is : table ≡ take (table_size kind edges) body
  pub behind_is : behind ≡ drop (before_edges kind edges) body
  pub holds : table_size kind edges + width * (edges - 1) ≤ length body

-- the bytes begin with this node
abbrev pub Begins : Kind → List ℕ → Shape → Type 0
Begins kind bytes (value v rest) = BeginsWith 16 4 v bytes rest
Begins kind bytes (literal b rest) = (b < 128) × (bytes ≡ b ∷ rest)
Begins kind bytes (span run rest) = (has_spans kind ≡ true) × BeginsSpan bytes run rest
Begins kind bytes (branch edges width table behind) = BeginsBranch kind bytes edges width table behind

-- the targets of a branch, one after another
abbrev pub targets_behind : ℕ → ℕ → List ℕ → List ℕ
targets_behind edges width behind = drop (width * (edges - 1)) (drop edges behind)

-- a number with one byte at the same place of each of w blocks of this many bytes, the highest
-- first, after the number a
abbrev pub number_from : ℕ → ℕ → ℕ → ℕ → List ℕ → ℕ
number_from a zero count place bytes = a
number_from a (suc w) count place bytes = number_from (256 * a + slice_index bytes place) w count place (drop count bytes)

-- offset number i of a branch
abbrev pub offset_in : ℕ → ℕ → List ℕ → ℕ → ℕ
offset_in edges width behind i = number_from 0 width (edges - 1) i (take (width * (edges - 1)) (drop edges behind))

-- where target number i begins, and where it ends
abbrev pub begin_of : ℕ → ℕ → List ℕ → ℕ → ℕ
begin_of edges width behind i = if i == 0 then 0 else offset_in edges width behind (i - 1)

abbrev pub end_of : ℕ → ℕ → List ℕ → ℕ → ℕ
end_of edges width behind i = if i == edges - 1 then length (targets_behind edges width behind) else offset_in edges width behind i

-- the result of reading target number i: the bytes from its begin to its end, if these are in order
-- and within the targets
abbrev pub IsTargetResult : ℕ → ℕ → List ℕ → ℕ → Option (Bor (List ℕ)) → Type 0
IsTargetResult edges width behind i r =
    IsGetRangeResult (targets_behind edges width behind) (begin_of edges width behind i) (end_of edges width behind i) r
