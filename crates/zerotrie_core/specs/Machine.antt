-- A cursor, as a machine over a list of pairs.
use Rattle.std.specs.Prelude.{ℕ, List, [], ◌∷◌, length, Option, Some, None, slice_get}
use Rattle.std.specs.Option.{option_map}
use Rattle.zerotrie_base.specs.Kind.{Kind}
use Rattle.zerotrie_base.specs.Maps.{Pairs, value_at, residual}
use Rattle.zerotrie_base.specs.Cursors.{met, edge_like}

-- the pairs after an edge; none if there is no edge
abbrev pub behind : Option ℕ → Pairs → Pairs
behind None pairs = []
behind (Some b) pairs = residual b pairs

-- the pairs without the one of the empty key
abbrev pub without_value : Pairs → Pairs
without_value [] = []
without_value (([], v) ∷ pairs) = pairs
without_value ((b ∷ key, v) ∷ pairs) = (b ∷ key, v) ∷ without_value pairs

-- edge number i, and the number of edges
abbrev pub nth_edge : ℕ → List ℕ → Option (ℕ × ℕ)
nth_edge i edges = option_map (λ b. (b, length edges)) (slice_get edges i)

-- a call of a cursor
pub data Op : Type 0 where
  -- follow the edge that equals this byte in the kind
  step : ℕ → Op
  -- take the value of the empty key
  take_value : Op
  -- follow the edge with this number
  probe : ℕ → Op

-- the result of a call
pub data Answer : Type 0 where
  -- the edge
  stepped : Option ℕ → Answer
  -- the value
  taken : Option ℕ → Answer
  -- the edge, and the number of edges
  probed : Option (ℕ × ℕ) → Answer

-- the result of one call, and the pairs that it leaves
abbrev pub run_one : Kind → Op → Pairs → Answer × Pairs
run_one kind (step c) pairs = let edge = edge_like kind c (met pairs) in (stepped edge, behind edge pairs)
run_one kind take_value pairs = (taken (value_at kind pairs []), without_value pairs)
run_one kind (probe i) pairs = let edge = nth_edge i (met pairs) in (probed edge, behind (option_map (λ e. e.0) edge) pairs)

-- the results of calls, each on what the one before it leaves
abbrev pub run : Kind → List Op → Pairs → List Answer
run kind [] pairs = []
run kind (op ∷ ops) pairs = let one = run_one kind op pairs in one.0 ∷ run kind ops one.1

-- the pairs that are left after a step by each byte of a key
abbrev pub after_steps : Kind → List ℕ → Pairs → Pairs
after_steps kind [] pairs = pairs
after_steps kind (c ∷ key) pairs = after_steps kind key (behind (edge_like kind c (met pairs)) pairs)
