-- A list cut at its front into ranges, and the ranges laid out in another order.
use Rattle.std.specs.Prelude.{ℕ, List, ◌++◌, map, take, drop, slice_index}
use Rattle.std.specs.List.{concat}
use Rattle.zerotrie_base.specs.Branches.{total}

-- the range of number i
abbrev pub range_at : List ℕ → List ℕ → ℕ → List ℕ
range_at lengths items i = take (slice_index lengths i) (drop (total (take i lengths)) items)

-- the ranges in this order, and then the rest
abbrev pub laid_out : List ℕ → List ℕ → List ℕ → List ℕ
laid_out lengths order items = concat (map (range_at lengths items) order) ++ drop (total lengths) items
