-- The stack need of a map: the greatest number of targets that wait for their branch at once while
-- an encoding of a kind is written from its end. The targets of a branch are written from the last
-- to the first, in the order of the kind, and the branch before them as soon as all are there.
use Rattle.std.proofs.Common.{zero, suc}
use Rattle.std.specs.Prelude.{ℕ, ◌+◌, List, [], ◌∷◌, length, max}
use Rattle.std.specs.FinMap.{entries}
use Rattle.zerotrie_base.specs.Kind.{Kind, ordered}
use Rattle.zerotrie_base.specs.Maps.{Pairs, Map, edges, residual, longest}

-- of the edges of a branch: the greatest of their number and, for each, how many come after it plus
-- the need after it
abbrev pub branch_need : (Pairs → ℕ) → Pairs → List ℕ → ℕ
branch_need need_behind pairs [] = 0
branch_need need_behind pairs (b ∷ edges) =
    max (1 + length edges) (max (length edges + need_behind (residual b pairs)) (branch_need need_behind pairs edges))

-- by the edges: none, one with the need after it, or a branch
abbrev pub need_by : (Pairs → ℕ) → Pairs → List ℕ → ℕ
need_by need_behind pairs [] = 0
need_by need_behind pairs (b ∷ []) = need_behind (residual b pairs)
need_by need_behind pairs (b ∷ c ∷ more) = branch_need need_behind pairs (b ∷ c ∷ more)

-- the stack need of pairs whose keys are shorter than d
abbrev pub stack_to : ℕ → Kind → Pairs → ℕ
stack_to zero kind pairs = 0
stack_to (suc d) kind pairs = need_by (stack_to d kind) pairs (ordered kind (edges pairs))

-- the stack need of pairs
unfoldable pub stack_of : Kind → Pairs → ℕ
stack_of kind pairs = stack_to (suc (longest pairs)) kind pairs

-- the stack need of a map
unfoldable pub stack : Kind → Map → ℕ
stack kind m = stack_of kind (entries m)
