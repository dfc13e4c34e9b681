-- Which maps have an encoding of a kind.
use Rattle.std.specs.Prelude.{ℕ, ◌+◌, ◌^◌, ◌<◌, ◌≤◌, ◌⊎◌, List, length, map, All}
use Rattle.std.specs.FinMap.{entries}
use Rattle.zerotrie_base.specs.Kind.{Kind, edge_limit, greatest_width}
use Rattle.zerotrie_base.specs.Maps.{Pairs, Map, edges, residual, behind_all, IsCaseConsistent}
use Rattle.zerotrie_base.specs.Branches.{total}
use Rattle.zerotrie_base.specs.Canonical.{size, size_of}

-- the length of all targets of the branch that the pairs need
unfoldable pub targets_size : Kind → Pairs → ℕ
targets_size kind pairs = total (map (λ b. size_of kind (residual b pairs)) (edges pairs))

-- The map has an encoding of the kind: its values and bytes are in range, its keys agree in case,
-- an offset reaches the targets of each branch, and the encoding has fewer than 2 ^ 64 bytes.
pub record Fits (kind : Kind) (m : Map) : Type 0 where
  pub values : All (λ e. e.1 < 2 ^ 64) (entries m)
  pub key_bytes : All (λ e. All (λ b. b < edge_limit kind) e.0) (entries m)
  pub case : IsCaseConsistent kind (entries m)
  pub narrow : (front : List ℕ) → 2 ≤ length (edges (behind_all front (entries m)))
      → targets_size kind (behind_all front (entries m)) < 256 ^ (greatest_width kind + 1)
  pub short : size kind m < 2 ^ 64

-- after these bytes the pairs need a branch whose targets no offset of the kind reaches
abbrev pub OverflowsAt : Kind → List ℕ → Pairs → Type 0
OverflowsAt kind front pairs = (2 ≤ length (edges (behind_all front pairs)))
    × (256 ^ (greatest_width kind + 1) ≤ targets_size kind (behind_all front pairs))

-- an encoding of the map would have 2 ^ 64 bytes or more, or a branch more target bytes than an
-- offset of the kind reaches
abbrev pub ExceedsCapacity : Kind → Map → Type 0
ExceedsCapacity kind m = (2 ^ 64 ≤ size kind m) ⊎ ((front : List ℕ) × OverflowsAt kind front (entries m))
