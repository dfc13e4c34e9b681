-- The bytes of a branch.
use Rattle.std.specs.Prelude.{◌≡◌, ℕ, ◌+◌, ◌-◌, ◌*◌, ◌/◌, ◌%◌, ◌^◌, ◌<◌, ◌≤◌, List, [], ◌∷◌, ◌++◌, length, map, false, true, All, take, nat_lt, if◌then◌else◌}
use Rattle.std.proofs.Common.{suc, zero}
use Rattle.std.specs.List.{concat, range_with_len, sum_by}
use Rattle.std.specs.List.Sorted.{IsStrictlyIncreasing}
use Rattle.zerotrie_base.specs.Kind.{Kind, fold_byte, edge_limit, greatest_width, is_hashed}
use Rattle.zerotrie_base.specs.Numbers.{branch_form, SpellsAs, spelled_as}
use Rattle.zerotrie_base.specs.Hashes.{IsPerfect}

-- the sum of lengths
abbrev pub total : List ℕ → ℕ
total lengths = sum_by (λ n. n) lengths

-- where ranges of these lengths end, but for the last
abbrev pub ends : List ℕ → List ℕ
ends lengths = map (λ i. total (take i lengths)) (range_with_len 1 (length lengths - 1))

-- where each target but the last ends: the length of the first, of the first two, .. together
abbrev pub offsets : List (List ℕ) → List ℕ
offsets targets = map (λ i. length (concat (take i targets))) (range_with_len 1 (length targets - 1))

-- blocks of the lowest w bytes of each number, the block of the highest bytes first
abbrev pub blocks : ℕ → List ℕ → List ℕ
blocks zero numbers = []
blocks (suc w) numbers = map (λ o. o / 256 ^ w % 256) numbers ++ blocks w numbers

-- the search table of a branch with these edges, in the order of its targets
pub data IsTable (kind : Kind) : List ℕ → List ℕ → Type 0 where
  sorted : {edges : List ℕ} → is_hashed kind (length edges) ≡ false
      → IsStrictlyIncreasing (map (fold_byte kind) edges) → IsTable kind edges edges
  hashed : {p : ℕ} {qs edges : List ℕ} → is_hashed kind (length edges) ≡ true
      → IsPerfect p qs edges → IsTable kind edges (p ∷ (qs ++ edges))

-- the length of the search table of a branch with this many edges
abbrev pub table_size : Kind → ℕ → ℕ
table_size kind n = if is_hashed kind n then 2 * n + 1 else n

-- the number of its bytes before the edges
abbrev pub before_edges : Kind → ℕ → ℕ
before_edges kind n = if is_hashed kind n then n + 1 else 0

-- w is the least with n below 256 ^ (w + 1)
pub record IsWidth (n w : ℕ) : Type 0 where
  pub enough : n < 256 ^ (w + 1)
  pub least : (x : ℕ) → n < 256 ^ (x + 1) → w ≤ x

-- the least w with n below 256 ^ (w + 1), for an n of at most this much
abbrev pub width_to : ℕ → ℕ → ℕ
width_to zero n = 0
width_to (suc more) n = if nat_lt n 256 then 0 else 1 + width_to more (n / 256)

unfoldable pub width : ℕ → ℕ
width n = width_to n n

-- what is before targets of these lengths: the head, the search table and the offsets
abbrev pub branch_front : List ℕ → List ℕ → List ℕ
branch_front table lengths = let w = width (total lengths) in
    spelled_as branch_form (256 * w + length lengths % 256) ++ (table ++ blocks (w + 1) (ends lengths))

-- The bytes are a branch with these edges and, one after another, their targets.
pub record IsBranch (kind : Kind) (edges : List ℕ) (targets : List (List ℕ)) (bytes : List ℕ) : Type 0 where
  pub head : List ℕ
  pub table : List ℕ
  pub width : ℕ
  pub two : 2 ≤ length edges
  pub at_most : length edges ≤ 256
  pub a_target_each : length targets ≡ length edges
  pub edge_bytes : All (λ b. b < edge_limit kind) edges
  pub is_width : IsWidth (length (concat targets)) width
  pub fits : width ≤ greatest_width kind
  pub is_head : SpellsAs branch_form (256 * width + length edges % 256) head
  pub is_table : IsTable kind edges table
  pub bytes_are : bytes ≡ head ++ (table ++ (blocks (width + 1) (offsets targets) ++ concat targets))
