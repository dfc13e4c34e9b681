-- What is validated of a branch.
use Rattle.std.specs.Prelude.{◌≡◌, ℕ, ◌-◌, ◌<◌, ◌≤◌, List, length, All, take, drop, Some}
use Rattle.zerotrie_base.specs.Hashes.{number_of}
use Rattle.zerotrie_base.specs.Kind.{Kind, edge_limit}
use Rattle.zerotrie_base.specs.Branches.{IsTable, IsWidth, table_size}
use Rattle.zerotrie_base.specs.Nodes.{targets_behind, begin_of, end_of}
use Rattle.zerotrie_core.specs.listing.Listed.{target_of}
use Rattle.std.specs.List.{slice_index}

-- each is a byte
abbrev pub AreBytes : List ℕ → Type 0
AreBytes bytes = (i : ℕ) → slice_index bytes i < 256

-- the length of target number i, by its offsets
abbrev pub extent : ℕ → ℕ → List ℕ → ℕ → ℕ
extent n w behind i = end_of n w behind i - begin_of n w behind i

-- the first `count` targets are not empty, and end within the branch
abbrev pub InOrder : ℕ → ℕ → List ℕ → ℕ → Type 0
InOrder n w behind count =
    (i : ℕ) → i < count → (begin_of n w behind i < end_of n w behind i) × (end_of n w behind i ≤ length (targets_behind n w behind))

-- the table has each edge at its place
abbrev pub AnswersEach : List ℕ → List ℕ → Type 0
AnswersEach table edges = (i : ℕ) → i < length edges → number_of table (slice_index edges i) ≡ Some i

-- the search table has these edges, and they are bytes of the kind
abbrev pub HasTable : Kind → List ℕ → List ℕ → Type 0
HasTable kind edges table = IsTable kind edges table × All (λ b. b < edge_limit kind) edges

-- Among the first `count` targets, the one at the place is the longest; of equal ones the first is.
pub record IsLongest (n w : ℕ) (behind : List ℕ) (count place : ℕ) : Type 0 where
  pub inside : place < count
  pub most : (i : ℕ) → i < count → extent n w behind i ≤ extent n w behind place
  pub first : (i : ℕ) → i < place → extent n w behind i < extent n w behind place

-- Table and width are valid.
pub record HasFront (kind : Kind) (n w : ℕ) (table behind : List ℕ) : Type 0 where
  pub has_table : length table ≡ table_size kind n → HasTable kind (take n behind) table
  pub bytes : AreBytes (drop n behind)
  pub is_width : IsWidth (length (targets_behind n w behind)) (w - 1)

-- The target at an index is there: its bytes lie within the branch, and it is not empty.
pub record IsTarget (n w : ℕ) (behind : List ℕ) (index : ℕ) (target : List ℕ) : Type 0 where
  pub some : begin_of n w behind index < end_of n w behind index
  pub within : end_of n w behind index ≤ length (targets_behind n w behind)
  pub is : target ≡ target_of n w behind index

-- Table, width and offsets are valid, and the longest target is at the place.
pub record IsSound (kind : Kind) (n w : ℕ) (table behind : List ℕ) (place : ℕ) : Type 0 where
  pub front : HasFront kind n w table behind
  pub in_order : InOrder n w behind n
  pub is_longest : IsLongest n w behind n place
