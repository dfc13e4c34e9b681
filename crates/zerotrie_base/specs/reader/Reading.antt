-- What a look-up reads.
use Rattle.std.specs.Prelude.{◌≡◌, ◌≢◌, ℕ, ◌+◌, ◌<◌, List, length, slice_index, Option}
use Rattle.zerotrie_base.specs.Kind.{Kind, fold_byte}
use Rattle.zerotrie_base.specs.Maps.{Pairs, value_at}
use Rattle.zerotrie_base.specs.Texts.{Lists, nodes}

-- A look-up of the key ends with the answer, and reads count nodes.
pub record Finds {kind : Kind} {bytes : List ℕ} {pairs : Pairs} (text : Lists kind bytes pairs) (key : List ℕ) (answer : Option ℕ) (count : ℕ) : Type 0 where
  pub answers : value_at kind pairs key ≡ answer
  pub counts : nodes text key ≡ count

-- It reaches the rest of the bytes, with the rest of the key, after count nodes.
pub record Comes {kind : Kind} {bytes : List ℕ} {pairs : Pairs} (text : Lists kind bytes pairs) (key rest after : List ℕ) (count : ℕ) : Type 0 where
  pub below : Pairs
  pub inner : Lists kind rest below
  pub answers : value_at kind pairs key ≡ value_at kind below after
  pub counts : nodes text key ≡ count + nodes inner after

-- the same, whichever pairs the bytes list
abbrev pub AlwaysFinds : Kind → List ℕ → List ℕ → Option ℕ → ℕ → Type 0
AlwaysFinds kind bytes key answer count = (pairs : Pairs) (text : Lists kind bytes pairs) → Finds text key answer count

abbrev pub AlwaysComes : Kind → List ℕ → List ℕ → List ℕ → List ℕ → ℕ → Type 0
AlwaysComes kind bytes key rest after count = (pairs : Pairs) (text : Lists kind bytes pairs) → Comes text key rest after count

-- the fold of each byte is below those of all later ones
abbrev pub AlwaysRises : Kind → List ℕ → Type 0
AlwaysRises kind xs = (i j : ℕ) → i < j → j < length xs → fold_byte kind (slice_index xs i) < fold_byte kind (slice_index xs j)

-- the place of an edge that equals the byte c in the kind
abbrev pub IsPlace : Kind → ℕ → List ℕ → ℕ → ℕ → Type 0
IsPlace kind edges behind c place = (place < edges) × (fold_byte kind (slice_index behind place) ≡ fold_byte kind c)

-- no edge equals it
abbrev pub HasNoPlace : Kind → ℕ → List ℕ → ℕ → Type 0
HasNoPlace kind edges behind c = (k : ℕ) → k < edges → fold_byte kind (slice_index behind k) ≢ fold_byte kind c
