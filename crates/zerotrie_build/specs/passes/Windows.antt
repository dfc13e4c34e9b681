-- Windows of the items, and what comes first in their texts.
use Rattle.std.specs.Prelude.{Bool, true, false, ◌⊎◌, ◌≡◌, ◌≢◌, ℕ, ◌+◌, ◌-◌, ◌<◌, ◌≤◌, ◌==◌, ◌&&◌, nat_lt, nat_le, if◌then◌else◌, List, [], ◌∷◌, length, map, take, drop, All, slice_get, slice_index, slice_index_or, Option, Some, None}
use Rattle.zerotrie_base.specs.Kind.{Kind, has_spans}
use Rattle.zerotrie_base.specs.Maps.{Pairs}
use Rattle.zerotrie_build.specs.declared.windows.Window.{Window}
use Rattle.zerotrie_build.specs.declared.windows.Group.{Group}
use Rattle.zerotrie_build.specs.declared.windows.Step.{Step}
use Rattle.zerotrie_build.specs.declared.windows.Step.TheVariants.{End, Value, Literal, Span, Branch}

-- the items from one number to below another, each key without this many first bytes
abbrev pub cut : Pairs → ℕ → ℕ → ℕ → Pairs
cut all from to depth = map {B = List ℕ × ℕ} (λ e. (drop depth e.0, e.1)) (take (to - from) (drop from all))

abbrev pub window : Pairs → Window → Pairs
window all w = cut all w.from w.to w.depth

-- the item of a number
abbrev pub item_no : Pairs → ℕ → List ℕ × ℕ
item_no all index = slice_index_or all index ([], 0)

-- the byte of a key at a depth
abbrev pub byte_of : Pairs → ℕ → ℕ → Option ℕ
byte_of all index depth = slice_get (item_no all index).0 depth

-- the byte in front of a window
abbrev pub edge_of : Pairs → Window → ℕ
edge_of all w = slice_index (item_no all w.from).0 (w.depth - 1)

-- how many bytes from 128 on two keys have in common in front
abbrev pub high_front : List ℕ → List ℕ → ℕ
high_front [] l = 0
high_front (a ∷ k) [] = 0
high_front (a ∷ k) (b ∷ l) = if (a == b) && nat_le 128 a then 1 + high_front k l else 0

-- by the bytes with which the first and the last key continue, the value of the first item, and how many bytes from 128
-- on the two keys have in common
abbrev pub step_at : Kind → Option ℕ → Option ℕ → ℕ → ℕ → Step
step_at kind None last v high = Value v
step_at kind (Some b) None v high = Branch
step_at kind (Some b) (Some c) v high =
    if c == b then (if nat_le 128 b && has_spans kind then Span high else Literal b) else Branch

-- what comes first in the text of a window
abbrev pub step_of : Kind → Pairs → Window → Step
step_of kind all w = if nat_lt w.from w.to
    then step_at kind (byte_of all w.from w.depth) (byte_of all (w.to - 1) w.depth) (item_no all w.from).1
    (high_front (drop w.depth (item_no all w.from).0) (drop w.depth (item_no all (w.to - 1)).0))
    else End

-- The first and the last key of the window have one byte at the depth, and it is below 128.
pub record HasLiteralAt (all : Pairs) (w : Window) (depth : ℕ) : Type 0 where
  pub byte : ℕ
  pub low : byte < 128
  pub first : byte_of all w.from depth ≡ Some byte
  pub last : byte_of all (w.to - 1) depth ≡ Some byte

-- The window has one item, with this value, whose key continues with this rest.
pub record IsSingleItem (all : Pairs) (w : Window) (rest : List ℕ) (value : ℕ) : Type 0 where
  pub one : w.to ≡ w.from + 1
  pub deep : w.depth ≤ length (item_no all w.from).0
  pub rest_is : rest ≡ drop w.depth (item_no all w.from).0
  pub value_is : value ≡ (item_no all w.from).1

-- how many bytes a byte of a short rest makes, after one from 128 on or not: it begins a span, and its length has one, or does not
abbrev pub byte_size : Bool → ℕ → ℕ
byte_size high b = if nat_le 128 b then (if high then 1 else 2) else 1

-- how many bytes the literals and spans of a short rest have
abbrev pub short_size : Bool → List ℕ → ℕ
short_size high [] = 0
short_size high (b ∷ rest) = byte_size high b + short_size (nat_le 128 b) rest

-- The literals and spans of a rest have this many bytes: it is ASCII, or too short for a span whose length has two bytes.
abbrev pub IsRestLen : Kind → List ℕ → ℕ → Type 0
IsRestLen kind rest n = (All (λ b. b < 128) rest × (n ≡ length rest)) ⊎ ((has_spans kind ≡ true) × (length rest < 16) × (n ≡ short_size false rest))

-- The window has one item, with this value, whose key continues with this rest, and the rest is ASCII.
pub record IsAsciiLeaf (all : Pairs) (w : Window) (rest : List ℕ) (value : ℕ) : Type 0 where
  pub one : w.to ≡ w.from + 1
  pub deep : w.depth ≤ length (item_no all w.from).0
  pub rest_is : rest ≡ drop w.depth (item_no all w.from).0
  pub value_is : value ≡ (item_no all w.from).1
  pub low : All (λ b. b < 128) rest

-- The items up to end, and no others that follow them, have the byte of the first.
pub record IsGroup (all : Pairs) (w : Window) (end : ℕ) : Type 0 where
  pub some : w.from < end
  pub within : end ≤ w.to
  pub same : (i : ℕ) → w.from ≤ i → i < end → byte_of all i w.depth ≡ byte_of all w.from w.depth
  pub other : end < w.to → byte_of all end w.depth ≢ byte_of all w.from w.depth

-- the first item of a window continues with the byte, if there is one
abbrev pub GoesOnWith : Pairs → Window → Option ℕ → Type 0
GoesOnWith all w byte = w.from < w.to → byte ≡ byte_of all w.from w.depth

-- the first items end there, and the next one continues with this byte
abbrev pub IsGroupTo : Pairs → Window → Group → Type 0
IsGroupTo all w group = IsGroup all w group.end × (group.end < w.to → group.next ≡ byte_of all group.end w.depth)
