-- What the second pass writes, and in which order.
use Rattle.std.specs.Prelude.{◌≡◌, ℕ, ◌+◌, ◌-◌, ◌*◌, ◌/◌, ◌<◌, ◌⊎◌, ◌==◌, List, [], ◌∷◌, ◌++◌, length, map, take, drop, slice_index_or, false, if◌then◌else◌}
use Rattle.std.specs.List.{range_with_len}
use Rattle.std.specs.List.Sorted.{IsPermutation, IsStrictlyIncreasing}
use Rattle.zerotrie_base.specs.Hashes.{IsPerfect}
use Rattle.zerotrie_base.specs.Kind.{Kind, simple_ascii, fold_byte, is_hashed}
use Rattle.zerotrie_base.specs.Numbers.{spelled}
use Rattle.zerotrie_base.specs.Maps.{Pairs, value_at}
use Rattle.zerotrie_base.specs.Branches.{IsTable}
use Rattle.zerotrie_base.specs.Texts.{Lists}
use Rattle.zerotrie_build.specs.declared.windows.Window.{Window}
use Rattle.zerotrie_build.specs.declared.branch.Position.{Position}
use Rattle.zerotrie_build.specs.declared.branch.Next.{Next}
use Rattle.zerotrie_build.specs.declared.branch.Next.TheVariants.{Go, Text}
use Rattle.zerotrie_build.specs.passes.Windows.{window, edge_of}
use Rattle.zerotrie_build.specs.passes.Measured.{TargetWindows, AreSlotsOf, slots_of}

-- these bits begin a node whose number has the form with this latent value
abbrev pub IsLead : ℕ → ℕ → Type 0
IsLead bits latent = ((latent ≡ 16) × ((bits ≡ 128) ⊎ (bits ≡ 160))) ⊎ ((latent ≡ 32) × (bits ≡ 192))

-- the spelling of a number with these bits in its lead
abbrev pub spelled_with_bits : ℕ → ℕ → ℕ → List ℕ
spelled_with_bits bits latent number = spelled latent (bits / (2 * latent)) number

-- The bytes are a text of the kind, and what it lists has the results of these pairs.
pub record Listed (kind : Kind) (bytes : List ℕ) (pairs : Pairs) : Type 0 where
  pub listed : Pairs
  pub lists : Lists kind bytes listed
  pub same : (key : List ℕ) → value_at simple_ascii listed key ≡ value_at simple_ascii pairs key

abbrev pub no_window : Window
no_window = record { from = 0; to = 0; depth = 0 }

abbrev pub window_at : List Window → ℕ → Window
window_at windows i = slice_index_or windows i no_window

-- the edge of the window of a number
abbrev pub edge_no : Pairs → List Window → ℕ → ℕ
edge_no all windows i = edge_of all (window_at windows i)

-- the lengths of the targets of these numbers
abbrev pub target_lens : List ℕ → List ℕ → List ℕ
target_lens lens numbers = map (λ i. slice_index_or lens i 0) numbers

-- the place of a byte among these
abbrev pub place_in : List ℕ → ℕ → ℕ
place_in [] b = 0
place_in (e ∷ es) b = if e == b then 0 else 1 + place_in es b

-- A perfect table of these edges, and their numbers in the order of the table.
pub record IsHashedLayout (edges table numbers : List ℕ) : Type 0 where
  pub p : ℕ
  pub qs : List ℕ
  pub placed : List ℕ
  pub table_is : table ≡ p ∷ (qs ++ placed)
  pub perfect : IsPerfect p qs placed
  pub permutation : IsPermutation edges placed
  pub numbers_are : numbers ≡ map (λ b. place_in edges b) placed

-- The edges of a branch, a search table, and numbers of the edges.
pub record LaidTable : Type 0 where
  pub edges : List ℕ
  pub table : List ℕ
  pub numbers : List ℕ

-- The search table of a branch to this many targets, and their numbers in the order of the table.
pub record IsLayout (kind : Kind) (edge : ℕ → ℕ) (count : ℕ) (table numbers : List ℕ) : Type 0 where
  pub is_table : IsTable kind (map edge numbers) table
  pub permutation : IsPermutation (range_with_len 0 count) numbers
  pub in_order : is_hashed kind count ≡ false → numbers ≡ range_with_len 0 count

-- A branch comes first in the window, and its slots begin at one of these.
pub record HasSlots (kind : Kind) (all : Pairs) (w : Window) (slots : List ℕ) (slot : ℕ) : Type 0 where
  pub windows : List Window
  pub parts : TargetWindows all w windows
  pub some : 0 < length windows
  pub rises : IsStrictlyIncreasing (map (fold_byte kind) (map (edge_of all) windows))
  pub lens : List ℕ
  pub below : List (List ℕ)
  pub more : List ℕ
  pub slots_are : drop slot slots ≡ slots_of kind lens below ++ more
  pub lens_each : length lens ≡ length windows
  pub below_each : length below ≡ length windows

abbrev pub position_at : ℕ → ℕ → Position
position_at from slot = record { from = from; slot = slot }

-- what is written for a window that begins where the one before it ended
abbrev pub text_of : Window → Next
text_of w = Text (record { to = w.to; depth = w.depth })

-- the windows of these numbers, each after its place, by how many slots there are up to each, from one on
abbrev pub placed_next : List ℕ → ℕ → List Window → List ℕ → List Next
placed_next ends slot windows [] = []
placed_next ends slot windows (i ∷ numbers) =
    Go (position_at (window_at windows i).from (slot + slice_index_or (0 ∷ ends) i 0)) ∷ text_of (window_at windows i) ∷ placed_next ends slot windows numbers

-- what is written after a branch whose slots begin at one of these
abbrev pub next_of : Kind → List ℕ → ℕ → List Window → List ℕ → List Next
next_of kind slots slot windows numbers =
    let count = length windows in
    let ends = take count (drop (slot + count) slots) in
    if is_hashed kind count
    then placed_next ends (slot + 2 * count) windows numbers ++ Go (position_at (window_at windows (count - 1)).to (slot + 2 * count + slice_index_or ends (count - 1) 0)) ∷ []
    else Go (position_at (window_at windows 0).from (slot + count)) ∷ map text_of windows

-- The window's slots are those from one number to another.
pub record HasSlotsTo (kind : Kind) (all : Pairs) (slots : List ℕ) (slot end : ℕ) (w : Window) : Type 0 where
  pub below : List ℕ
  pub more : List ℕ
  pub kept : AreSlotsOf kind all w below
  pub slots_are : drop slot slots ≡ below ++ more
  pub end_is : end ≡ slot + length below

-- What is written next are the texts of these windows, if the first begins at a place.
pub data IsPending (kind : Kind) (all : Pairs) (slots : List ℕ) : Position → List Next → List Window → Type 0 where
  done : {at : Position} → IsPending kind all slots at [] []
  go : {at to : Position} {next : List Next} {ws : List Window}
      → IsPending kind all slots to next ws → IsPending kind all slots at (Go to ∷ next) ws
  text : {slot end : ℕ} {w : Window} {next : List Next} {ws : List Window}
      → HasSlotsTo kind all slots slot end w → IsPending kind all slots (position_at w.to end) next ws
      → IsPending kind all slots (position_at w.from slot) (text_of w ∷ next) (w ∷ ws)

-- texts of windows, one after another
abbrev pub Texts : Kind → Pairs → List Window → List (List ℕ) → Type 0
Texts kind all [] [] = Unit {0}
Texts kind all [] (t ∷ ts) = ⊥
Texts kind all (w ∷ ws) [] = ⊥
Texts kind all (w ∷ ws) (t ∷ ts) = Listed kind t (window all w) × Texts kind all ws ts
