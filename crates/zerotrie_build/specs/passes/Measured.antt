-- What the first pass finds.
use Rattle.std.specs.Prelude.{◌≡◌, ℕ, ◌+◌, ◌<◌, ◌≤◌, ◌^◌, ◌⊎◌, List, [], ◌∷◌, ◌++◌, length, map, All, if◌then◌else◌}
use Rattle.std.specs.List.{concat}
use Rattle.std.specs.List.Sorted.{IsStrictlyIncreasing}
use Rattle.zerotrie_base.specs.Kind.{Kind, fold_byte, edge_limit, greatest_width, is_hashed, ordered as in_order}
use Rattle.zerotrie_base.specs.Numbers.{value_form, span_form, spelled_as}
use Rattle.zerotrie_base.specs.Maps.{Pairs, with_front, edges, behind_all}
use Rattle.zerotrie_base.specs.Branches.{total}
use Rattle.zerotrie_base.specs.Canonical.{size_of, branch_size}
use Rattle.zerotrie_build.specs.Order.{Ordered, AreKeys}
use Rattle.zerotrie_build.specs.passes.Windows.{window, cut, edge_of, step_of, IsGroup}
use Rattle.zerotrie_build.specs.declared.windows.Window.{Window}
use Rattle.zerotrie_build.specs.declared.windows.Step.TheVariants.{End, Value, Literal, Span, Branch}

-- values, literals and spans, of this many bytes together, lead from a window to one after them
pub data Passes (kind : Kind) (all : Pairs) : Window → Window → ℕ → Type 0 where
  here : {w : Window} → Passes kind all w w 0
  value : {w behind : Window} {n : ℕ} (v : ℕ) → step_of kind all w ≡ Value v
      → Passes kind all (record w { from = w.from + 1 }) behind n → Passes kind all w behind (length (spelled_as value_form v) + n)
  literal : {w behind : Window} {n : ℕ} (b : ℕ) → step_of kind all w ≡ Literal b
      → Passes kind all (record w { depth = w.depth + 1 }) behind n → Passes kind all w behind (1 + n)
  span : {w behind : Window} {n : ℕ} (m : ℕ) → step_of kind all w ≡ Span m
      → Passes kind all (record w { depth = w.depth + m }) behind n
      → Passes kind all w behind (length (spelled_as span_form m) + m + n)

-- none of these comes first
abbrev pub NoneFirst : Kind → Pairs → Window → Type 0
NoneFirst kind all w = (step_of kind all w ≡ End) ⊎ (step_of kind all w ≡ Branch)

-- the windows are those of the targets of the branch that comes first in a window, or it is empty
abbrev pub TargetWindows : Pairs → Window → List Window → Type 0
TargetWindows all w [] = w.from ≡ w.to
TargetWindows all w (c ∷ cs) = (c.from ≡ w.from) × (c.depth ≡ w.depth + 1) × IsGroup all w c.to × TargetWindows all (record w { from = c.to }) cs

-- the windows, one after another, are those of the items from one number to below another, by their bytes at the depth
abbrev pub Groups : Pairs → ℕ → ℕ → ℕ → List Window → Type 0
Groups all depth from to [] = from ≡ to
Groups all depth from to (c ∷ cs) = (c.from ≡ from) × (c.depth ≡ depth + 1) × (from < c.to) × (c.to ≤ to)
    × (cut all from c.to depth ≡ with_front (edge_of all c) (window all c)) × Groups all depth c.to to cs

-- the lengths of the texts of windows
abbrev pub sizes_of : Kind → Pairs → List Window → List ℕ
sizes_of kind all cs = map (size_of kind) (map (window all) cs)

-- What is known of a window whose first branch has targets of these windows, or which has no branch.
pub record HasFirstTargets (kind : Kind) (all : Pairs) (w : Window) (cs : List Window) : Type 0 where
  pub within : w.to ≤ length all
  pub ordered : Ordered kind (window all w)
  pub behind : Window
  pub bytes : ℕ
  pub run : Passes kind all w behind bytes
  pub stops : NoneFirst kind all behind
  pub parts : TargetWindows all behind cs
  pub groups : Groups all behind.depth behind.from behind.to cs
  pub rises : IsStrictlyIncreasing (map (fold_byte kind) (map (edge_of all) cs))
  pub low : All (λ b. b < edge_limit kind) (map (edge_of all) cs)
  pub front : List ℕ
  pub edges_are : in_order kind (edges (behind_all front all)) ≡ map (edge_of all) cs
  pub none : step_of kind all behind ≡ End → (cs ≡ []) × (size_of kind (window all w) ≡ bytes)
  pub some : step_of kind all behind ≡ Branch → (2 ≤ length cs)
      × (size_of kind (window all w) ≡ bytes + (branch_size kind (sizes_of kind all cs) + total (sizes_of kind all cs)))
  pub narrow : total (sizes_of kind all cs) < 256 ^ (greatest_width kind + 1)

-- how many there are up to each of these, after this many
abbrev pub ends_from : ℕ → List ℕ → List ℕ
ends_from n [] = []
ends_from n (m ∷ ms) = (n + m) ∷ ends_from (n + m) ms

-- the slots of a branch, by the lengths of its targets and the slots below each
abbrev pub slots_of : Kind → List ℕ → List (List ℕ) → List ℕ
slots_of kind lens below = lens ++ ((if is_hashed kind (length lens) then ends_from 0 (map length below) else []) ++ concat below)

mutual
  -- The slots are those of the first branch of a window and of the branches after it.
  pub data AreSlotsOf (kind : Kind) (all : Pairs) : Window → List ℕ → Type 0 where
    kept : {w : Window} {cs : List Window} {below : List (List ℕ)}
        → HasFirstTargets kind all w cs → AreSlotsOfEach kind all cs below → AreSlotsOf kind all w (slots_of kind (sizes_of kind all cs) below)

  -- Each window has these slots.
  pub data AreSlotsOfEach (kind : Kind) (all : Pairs) : List Window → List (List ℕ) → Type 0 where
    none : AreSlotsOfEach kind all [] []
    more : {c : Window} {cs : List Window} {slots : List ℕ} {below : List (List ℕ)}
        → AreSlotsOf kind all c slots → AreSlotsOfEach kind all cs below → AreSlotsOfEach kind all (c ∷ cs) (slots ∷ below)

-- the window of all items
abbrev pub whole_window : Pairs → Window
whole_window all = record { from = 0; to = length all; depth = 0 }

-- The slots are those of the pairs, whose text is so long.
pub record IsMeasured (kind : Kind) (all : Pairs) (slots : List ℕ) (len : ℕ) : Type 0 where
  pub keys : AreKeys kind all
  pub slots_are : AreSlotsOf kind all (whole_window all) slots
  pub len_is : len ≡ size_of kind all
