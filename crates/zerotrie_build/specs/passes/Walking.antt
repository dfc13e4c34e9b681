-- What is known during the first pass.
use Rattle.std.specs.Prelude.{◌≡◌, ℕ, ◌+◌, ◌-◌, ◌^◌, ◌<◌, ◌≤◌, List, [], ◌∷◌, ◌++◌, length, map, replicate, slice_set, if◌then◌else◌}
use Rattle.std.specs.List.{concat}
use Rattle.zerotrie_base.specs.Kind.{Kind, is_hashed}
use Rattle.zerotrie_base.specs.Maps.{Pairs, residual, behind_all}
use Rattle.zerotrie_base.specs.Canonical.{size_of}
use Rattle.zerotrie_build.specs.Order.{Ordered}
use Rattle.zerotrie_build.specs.declared.windows.Window.{Window}
use Rattle.zerotrie_build.specs.declared.windows.Step.TheVariants.{Branch}
use Rattle.zerotrie_build.specs.declared.measure.OpenBranch.{OpenBranch}
use Rattle.zerotrie_build.specs.declared.measure.Turn.{Turn}
use Rattle.zerotrie_build.specs.declared.measure.Turn.TheVariants.{Window as NextWindow, Whole}
use Rattle.zerotrie_build.specs.passes.Windows.{window, step_of}
use Rattle.zerotrie_build.specs.passes.Measured.{Passes, TargetWindows, sizes_of, ends_from, AreSlotsOf, AreSlotsOfEach, whole_window}

-- after some front come the pairs of the window, but for the value of the empty key
abbrev pub IsBehindFront : Pairs → Window → Type 0
IsBehindFront all w = (front : List ℕ) × ((b : ℕ) → residual b (behind_all front all) ≡ residual b (window all w))

-- The window is a part of the items in their order, and its text a part of the whole.
pub record IsPlaced (kind : Kind) (all : Pairs) (w : Window) : Type 0 where
  pub order : w.from ≤ w.to
  pub within : w.to ≤ length all
  pub ordered : Ordered kind (window all w)
  pub behind : IsBehindFront all w
  pub small : size_of kind (window all w) ≤ size_of kind all

-- where the items of windows end
abbrev pub item_ends : List Window → List ℕ
item_ends cs = map (λ c. c.to) cs

-- how many slots a branch of this many edges has besides the lengths of its targets
abbrev pub spare_len : Kind → ℕ → ℕ
spare_len kind n = if is_hashed kind n then n else 0

-- the slots of a branch, some targets of which are measured, and have these slots below them
abbrev pub slots_so_far : Kind → List ℕ → List ℕ → List (List ℕ) → List ℕ
slots_so_far kind lens ends below = (lens ++ ends)
    ++ ((if is_hashed kind (length (lens ++ ends)) then ends_from 0 (map length below) ++ replicate (length ends) 0 else []) ++ concat below)

-- the slots, when the target of a branch is so long and was the last to be measured
abbrev pub with_len : Kind → OpenBranch → ℕ → List ℕ → List ℕ
with_len kind f len slots = if is_hashed kind (f.end - f.first)
    then slice_set (slice_set slots f.next len) (f.next + (f.end - f.first)) (length slots - (f.end + (f.end - f.first)))
    else slice_set slots f.next len

-- Of the branch of a window, a target's window is measured, after these slots before the branch and these of its own.
pub record MeasuresTarget (kind : Kind) (all : Pairs) (w c : Window) (f : OpenBranch) (before own : List ℕ) : Type 0 where
  pub placed : IsPlaced kind all w
  pub behind : Window
  pub run : Passes kind all w behind f.len
  pub is : step_of kind all behind ≡ Branch
  pub done : List Window
  pub more : List Window
  pub parts : TargetWindows all behind (done ++ c ∷ more)
  pub below : List (List ℕ)
  pub kept : AreSlotsOfEach kind all done below
  pub from : f.from ≡ c.from
  pub depth : f.depth ≡ behind.depth
  pub room : f.depth + 1 < 2 ^ 64
  pub first : f.first ≡ length before
  pub next : f.next ≡ f.first + length done
  pub end : f.end ≡ f.next + 1 + length more
  pub own_is : own ≡ slots_so_far kind (sizes_of kind all done) (item_ends (c ∷ more)) below

-- The window is measured, inside of these branches, the innermost of them first, and after these slots.
pub data IsInside (kind : Kind) (all : Pairs) : Window → List OpenBranch → List ℕ → Type 0 where
  outside : IsInside kind all (whole_window all) [] []
  inside : {w c : Window} {f : OpenBranch} {fs : List OpenBranch} {before own : List ℕ}
      → IsInside kind all w fs before → MeasuresTarget kind all w c f before own → IsInside kind all c (f ∷ fs) (before ++ own)

-- A window was measured, and is so long.
pub record Closing (kind : Kind) (all : Pairs) (branches : List OpenBranch) (slots : List ℕ) (len : ℕ) : Type 0 where
  pub w : Window
  pub before : List ℕ
  pub own : List ℕ
  pub waits : IsInside kind all w branches before
  pub kept : AreSlotsOf kind all w own
  pub slots_are : slots ≡ before ++ own
  pub len_is : len ≡ size_of kind (window all w)

-- A branch was opened after this many bytes, and its first target is next.
pub record IsOpened (kind : Kind) (all : Pairs) (w : Window) (len : ℕ) (c : Window) (slots : List ℕ) (branches : List OpenBranch) (slots' : List ℕ) (branches' : List OpenBranch) : Type 0 where
  pub targets : List Window
  pub parts : TargetWindows all w targets
  pub slots_are : slots' ≡ slots ++ (item_ends targets ++ replicate (spare_len kind (length targets)) 0)
  pub end : ℕ
  pub end_is : end ≡ length slots + length targets
  pub branches_are : branches' ≡ branches ++ record { from = w.from; depth = w.depth; len = len; first = length slots; next = length slots; end = end } ∷ []
  pub from : c.from ≡ w.from
  pub to : (t : Window) (more : List Window) → targets ≡ t ∷ more → c.to ≡ t.to
  pub depth : c.depth ≡ w.depth + 1

-- the next window is measured, or all is
abbrev pub IsTurn : Kind → Pairs → Turn → List OpenBranch → List ℕ → Type 0
IsTurn kind all (NextWindow c) branches slots = IsInside kind all c branches slots
IsTurn kind all (Whole len) branches slots = AreSlotsOf kind all (whole_window all) slots × (len ≡ size_of kind (window all (whole_window all)))

abbrev pub IsNextWindow : Turn → Type 0
IsNextWindow (NextWindow c) = Unit {0}
IsNextWindow (Whole len) = ⊥

-- how many targets of branches are still to be measured
abbrev pub left_open : List OpenBranch → ℕ
left_open [] = 0
left_open (f ∷ fs) = (f.end - f.next) + left_open fs
