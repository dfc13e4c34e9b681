-- Bytes that are written at the end of a text.
use Rattle.std.specs.Prelude.{◌≡◌, ℕ, ◌+◌, ◌≤◌, List, ◌++◌, length}
use Rattle.std.specs.List.{concat}
use Rattle.zerotrie_base.specs.Kind.{Kind}
use Rattle.zerotrie_base.specs.Maps.{Pairs}
use Rattle.zerotrie_base.specs.Branches.{total}
use Rattle.zerotrie_base.specs.Canonical.{size_of}
use Rattle.zerotrie_build.specs.declared.windows.Window.{Window}
use Rattle.zerotrie_build.specs.declared.branch.Next.{Next}
use Rattle.zerotrie_build.specs.passes.Written.{Written}
use Rattle.zerotrie_build.specs.passes.Windows.{window}
use Rattle.zerotrie_build.specs.passes.Measured.{Passes, NoneFirst, sizes_of}
use Rattle.zerotrie_build.specs.passes.Writing.{Listed, Texts, position_at, HasSlotsTo, IsPending}

-- this many bytes more are part of the text
abbrev pub HasRoom : Written → ℕ → Type 0
HasRoom w n = length w.bytes + n ≤ w.len

-- there is room for the values, literals and spans that come first in a window
abbrev pub FrontFits : Kind → Pairs → Window → Written → Type 0
FrontFits kind all w writing = (rest : Window) (n : ℕ) → Passes kind all w rest n → NoneFirst kind all rest → HasRoom writing n

-- The bytes were written next.
pub record Writes (old new : Written) (bytes : List ℕ) : Type 0 where
  pub is : new.bytes ≡ old.bytes ++ bytes
  pub same : new.len ≡ old.len

-- The values, literals and spans that come first in a window were written, and the rest of it comes after them.
pub record FrontWritten (kind : Kind) (all : Pairs) (w rest : Window) (old new : Written) : Type 0 where
  pub front : List ℕ
  pub writes : Writes old new front
  pub run : Passes kind all w rest (length front)
  pub lists : (text : List ℕ) → Listed kind text (window all rest) → Listed kind (front ++ text) (window all w)

-- The bytes of a window in front of the targets of its first branch were written, and then come these windows.
pub record NodesWritten (kind : Kind) (all : Pairs) (slots : List ℕ) (slot : ℕ) (w : Window) (next : List Next) (old new : Written) : Type 0 where
  pub targets : List Window
  pub front : List ℕ
  pub puts : Writes old new front
  pub sized : length front + total (sizes_of kind all targets) ≡ size_of kind (window all w)
  pub many : length next ≤ length front
  pub lists : (texts : List (List ℕ)) → Texts kind all targets texts → Listed kind (front ++ concat texts) (window all w)
  pub leads : (end : ℕ) (more : List Next) (ws : List Window) → HasSlotsTo kind all slots slot end w
      → IsPending kind all slots (position_at w.to end) more ws → IsPending kind all slots (position_at w.to slot) (next ++ more) (targets ++ ws)

-- A text was written as far as these windows, in this order, which are the rest of it.
pub record WrittenTo (kind : Kind) (all : Pairs) (w : Written) (ws : List Window) : Type 0 where
  pub sized : length w.bytes + total (sizes_of kind all ws) ≡ w.len
  pub completes : (texts : List (List ℕ)) → Texts kind all ws texts → Listed kind (w.bytes ++ concat texts) all
