-- The nodes of an encoding by its grammar, in the order of its bytes.
use Rattle.std.specs.Prelude.{ℕ, ◌+◌, List, [], ◌∷◌, ◌++◌, length, Option, Some, None}
use Rattle.std.specs.List.{concat}
use Rattle.zerotrie_base.specs.Kind.{Kind}
use Rattle.zerotrie_base.specs.Maps.{Pairs}
use Rattle.zerotrie_base.specs.Branches.{IsBranch, blocks, offsets}
use Rattle.zerotrie_base.specs.Texts.{Lists, ListEach}
use Rattle.zerotrie_base.specs.Texts.Lists.{nothing, value, literal, span, branch}
use Rattle.zerotrie_base.specs.Texts.ListEach.{no_edge, edge}
use Rattle.zerotrie_base.specs.Nodes.{Shape}
use Rattle.zerotrie_base.specs.Nodes as shapes
use Rattle.zerotrie_core.specs.walk.Visits.{Visit}

-- the bytes of a branch from its edges on
abbrev pub from_edges_on : {kind : Kind} {edges : List ℕ} {targets : List (List ℕ)} {bytes : List ℕ} → IsBranch kind edges targets bytes → List ℕ
from_edges_on {edges = edges} {targets = targets} b = edges ++ (blocks (b.width + 1) (offsets targets) ++ concat targets)

-- the branch, as it is read
abbrev pub branch_read : {kind : Kind} {edges : List ℕ} {targets : List (List ℕ)} {bytes : List ℕ} → IsBranch kind edges targets bytes → Shape
branch_read {edges = edges} b = shapes.Shape.branch (length edges) (b.width + 1) b.table (from_edges_on b)

-- the number of bytes before its targets
abbrev pub front_size : {kind : Kind} {edges : List ℕ} {targets : List (List ℕ)} {bytes : List ℕ} → IsBranch kind edges targets bytes → ℕ
front_size {targets = targets} b = length b.head + (length b.table + length (blocks (b.width + 1) (offsets targets)))

-- a node with which these bytes begin, and its place
abbrev pub visit : ℕ → ℕ → Option ℕ → Option ℕ → List ℕ → Shape → Visit
visit place depth above by bytes node =
    record { part = record { place = place; depth = depth; above = above; edge = by; bytes = bytes }; node = node }

abbrev mutual
  -- the nodes of an encoding at this place, below this many branches, after this node and this edge
  pub text_visits : {kind : Kind} {bytes : List ℕ} {pairs : Pairs} → Lists kind bytes pairs → ℕ → ℕ → Option ℕ → Option ℕ → List Visit
  text_visits nothing place depth above by = []
  text_visits (value {v = v} {spelling = spelling} {rest = rest} s n text) place depth above by =
      visit place depth above by (spelling ++ rest) (shapes.Shape.value v rest) ∷ text_visits text (place + length spelling) depth (Some place) None
  text_visits (literal {b = b} {rest = rest} l n text) place depth above by =
      visit place depth above by (b ∷ rest) (shapes.Shape.literal b rest) ∷ text_visits text (place + 1) depth (Some place) None
  text_visits (span {spelling = spelling} {rest = rest} run s some high f m n text) place depth above by =
      visit place depth above by (spelling ++ (run ++ rest)) (shapes.Shape.span run rest) ∷ text_visits text (place + (length spelling + length run)) depth (Some place) None
  text_visits (branch {bytes = bytes} b each) place depth above by =
      visit place depth above by bytes (branch_read b) ∷ target_visits each (place + front_size b) (depth + 1) place

  -- the nodes of targets, the first of them at this place, after the edges of a branch at the place
  -- above
  pub target_visits : {kind : Kind} {edges : List ℕ} {targets : List (List ℕ)} {pairs : Pairs} → ListEach kind edges targets pairs → ℕ → ℕ → ℕ → List Visit
  target_visits no_edge place depth above = []
  target_visits (edge {e = e} {target = target} n text each) place depth above =
      text_visits text place depth (Some above) (Some e) ++ target_visits each (place + length target) depth above
