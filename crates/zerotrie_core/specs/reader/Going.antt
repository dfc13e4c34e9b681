-- What follows a byte of an encoding.
use Rattle.std.specs.Prelude.{◌≡◌, ℕ, ◌+◌, List, ◌∷◌, Some, None}
use Rattle.zerotrie_base.specs.Kind.{Kind}
use Rattle.zerotrie_base.specs.Maps.{Pairs, value_at, residual}
use Rattle.zerotrie_base.specs.Texts.{Lists, nodes}
use Rattle.zerotrie_base.specs.Nodes.{Shape, Begins}
use Rattle.zerotrie_base.specs.Cursors.{met, edge_like}

-- The rest lists the pairs after the edge b, which equals the byte c in the kind.
pub record Goes {kind : Kind} {bytes : List ℕ} {pairs : Pairs} (text : Lists kind bytes pairs) (c b : ℕ) (rest : List ℕ) : Type 0 where
  pub edge : edge_like kind c (met pairs) ≡ Some b
  pub below : Pairs
  pub inner : Lists kind rest below
  pub is : below ≡ residual b pairs
  pub answers : (key : List ℕ) → value_at kind pairs (c ∷ key) ≡ value_at kind below key
  pub counts : (key : List ℕ) → nodes text (c ∷ key) ≡ 1 + nodes inner key

-- No edge equals the byte c in the kind.
pub record Stops {kind : Kind} {bytes : List ℕ} {pairs : Pairs} (text : Lists kind bytes pairs) (c : ℕ) : Type 0 where
  pub edge : edge_like kind c (met pairs) ≡ None
  pub answers : (key : List ℕ) → value_at kind pairs (c ∷ key) ≡ None
  pub counts : (key : List ℕ) → nodes text (c ∷ key) ≡ 1

-- whichever bytes begin with the node, and whatever they list
abbrev pub AlwaysGoes : Kind → Shape → ℕ → ℕ → List ℕ → Type 0
AlwaysGoes kind node c b rest = (bytes : List ℕ) (pairs : Pairs) (text : Lists kind bytes pairs) → Begins kind bytes node → Goes text c b rest

abbrev pub AlwaysStops : Kind → Shape → ℕ → Type 0
AlwaysStops kind node c = (bytes : List ℕ) (pairs : Pairs) (text : Lists kind bytes pairs) → Begins kind bytes node → Stops text c
