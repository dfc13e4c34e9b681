-- Listings of encodings: the pairs that begin alike come one after another.
use Rattle.std.specs.Prelude.{◌≡◌, ◌≢◌, ℕ, ◌<◌, ◌≤◌, ◌⊎◌, List, [], ◌∷◌, length, slice_index}
use Rattle.zerotrie_base.specs.Kind.{Kind}
use Rattle.zerotrie_base.specs.Maps.{Pairs}
use Rattle.zerotrie_base.specs.Texts.{Lists}
use Rattle.zerotrie_core.specs.listing.Listed.{target_of}
use Rattle.zerotrie_core.specs.declared.stream.opened.OpenBranch.{OpenBranch}

-- the bytes are an encoding
abbrev pub IsText : Kind → List ℕ → Type 0
IsText kind bytes = (pairs : Pairs) × Lists kind bytes pairs

-- The edges of a branch are distinct, and its targets encodings.
pub record IsSound (kind : Kind) (n w : ℕ) (behind : List ℕ) : Type 0 where
  pub distinct : (i j : ℕ) → i < j → j < n → slice_index behind i ≢ slice_index behind j
  pub targets : (i : ℕ) → i < n → IsText kind (target_of n w behind i)

-- Such a branch, open after fewer than d bytes of the key, of which an edge before the next one is in the key.
pub record HasEntered (kind : Kind) (key : List ℕ) (d depth n w : ℕ) (behind : List ℕ) (next : ℕ) : Type 0 where
  pub sound : IsSound kind n w behind
  pub low : depth < d
  pub place : ℕ
  pub some : place < next
  pub edge : slice_index key depth ≡ slice_index behind place

-- so are all open branches that have targets left, the innermost first
abbrev pub AreEntered : Kind → List ℕ → ℕ → List OpenBranch → Type 0
AreEntered kind key d [] = Unit {0}
AreEntered kind key d (o ∷ branches) = (o.depth ≤ d) × (o.next < o.edges → HasEntered kind key d o.depth o.edges o.width o.behind.now o.next) × AreEntered kind key o.depth branches

-- the innermost branch has sound targets, and those around it are entered
abbrev pub CanEnter : Kind → List ℕ → List OpenBranch → Type 0
CanEnter kind key [] = Unit {0}
CanEnter kind key (o ∷ branches) = IsSound kind o.edges o.width o.behind.now × AreEntered kind key o.depth branches

-- the innermost branch was just opened after the whole key, and no text is before its targets
abbrev pub IsFresh : Kind → List ℕ → List ℕ → List OpenBranch → Type 0
IsFresh kind key rest [] = ⊥
IsFresh kind key rest (o ∷ branches) = (rest ≡ []) × (o.next < o.edges) × CanEnter kind key (o ∷ branches) × (o.depth ≡ length key)

-- what is left is of an encoding, between two pairs
abbrev pub AreGrouped : Kind → List ℕ → List ℕ → List OpenBranch → Type 0
AreGrouped kind key rest branches = IsText kind rest × AreEntered kind key (length key) branches

-- and on the way to the next pair
abbrev pub GoesGrouped : Kind → List ℕ → List ℕ → List OpenBranch → Type 0
GoesGrouped kind key rest branches = IsText kind rest × (AreEntered kind key (length key) branches ⊎ IsFresh kind key rest branches)

-- the innermost branch comes after fewer bytes than d, or there is none but one without targets
abbrev pub StandsBelow : ℕ → List OpenBranch → Type 0
StandsBelow d [] = Unit {0}
StandsBelow d (o ∷ branches) = (o.depth < d) ⊎ ((o.edges ≤ o.next) × (branches ≡ []))
