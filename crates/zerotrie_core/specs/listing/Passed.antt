-- Going down to a prefix, and to a key and past it.
use Rattle.std.specs.Prelude.{◌≡◌, ◌≢◌, ℕ, ◌<◌, ◌≤◌, List, length, [], ◌∷◌, ◌++◌, Option, Some, None, true, false}
use Rattle.std.specs.Borrow.{Bor}
use Rattle.zerotrie_base.specs.Kind.{Kind, fold_byte}
use Rattle.zerotrie_base.specs.Maps.{Pairs, with_run, same_key, value_at}
use Rattle.zerotrie_base.specs.Texts.{Lists}
use Rattle.zerotrie_base.specs.Nodes.{Shape}
use Rattle.zerotrie_core.specs.Listings.{Left, to_come}
use Rattle.zerotrie_base.specs.reader.Reading.{AlwaysFinds, AlwaysComes}
use Rattle.zerotrie_core.specs.reader.Going.{AlwaysGoes, AlwaysStops}
use Rattle.zerotrie_core.specs.listing.Grouped.{AreGrouped}
use Rattle.zerotrie_core.specs.listing.Opened.{Stands, pairs_left, still_open, work_left}
use Rattle.zerotrie_core.specs.declared.stream.opened.OpenBranch.{OpenBranch}
use Rattle.zerotrie_core.specs.declared.here.Here.{Here}

-- the pairs are those of a text, each key with a front before it; or there is no such text, and no pair
abbrev pub IsBehind : Kind → Pairs → Option (List ℕ × List ℕ) → Type 0
IsBehind kind pairs None = pairs ≡ []
IsBehind kind pairs (Some r) = (below : Pairs) × Lists kind r.1 below × (pairs ≡ with_run r.0 below)

-- what the key has after an edge that is its first byte to the kind; or it does not begin with the edge
abbrev pub IsAfterEdge : Kind → ℕ → List ℕ → Option (List ℕ) → Type 0
IsAfterEdge kind edge key None = (byte : ℕ) (more : List ℕ) → key ≡ byte ∷ more → fold_byte kind edge ≢ fold_byte kind byte
IsAfterEdge kind edge key (Some left) = (byte : ℕ) × (key ≡ byte ∷ left) × (fold_byte kind edge ≡ fold_byte kind byte)

-- what the key has after bytes that are the front to the kind; or no key that begins with the front is this one
abbrev pub IsAfterFront : Kind → List ℕ → List ℕ → Option (List ℕ) → Type 0
IsAfterFront kind front key None = (more : List ℕ) → same_key kind (front ++ more) key ≡ false
IsAfterFront kind front key (Some left) = (taken : List ℕ) × (key ≡ taken ++ left) × (same_key kind front taken ≡ true)

-- The pairs that are left come after one whose key is this one to the kind.
pub record LeavesAfter (kind : Kind) (key : List ℕ) (pairs left : Pairs) : Type 0 where
  pub before : Pairs
  pub own : List ℕ
  pub value : ℕ
  pub parts : pairs ≡ before ++ (own, value) ∷ left
  pub same : same_key kind own key ≡ true

-- that, or no pair has the key
abbrev pub IsPast : Kind → List ℕ → Pairs → Option Left → Type 0
IsPast kind key pairs None = value_at kind pairs key ≡ None
IsPast kind key pairs (Some left) = (left ≡ to_come left.pairs) × LeavesAfter kind key pairs left.pairs

-- An edge that is the byte to the kind goes to the end of the key, and the pairs that are left then are the last of those before.
pub record GoesInto (kind : Kind) (node : Shape) (byte : ℕ) (bytes key : List ℕ) (branches : List OpenBranch) (rest key' : List ℕ) (branches' : List OpenBranch) : Type 0 where
  pub edge : ℕ
  pub key_is : key' ≡ key ++ edge ∷ []
  pub same : fold_byte kind edge ≡ fold_byte kind byte
  pub goes : AlwaysGoes kind node byte edge rest
  pub shorter : length rest < length bytes
  pub stands : Stands (length key') branches'
  pub work : work_left rest (still_open branches') ≤ work_left bytes (still_open branches)
  pub grouped : AreGrouped kind key bytes branches → AreGrouped kind key' rest branches'
  pub last : (pairs : Pairs) → Lists kind bytes pairs → (before : Pairs) × (pairs_left kind key bytes branches ≡ before ++ pairs_left kind key' rest branches')

-- that, to the rest of the text; or no edge is the byte to the kind
abbrev pub IsEntered : Kind → Shape → ℕ → List ℕ → List ℕ → List OpenBranch → Option (List ℕ) → List ℕ → List OpenBranch → Type 0
IsEntered kind node byte bytes key branches None key' branches' = AlwaysStops kind node byte
IsEntered kind node byte bytes key branches (Some rest) key' branches' = GoesInto kind node byte bytes key branches rest key' branches'

-- A walk continues towards a key: bytes that are the run to the kind go from what is left of the sought key to the end of
-- the key at hand, and the pairs that are left then are the last of those before.
pub record LeadsOn (kind : Kind) (bytes left key : List ℕ) (branches : List OpenBranch) (rest after key' : List ℕ) (branches' : List OpenBranch) : Type 0 where
  pub run : List ℕ
  pub taken : List ℕ
  pub key_is : key' ≡ key ++ run
  pub left_is : left ≡ taken ++ after
  pub same : same_key kind run taken ≡ true
  pub count : ℕ
  pub comes : AlwaysComes kind bytes left rest after count
  pub shorter : length rest < length bytes
  pub stands : Stands (length key') branches'
  pub work : work_left rest (still_open branches') ≤ work_left bytes (still_open branches)
  pub grouped : AreGrouped kind key bytes branches → AreGrouped kind key' rest branches'
  pub last : (pairs : Pairs) → Lists kind bytes pairs → (before : Pairs) × (pairs_left kind key bytes branches ≡ before ++ pairs_left kind key' rest branches')

-- that, to the rest of the text and of the key; or no pair has the key
abbrev pub IsTowards : Kind → List ℕ → List ℕ → List ℕ → List OpenBranch → Option (List ℕ × List ℕ) → List ℕ → List OpenBranch → Type 0
IsTowards kind bytes left key branches None key' branches' = AlwaysFinds kind bytes left None 1
IsTowards kind bytes left key branches (Some r) key' branches' = LeadsOn kind bytes left key branches r.0 r.1 key' branches'

-- the rest of the text and of the key, as they were read
abbrev pub gone_to : Option (Here × Bor (List ℕ)) → Option (List ℕ × List ℕ)
gone_to None = None
gone_to (Some r) = Some (r.0.rest.now, r.1.now)
