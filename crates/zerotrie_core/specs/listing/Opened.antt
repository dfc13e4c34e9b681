-- The state of a listing: the text that it is in, and the branches that are open.
use Rattle.std.specs.Prelude.{◌≡◌, ℕ, Option, Some, None, ◌+◌, ◌-◌, ◌<◌, ◌≤◌, List, [], ◌∷◌, ◌++◌, length, take, Bool, nat_lt, if◌then◌else◌}
use Rattle.zerotrie_base.specs.Kind.{Kind}
use Rattle.zerotrie_base.specs.Maps.{Pairs, with_run}
use Rattle.zerotrie_base.specs.Nodes.{targets_behind, begin_of}
use Rattle.zerotrie_core.specs.Listings.{Left, to_come, over}
use Rattle.zerotrie_core.specs.Skips.{Passes}
use Rattle.zerotrie_core.specs.listing.Grouped.{AreEntered, AreGrouped}
use Rattle.zerotrie_core.specs.listing.Listed.{listed, of_targets}
use Rattle.zerotrie_core.specs.declared.stream.opened.OpenBranch.{OpenBranch}

-- the pairs after an open branch from its next edge on
abbrev pub pairs_behind : Kind → OpenBranch → Pairs
pairs_behind kind o = of_targets (listed kind) o.edges o.width o.behind.now (o.edges - o.next)

-- the pairs after open branches, the innermost first: what is in front of a branch is a beginning of the prefix
abbrev pub pairs_open : Kind → List ℕ → List OpenBranch → Pairs
pairs_open kind prefix [] = []
pairs_open kind prefix (o ∷ branches) = let front = take o.depth prefix in with_run front (pairs_behind kind o) ++ pairs_open kind front branches

-- the pairs that are left
abbrev pub pairs_left : Kind → List ℕ → List ℕ → List OpenBranch → Pairs
pairs_left kind prefix rest branches = with_run prefix (listed kind rest) ++ pairs_open kind prefix branches

abbrev pub left_in : Bool → Kind → List ℕ → List ℕ → List OpenBranch → Left
left_in ended kind prefix rest branches = if ended then over else to_come (pairs_left kind prefix rest branches)

-- An open branch comes after a beginning of the prefix, and knows where its next target begins, if one is left.
pub record IsOpen (depth : ℕ) (o : OpenBranch) : Type 0 where
  pub low : o.depth ≤ depth
  pub inside : o.next ≤ o.edges
  pub begins : o.next < o.edges → o.begin ≡ begin_of o.edges o.width o.behind.now o.next

-- each open branch has a target left, and inner ones come after no shorter beginning
abbrev pub Nested : ℕ → List OpenBranch → Type 0
Nested depth [] = Unit {0}
Nested depth (o ∷ branches) = IsOpen depth o × (o.next < o.edges) × Nested o.depth branches

-- the same, if the innermost one may have none left
abbrev pub Stands : ℕ → List OpenBranch → Type 0
Stands depth [] = Unit {0}
Stands depth (o ∷ branches) = IsOpen depth o × Nested o.depth branches

-- the open branches without the innermost one, if that has no target left
abbrev pub still_open : List OpenBranch → List OpenBranch
still_open [] = []
still_open (o ∷ branches) = if nat_lt o.next o.edges then o ∷ branches else branches

-- Open branches were left, and with them pairs whose keys begin with the first d bytes of the prefix.
pub record Leaves (d : ℕ) (old new : List OpenBranch) : Type 0 where
  pub stands : (depth : ℕ) → Stands depth old → Stands depth new
  pub entered : (kind : Kind) (prefix : List ℕ) (depth : ℕ) → AreEntered kind prefix depth old → AreEntered kind prefix depth new
  pub passes : (kind : Kind) (prefix : List ℕ) → Stands (length prefix) old → Passes (take d prefix) (pairs_open kind prefix old) (pairs_open kind prefix new)

-- how many bytes of targets, edges and branches are still to be gone over
abbrev pub work_open : List OpenBranch → ℕ
work_open [] = 0
work_open (o ∷ branches) = length (targets_behind o.edges o.width o.behind.now) - o.begin + (o.edges - o.next) + 1 + work_open branches

abbrev pub work_left : List ℕ → List OpenBranch → ℕ
work_left rest branches = length rest + work_open branches

-- What a search for the next value finds: the first pair that was left, whose key is at hand, or the end.
abbrev pub IsFound : Pairs → List ℕ → Pairs → Option ℕ → Type 0
IsFound before key after None = before ≡ []
IsFound before key after (Some v) = before ≡ (key, v) ∷ after

-- what is left of an encoding before a value was found is so after it
abbrev pub StaysGrouped : Kind → List ℕ → List ℕ → List OpenBranch → List ℕ → List ℕ → List OpenBranch → Option ℕ → Type 0
StaysGrouped kind key rest branches key' rest' branches' None = Unit {0}
StaysGrouped kind key rest branches key' rest' branches' (Some v) = AreGrouped kind key rest branches → AreGrouped kind key' rest' branches'

-- A stream moves to the next value, with these bytes, key and branches before it, and those after it.
abbrev pub MovesOn : Kind → List ℕ → List ℕ → List OpenBranch → List ℕ → List ℕ → List OpenBranch → Option ℕ → Type 0
MovesOn kind key rest branches key' rest' branches' found =
    Stands (length key') branches' × StaysGrouped kind key rest branches key' rest' branches' found × IsFound (pairs_left kind key rest branches) key' (pairs_left kind key' rest' branches') found
