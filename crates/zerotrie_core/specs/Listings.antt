-- Listings: what is left of one, and the result of `next`.
use Rattle.std.specs.Prelude.{◌≡◌, ℕ, ◌+◌, List, [], ◌∷◌, Bool, true, false, Option, Some, None, Result, Ok, Err, length, if◌then◌else◌}
use Rattle.zerotrie_base.specs.Kind.{Kind}
use Rattle.zerotrie_base.specs.Maps.{Pairs, same_key}
use Rattle.std.specs.declared.alloc.AllocError.{AllocError}
use Rattle.zerotrie_core.specs.declared.stream.opened.OpenBranch.{OpenBranch}
use Rattle.zerotrie_core.specs.declared.listing.ListError.{ListError}
use Rattle.zerotrie_core.specs.declared.listing.ListError.TheVariants.{OutOfMemory}

-- What is left of a listing: the pairs to come, in this order, and whether it has ended.
pub record Left : Type 0 where
  pub pairs : Pairs
  pub ended : Bool

-- Where a stream reads on: the bytes that come next, in this kind, and then the targets that are left
-- of the open branches, the innermost first.
pub record Reading : Type 0 where
  pub kind : Kind
  pub rest : List ℕ
  pub branches : List OpenBranch

-- The state of a stream: the key and the value in hand, and what is left.
pub record Standing : Type 0 where
  pub key : List ℕ
  pub value : ℕ
  pub left : Left
  pub reading : Reading

-- these pairs are to come
abbrev pub to_come : Pairs → Left
to_come pairs = record { pairs = pairs; ended = false }

-- the pairs after the first whose key equals this one in the kind, and none if no pair has such a
-- key
abbrev pub rest_after : Kind → List ℕ → Pairs → Pairs
rest_after kind key [] = []
rest_after kind key (e ∷ pairs) = if same_key kind e.0 key then pairs else rest_after kind key pairs

-- nothing is to come
abbrev pub over : Left
over = record { pairs = []; ended = true }

-- at most how many items are to come: each pair, or an error
abbrev pub turns_left : Left → ℕ
turns_left left = if left.ended then 0 else 1 + length left.pairs

-- One call of `next`: it returns and removes the first pair, or returns an error that may end the
-- listing here, or nothing was left. After an error or the end it is over.
module _ {K E : Type 0} (key : K → List ℕ) (MayEnd : E → Pairs → Type 0) where
  abbrev pub ListsOne : Left → Option (Result (K × ℕ) E) → Left → Type 0
  ListsOne before None after = (before.pairs ≡ []) × (after ≡ over)
  ListsOne before (Some (Ok p)) after = (before ≡ to_come ((key p.0, p.1) ∷ after.pairs)) × (after ≡ to_come after.pairs)
  ListsOne before (Some (Err e)) after = (before.ended ≡ false) × MayEnd e before.pairs × (after ≡ over)

-- the only error of a listing whose keys are bytes
abbrev pub MemoryOnly : ListError → Pairs → Type 0
MemoryOnly e pairs = e ≡ OutOfMemory

-- the result of a call of `advance` as an item of the listing: the current pair after it, or the
-- error, or the end
abbrev pub item_of : Result Bool AllocError → List ℕ × ℕ → Option (Result (List ℕ × ℕ) ListError)
item_of (Ok true) current = Some (Ok current)
item_of (Ok false) current = None
item_of (Err e) current = Some (Err OutOfMemory)
