-- The pairs of a map in the order of bytes.
use Rattle.std.specs.Prelude.{◌≡◌, ◌<◌, ◌+◌, ℕ, List, [], ◌∷◌, ◌++◌, Bool, true, false, Option, Some, None, Result, Ok, Err, filter, is_some, not, take, if◌then◌else◌}
use Rattle.std.specs.FinMap.{entries}
use Rattle.std.specs.Range.Bound.{bounds_contain}
use Rattle.std.specs.declared.alloc.AllocError.{AllocError}
use Rattle.std.specs.declared.ops.Bound.{Bound}
use Rattle.zerotrie_base.specs.Kind.{Kind}
use Rattle.zerotrie_base.specs.Maps.{Pairs, Map, after_run}
use Rattle.zerotrie_core.specs.ByteSets.{is_in}
use Rattle.zerotrie_core.specs.Listings.{Left, ListsOne, MemoryOnly, over}
use Rattle.zerotrie_core.specs.declared.byte_set.ByteSet.{ByteSet}
use Rattle.zerotrie_search.specs.declared.sorted.walk.Reached.{Reached}
use Rattle.zerotrie_search.specs.declared.sorted.walk.Reached.TheVariants.{Pair, Bytes, Branch, End}
use Rattle.zerotrie_core.specs.declared.listing.ListError.{ListError}
use Rattle.zerotrie_core.specs.declared.listing.ListError.TheVariants.{OutOfMemory}
use Rattle.zerotrie_core.specs.WellFormed.{IsWellFormed}
use Rattle.zerotrie_search.specs.Searches.{accepted_left}
use Rattle.zerotrie_search.specs.Sets.{by_bytes}

-- the pairs of a map whose keys are between two bounds, in ascending order of their keys
abbrev pub within : Bound (List ℕ) → Bound (List ℕ) → Map → Pairs
within from to m = filter (λ e. bounds_contain by_bytes from to e.0) (entries m)

-- the first of some pairs, if there is one
abbrev pub first_of : Pairs → Option (List ℕ × ℕ)
first_of [] = None
first_of (e ∷ pairs) = Some e

-- the last of some pairs, if there is one
abbrev pub last_of : Pairs → Option (List ℕ × ℕ)
last_of [] = None
last_of (e ∷ []) = Some e
last_of (e ∷ f ∷ pairs) = last_of (f ∷ pairs)

-- A sorted listing: the key and the value in hand, what is left, at most how many pairs are to come and
-- how many bytes are still to be read on any bytes, whether the pair in hand was found by the last call
-- of `advance`, and the trie.
pub record Sorting : Type 0 where
  pub key : List ℕ
  pub value : ℕ
  pub left : Left
  pub most : ℕ
  pub work : ℕ
  pub found : Bool
  pub kind : Kind
  pub bytes : List ℕ

-- the result of a call of `advance` as an item of the listing: the pair in hand after it, or the
-- error, or the end
abbrev pub sorted_item : Result Bool AllocError → Sorting → Option (Result (List ℕ × ℕ) ListError)
sorted_item (Ok true) after = Some (Ok (after.key, after.value))
sorted_item (Ok false) after = None
sorted_item (Err e) after = Some (Err OutOfMemory)

-- at most how many items are to come on any bytes: each pair, or an error
abbrev pub sorted_turns : Sorting → ℕ
sorted_turns s = if s.left.ended then 0 else 1 + s.most

-- a call of `advance` takes one of this many turns if it finds a pair, and else leaves none
abbrev pub Spends : Result Bool AllocError → ℕ → ℕ → Type 0
Spends (Ok true) before after = before ≡ 1 + after
Spends (Ok false) before after = after ≡ 0
Spends (Err e) before after = (0 < before) × (after ≡ 0)

-- a call of `advance` that finds no pair ends a listing for good, and one of a listing that has ended finds none
abbrev pub Ends : Result Bool AllocError → (before after : Left) → Type 0
Ends (Ok true) before after = (before.ended ≡ false) × (after.ended ≡ false)
Ends (Ok false) before after = after ≡ over
Ends (Err e) before after = (before.ended ≡ false) × (after ≡ over)

-- One move over bytes that mean a map: to a pair, the first of those to come, whose key is the one in
-- hand; or to other bytes of the key, or to the targets of a branch, before the same pairs; or nothing
-- was left.
abbrev pub SortsByNode : Sorting → Result Reached AllocError → Sorting → Type 0
SortsByNode before (Ok Pair) after = before.left.pairs ≡ (after.key, after.value) ∷ after.left.pairs
SortsByNode before (Ok (Bytes kept)) after = after.left ≡ before.left
SortsByNode before (Ok Branch) after = after.left ≡ before.left
SortsByNode before (Ok End) after = before.left.pairs ≡ []
SortsByNode before (Err e) after = Unit {0}

-- One move on any bytes. After an error or the end it is over.
abbrev pub StepsByNode : Sorting → Result Reached AllocError → Sorting → Type 0
StepsByNode before (Ok Pair) after =
    (before.left.ended ≡ false) × (after.left.ended ≡ false) × (after.key ≡ before.key) × (after.found ≡ true) × (before.most ≡ 1 + after.most) × (after.work < before.work)
StepsByNode before (Ok (Bytes kept)) after =
    (before.left.ended ≡ false) × (after.left.ended ≡ false) × (take kept after.key ≡ take kept before.key) × (after.value ≡ before.value) × (after.found ≡ false) × (after.most ≡ before.most) × (after.work < before.work)
StepsByNode before (Ok Branch) after =
    (before.left.ended ≡ false) × (after.left.ended ≡ false) × (after.key ≡ before.key) × (after.value ≡ before.value) × (after.found ≡ false) × (after.most ≡ before.most) × (after.work < before.work)
StepsByNode before (Ok End) after = (after.left ≡ over) × (after.found ≡ false) × (after.most ≡ before.most)
StepsByNode before (Err e) after = (before.left.ended ≡ false) × (after.left ≡ over) × (after.found ≡ false) × (after.most ≡ before.most)

-- One call of `next` of a sorted iterator. Over bytes that mean a map it is that of a listing.
pub record SortsOne {K : Type 0} (key : K → List ℕ) (before : Sorting) (item : Option (Result (K × ℕ) ListError)) (after : Sorting) : Type 0 where
  pub lists : IsWellFormed before.kind before.bytes → ListsOne key MemoryOnly before.left item after.left
  pub kind : after.kind ≡ before.kind
  pub bytes : after.bytes ≡ before.bytes

-- to how many pairs a call of `advance` moved
abbrev pub moved : Result Bool AllocError → ℕ
moved (Ok true) = 1
moved (Ok false) = 0
moved (Err e) = 0

-- whether a key does not begin with a front
abbrev pub begins_else : List ℕ → List ℕ → Bool
begins_else front key = not (is_some (after_run front key))

-- what is left of a listing, without the pairs whose keys begin with a front
abbrev pub without : List ℕ → Left → Left
without front left = accepted_left (begins_else front) left

-- the key is a front, a byte that is not in a set, and more
abbrev pub IsOutside : List ℕ → ByteSet → List ℕ → Type 0
IsOutside front set key = (byte : ℕ) × (more : List ℕ) × (byte < 256) × (is_in set byte ≡ false) × (key ≡ front ++ byte ∷ more)

-- some of these keys alone were left out
abbrev pub LeavesOut : (List ℕ → Type 0) → Left → Left → Type 0
LeavesOut IsOut before after = (keeps : List ℕ → Bool) × (after ≡ accepted_left keeps before) × ((key : List ℕ) → keeps key ≡ false → IsOut key)

-- A search: the sorted listing that it reads, what is left of that, of the accepted pairs alone, the
-- automaton, and its state after the key in hand.
pub record Searching (T S : Type 0) : Type 0 where
  pub sorted : Sorting
  pub left : Left
  pub automaton : T
  pub state : S
