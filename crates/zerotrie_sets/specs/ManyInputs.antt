-- Inputs of a merge of many.
use Rattle.std.specs.Prelude.{◌≡◌, ℕ, List, [], ◌∷◌, map, Bool, true, false, Option, Some, None, if◌then◌else◌}
use Rattle.std.specs.List.{slice_get}
use Rattle.std.specs.Option.{option_map, option_map_or}
use Rattle.std.specs.Ordering.{nat_cmp, is_lt, is_eq, match_ordering}
use Rattle.std.specs.declared.cmp.Ordering.TheVariants.{Less}
use Rattle.std.proofs.Common.{zero, suc}
use Rattle.std.specs.Cmp.Lexicographic.{slice_cmp}
use Rattle.zerotrie_core.specs.Maps.{Pairs}
use Rattle.zerotrie_core.specs.Listings.{Left}
use Rattle.zerotrie_sets.specs.Rows.{Values}
use Rattle.zerotrie_sets.specs.Inputs.{pending, listed}
use Rattle.zerotrie_sets.specs.declared.input.Input.{Input}
use Rattle.zerotrie_sets.specs.declared.merge_all.Least.{Least}
use Rattle.zerotrie_sets.specs.declared.input.Held.{Held}
use Rattle.zerotrie_sets.specs.declared.input.Held.TheVariants.{Listed, Waiting, Over}

-- what became of the current pair, once a key was listed
abbrev pub held_after : List ℕ → Held → List ℕ → Held
held_after key Listed this = Listed
held_after key Waiting this = if is_eq (slice_cmp nat_cmp this key) then Listed else Waiting
held_after key Over this = Over

-- the key of the current pair, if that waits
abbrev pub waiting_key : Held → List ℕ → Option (List ℕ)
waiting_key Listed key = None
waiting_key Waiting key = Some key
waiting_key Over key = None

-- the least key so far: the number of the first input that has it, the key, and whether no other has it
abbrev pub Found : Type 0
Found = Option (ℕ × (List ℕ × Bool))

abbrev pub found_as : Option Least → Found
found_as least = option_map {U = ℕ × (List ℕ × Bool)} (λ l. (l.at, (l.key.now, l.alone))) least

-- the lesser of the least key so far and that of an input, if one waits there
abbrev pub lesser : Found → ℕ → Option (List ℕ) → Found
lesser found at None = found
lesser None at (Some key) = Some (at, (key, true))
lesser (Some before) at (Some key) = match_ordering (slice_cmp nat_cmp key before.1.0)
    (Some (at, (key, true))) (Some (before.0, (before.1.0, false))) (Some before)

-- A key is not below another, if there is one.
abbrev pub NotBelow : List ℕ → Option (List ℕ) → Type 0
NotBelow k None = Unit {0}
NotBelow k (Some l) = is_lt (slice_cmp nat_cmp l k) ≡ false

-- A key is above another, if there is one.
abbrev pub IsAbove : List ℕ → Option (List ℕ) → Type 0
IsAbove k None = Unit {0}
IsAbove k (Some l) = slice_cmp nat_cmp k l ≡ Less

-- the pair waits, or no pair is left
abbrev pub IsFetched : Held → Type 0
IsFetched Listed = ⊥
IsFetched Waiting = Unit {0}
IsFetched Over = Unit {0}

module _ {S : Type 0} (left : S → Left) (current : S → List ℕ × ℕ) where
  -- what is still to be listed of each input
  abbrev pub pendings : List (Input S) → List Pairs
  pendings inputs = map (λ i. pending (left i.stream) (current i.stream) i.held) inputs

module _ {S : Type 0} (current : S → List ℕ × ℕ) where
  -- the input, once a key was listed
  abbrev pub after_key : List ℕ → Input S → Input S
  after_key key i = record { stream = i.stream; held = held_after key i.held (current i.stream).0 }

  -- the key of the current pair, if that waits
  abbrev pub waits : Input S → Option (List ℕ)
  waits i = waiting_key i.held (current i.stream).0

  -- the key of the current pair at a place, and an empty key past the end
  abbrev pub key_at : List (Input S) → ℕ → List ℕ
  key_at inputs at = option_map_or {U = List ℕ} (λ i. (current i.stream).0) (slice_get inputs at) []

  -- No key that waits is below this one.
  abbrev pub AllNotBelow : List ℕ → List (Input S) → Type 0
  AllNotBelow k [] = Unit {0}
  AllNotBelow k (i ∷ inputs) = NotBelow k (waits i) × AllNotBelow k inputs

  -- Each key that waits is above this one.
  abbrev pub AllAbove : List ℕ → List (Input S) → Type 0
  AllAbove k [] = Unit {0}
  AllAbove k (i ∷ inputs) = IsAbove k (waits i) × AllAbove k inputs

  -- None waits.
  abbrev pub NoneWaits : List (Input S) → Type 0
  NoneWaits [] = Unit {0}
  NoneWaits (i ∷ inputs) = (waits i ≡ None) × NoneWaits inputs

  -- The key waits at this place, and is the least one, at no place before, and at none after if it is alone.
  abbrev pub IsLeastAt : List ℕ → Bool → ℕ → List (Input S) → Type 0
  IsLeastAt k alone at [] = ⊥
  IsLeastAt k alone zero (i ∷ inputs) = (waits i ≡ Some k) × (AllNotBelow k inputs × (alone ≡ true → AllAbove k inputs))
  IsLeastAt k alone (suc at) (i ∷ inputs) = IsAbove k (waits i) × IsLeastAt k alone at inputs

  abbrev pub IsLeast : Found → List (Input S) → Type 0
  IsLeast None inputs = NoneWaits inputs
  IsLeast (Some l) inputs = IsLeastAt l.1.0 l.1.1 l.0 inputs

  -- the values that were listed
  abbrev pub listed_all : List (Input S) → Values
  listed_all inputs = map (λ i. listed (current i.stream) i.held) inputs

-- the current pair of each input waits, or no pair of it is left
abbrev pub AllFetched : {S : Type 0} → List (Input S) → Type 0
AllFetched [] = Unit {0}
AllFetched (i ∷ inputs) = IsFetched i.held × AllFetched inputs
