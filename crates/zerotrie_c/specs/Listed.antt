-- Pairs as three lists, which C keeps as arrays.
use Rattle.std.specs.Prelude.{◌≡◌, ℕ, ◌+◌, ◌<◌, ◌≤◌, ◌⊎◌, ◌&&◌, Bool, true, false, if◌then◌else◌, List, [], ◌∷◌, ◌++◌, length, drop, map}
use Rattle.zerotrie_core.specs.Kind.{Kind}
use Rattle.zerotrie_core.specs.Maps.{Pairs}
use Rattle.zerotrie_core.specs.Listings.{rest_after}
use Rattle.zerotrie_core.specs.declared.ZeroTrieBuildError.TheVariants.{BufferTooSmall, OutOfMemory}
use Rattle.zerotrie_c.specs.Statuses.{done, status_of}

-- all keys, one after another, whatever belongs to each
abbrev pub joined : {V : Type 0} → List (List ℕ × V) → List ℕ
joined [] = []
joined (p ∷ pairs) = p.0 ++ joined pairs

-- where each key ends, if the first begins here
abbrev pub ends_from : ℕ → Pairs → List ℕ
ends_from n [] = []
ends_from n (p ∷ pairs) = (n + length p.0) ∷ ends_from (n + length p.0) pairs

-- the values
abbrev pub values_of : Pairs → List ℕ
values_of pairs = map (λ p. p.1) pairs

-- keys that lie one after another, where each ends, and their values
pub record IsFlat (pairs : Pairs) (keys ends values : List ℕ) : Type 0 where
  pub keys_are : keys ≡ joined pairs
  pub ends_are : ends ≡ ends_from 0 pairs
  pub values_are : values ≡ values_of pairs

-- the elements are at the front of the room, and the rest of it stays; or it has no room for them, and all of it stays
abbrev pub IsPut : {A : Type 0} → List A → Bool → List A → List A → Type 0
IsPut elements true old room = (length elements ≤ length old) × (room ≡ elements ++ drop (length elements) old)
IsPut elements false old room = (length old < length elements) × (room ≡ old)

-- what is answered if all rooms had room, and if not
abbrev pub status_if : Bool → ℕ
status_if whole = if whole then done else status_of BufferTooSmall

-- Each of the three parts is put into its room, and their lengths are told. It is done if all rooms had room.
abbrev pub IsGiven : List ℕ → List ℕ → List ℕ → ℕ → List ℕ → List ℕ → List ℕ → List ℕ → List ℕ → List ℕ → ℕ → ℕ → Type 0
IsGiven all_keys all_ends all_values status old_keys keys old_ends ends old_values values key_bytes count =
    (key_bytes ≡ length all_keys) × (count ≡ length all_values) × (k : Bool) × (e : Bool) × (v : Bool)
    × IsPut all_keys k old_keys keys × IsPut all_ends e old_ends ends × IsPut all_values v old_values values
    × (status ≡ status_if (k && e && v))

-- What a listing of the pairs comes to: they are given, or an allocation failed, and nothing is written.
abbrev pub IsListed : Pairs → ℕ → List ℕ → List ℕ → List ℕ → List ℕ → List ℕ → List ℕ → ℕ → ℕ → ℕ → ℕ → Type 0
IsListed pairs status old_keys keys old_ends ends old_values values old_key_bytes key_bytes old_count count =
    IsGiven (joined pairs) (ends_from 0 pairs) (values_of pairs) status old_keys keys old_ends ends old_values values key_bytes count
    ⊎ ((status ≡ status_of OutOfMemory) × (keys ≡ old_keys) × (ends ≡ old_ends) × (values ≡ old_values)
    × (key_bytes ≡ old_key_bytes) × (count ≡ old_count))

-- the pairs that a listing has left: those after the last key that it gave if it continues, and else all
abbrev pub left_of : Kind → Bool → List ℕ → Pairs → Pairs
left_of kind goes_on last pairs = if goes_on then rest_after kind last pairs else pairs

-- What a call for a part of a listing is given, and what it gives back: rooms for the keys, for where each ends and for
-- the values; how many pairs are written; and the length of the next key.
pub record Part : Type 0 where
  pub keys : List ℕ
  pub ends : List ℕ
  pub values : List ℕ
  pub count : ℕ
  pub next_len : ℕ

abbrev pub part : List ℕ → List ℕ → List ℕ → ℕ → ℕ → Part
part keys ends values count next_len = record { keys = keys; ends = ends; values = values; count = count; next_len = next_len }

-- The pairs are at the front of the three rooms, and the rest of each room stays.
abbrev pub IsWritten : Pairs → Part → Part → Type 0
IsWritten pairs before after = IsPut (joined pairs) true before.keys after.keys
    × IsPut (ends_from 0 pairs) true before.ends after.ends × IsPut (values_of pairs) true before.values after.values

-- for the first pair that is left some room has too few places after those that were written, and the length of its key is told
abbrev pub HasNoRoom : ℕ → ℕ → ℕ → Pairs → Pairs → ℕ → Type 0
HasNoRoom keys ends values written [] next_len = ⊥
HasNoRoom keys ends values written (p ∷ left) next_len = (next_len ≡ length p.0)
    × ((keys < length (joined written) + length p.0) ⊎ (ends ≤ length written) ⊎ (values ≤ length written))

-- How a part of a listing ends after these pairs: it is done if none is left, and the next key has no length; else the
-- next one has no room, or an allocation failed.
abbrev pub IsEnded : ℕ → Pairs → Pairs → ℕ → Part → Part → Type 0
IsEnded values written left status before after =
    ((status ≡ done) × (left ≡ []) × (after.next_len ≡ 0))
    ⊎ ((status ≡ status_of BufferTooSmall) × HasNoRoom (length before.keys) (length before.ends) values written left after.next_len)
    ⊎ ((status ≡ status_of OutOfMemory) × (after.next_len ≡ before.next_len))

-- What a part of a listing comes to: the first of the pairs are written, as many as are counted.
abbrev pub IsListedSome : Pairs → ℕ → Part → Part → Type 0
IsListedSome pairs status before after =
    (written : Pairs) × (left : Pairs) × (pairs ≡ written ++ left) × (after.count ≡ length written) × IsWritten written before after
    × IsEnded (length before.values) written left status before after
