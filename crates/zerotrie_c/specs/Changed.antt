-- What changed from one trie to another, as C is told of it.
use Rattle.std.specs.Prelude.{◌≡◌, ℕ, ◌+◌, ◌<◌, ◌≤◌, ◌⊎◌, true, List, [], ◌∷◌, ◌++◌, length}
use Rattle.std.specs.declared.ops.Bound.{Bound}
use Rattle.zerotrie_core.specs.Kind.{Kind}
use Rattle.zerotrie_core.specs.Maps.{Map}
use Rattle.zerotrie_core.specs.Texts.{Means}
use Rattle.zerotrie_core.specs.WellFormed.{IsWellFormed}
use Rattle.zerotrie_core.specs.declared.ZeroTrieBuildError.TheVariants.{BufferTooSmall, OutOfMemory}
use Rattle.zerotrie_search.specs.Sorted.{within}
use Rattle.zerotrie_sets.specs.Changes.{changes}
use Rattle.zerotrie_sets.specs.Merges.{Entries}
use Rattle.zerotrie_sets.specs.declared.diff.Change.{Change}
use Rattle.zerotrie_sets.specs.declared.diff.Change.TheVariants as change
use Rattle.zerotrie_c.specs.Listed.{joined, IsPut}
use Rattle.zerotrie_c.specs.Sets.{malformed_trie}
use Rattle.zerotrie_c.specs.Statuses.{done, status_of}
use Rattle.zerotrie_c.specs.declared.diffs.Changed.{Changed}

-- how the key that ends here changed: it was added, or removed, or has another value
abbrev pub told_change : ℕ → Change → Changed
told_change key_end (change.Added value) = record { key_end = key_end; before = 0; after = value; how = 0 }
told_change key_end (change.Removed value) = record { key_end = key_end; before = value; after = 0; how = 1 }
told_change key_end (change.Changed first second) = record { key_end = key_end; before = first; after = second; how = 2 }

-- how each key changed, if the first begins here
abbrev pub told_from : ℕ → Entries Change → List Changed
told_from n [] = []
told_from n (r ∷ rows) = told_change (n + length r.0) r.1 ∷ told_from (n + length r.0) rows

-- for the first change that is left some room has too few places after those that were written, and the length of its key is told
abbrev pub HasNoPlace : ℕ → ℕ → Entries Change → Entries Change → ℕ → Type 0
HasNoPlace keys places written [] next_len = ⊥
HasNoPlace keys places written (r ∷ left) next_len = (next_len ≡ length r.0)
    × ((keys < length (joined written) + length r.0) ⊎ (places ≤ length written))

-- What a part of the changes comes to: the first of them are written, as many as are counted. It is done if none is
-- left, and the next key has no length; else the next one has no room, or an allocation failed.
abbrev pub IsDiffListed : Entries Change → ℕ → List ℕ → List ℕ → List Changed → List Changed → ℕ → ℕ → ℕ → Type 0
IsDiffListed rows status old_keys keys old_places places count old_next_len next_len =
    (written : Entries Change) × (left : Entries Change) × (rows ≡ written ++ left) × (count ≡ length written)
    × IsPut (joined written) true old_keys keys × IsPut (told_from 0 written) true old_places places
    × (((status ≡ done) × (left ≡ []) × (next_len ≡ 0))
    ⊎ ((status ≡ status_of BufferTooSmall) × HasNoPlace (length old_keys) (length old_places) written left next_len)
    ⊎ ((status ≡ status_of OutOfMemory) × (next_len ≡ old_next_len)))

-- What a call comes to: a part of the changes between two bounds, from the map of the first trie to that of the second;
-- or the bytes of one are no trie, or an allocation failed, and nothing is written.
abbrev pub IsDiffTold : Kind → List ℕ → Kind → List ℕ → Bound (List ℕ) → Bound (List ℕ) → ℕ → List ℕ → List ℕ → List Changed → List Changed
    → ℕ → ℕ → ℕ → ℕ → Type 0
IsDiffTold first_kind first second_kind second from to status old_keys keys old_places places old_count count old_next_len next_len =
    ((m : Map) × (n : Map) × Means first_kind first m × Means second_kind second n
    × IsDiffListed (changes (within from to m) (within from to n)) status old_keys keys old_places places count old_next_len next_len)
    ⊎ ((((status ≡ malformed_trie) × ((IsWellFormed first_kind first → ⊥) ⊎ (IsWellFormed second_kind second → ⊥)))
    ⊎ (status ≡ status_of OutOfMemory))
    × (keys ≡ old_keys) × (places ≡ old_places) × (count ≡ old_count) × (next_len ≡ old_next_len))
