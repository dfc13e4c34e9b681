-- An index that is open for look-ups.
use Rattle.std.specs.Prelude.{◌≡◌, ℕ, List, length}
use Rattle.std.specs.List.{flat_map}
use Rattle.zerotrie_base.specs.Maps.{Pairs}
use Rattle.zerotrie_index.specs.Layout.{word, IsIndex}
use Rattle.zerotrie_index.specs.declared.reader.Parts.{Parts}

-- these are the parts of the bytes, whatever index they are
abbrev pub HasParts : Parts → List ℕ → Type 0
HasParts parts bytes = (pairs : Pairs) (is : IsIndex pairs bytes) → (parts.seed ≡ is.seed) × (parts.count ≡ length is.buckets)
    × (parts.table.now ≡ flat_map word is.entries) × (parts.pool.now ≡ is.pool)
