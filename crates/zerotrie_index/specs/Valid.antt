-- What the validation of an index goes over.
use Rattle.std.specs.Prelude.{◌≡◌, ℕ, ◌+◌, ◌/◌, ◌^◌, ◌<◌, ◌≤◌, List, ◌∷◌, ◌++◌, length, All}
use Rattle.std.specs.List.{flat_map}
use Rattle.zerotrie_base.specs.Maps.{Pairs, RepeatsKey}
use Rattle.zerotrie_index.specs.Layout.{word, bucket_limit, AreRecords, IsAt, AreBuckets}

-- the bytes are the records of a bucket, whose keys are distinct and belong into it
abbrev pub IsBucket : ℕ → ℕ → ℕ → ℕ → Pairs → List ℕ → Type 0
IsBucket seed count number entry bucket records =
    AreRecords bucket records × All (λ e. IsAt seed count number entry e.0) bucket × (RepeatsKey bucket → ⊥)

-- The table, after an entry, and the pool are those of the buckets from this number on.
pub record AreRest (seed count number entry : ℕ) (table pool : List ℕ) : Type 0 where
  pub buckets : List Pairs
  pub entries : List ℕ
  pub many : number + length buckets ≡ count
  pub entries_below : All (λ e. e < 2 ^ 64) entries
  pub table_is : table ≡ flat_map word entries
  pub are_buckets : AreBuckets seed count number (entry / 2 ^ 32) buckets (entry ∷ entries) pool
  pub short : All (λ bucket. length bucket ≤ bucket_limit) buckets
  pub distinct : All (λ bucket. RepeatsKey bucket → ⊥) buckets

-- the table and the pool are those of all buckets
abbrev pub AreAll : ℕ → ℕ → List ℕ → List ℕ → Type 0
AreAll seed count table pool = (entry : ℕ) × (after : List ℕ) × (table ≡ word entry ++ after) × (entry < 2 ^ 64) × (entry / 2 ^ 32 ≡ 0)
    × AreRest seed count 0 entry after pool
