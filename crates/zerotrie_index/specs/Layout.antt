-- The bytes of an index, which has the pairs of a map in buckets by the hashes of their keys.
use Rattle.std.specs.Prelude.{◌≡◌, ℕ, ◌+◌, ◌*◌, ◌/◌, ◌%◌, ◌^◌, ◌<◌, ◌≤◌, List, [], ◌∷◌, ◌++◌, length, suc, All}
use Rattle.std.specs.List.{flat_map}
use Rattle.std.specs.Int.{to_le_bytes, w64}
use Rattle.zerotrie_base.specs.Numbers.{BeginsWith}
use Rattle.zerotrie_base.specs.Maps.{Pairs, RepeatsKey}
use Rattle.zerotrie_index.specs.Hash.{hash_of}

-- the eight bytes of a number, the lowest first
unfoldable pub word : ℕ → List ℕ
word n = to_le_bytes w64 n

-- the number of a hash's bucket
abbrev pub place_of : ℕ → ℕ → ℕ
place_of count hash = hash / 2 ^ 32 * count / 2 ^ 32

-- the bit of a hash in the lower half of its bucket's entry
abbrev pub mark_of : ℕ → ℕ → ℕ
mark_of entry hash = entry / 2 ^ (hash % 32) % 2

-- the most pairs that a bucket has
abbrev pub bucket_limit : ℕ
bucket_limit = 16

-- A record is the length of a key, its value as a word, and the key. The bytes are the records of
-- the pairs.
abbrev pub AreRecords : Pairs → List ℕ → Type 0
AreRecords [] bytes = bytes ≡ []
AreRecords (e ∷ pairs) bytes = (middle after : List ℕ) × BeginsWith 32 0 (length e.0) bytes middle
    × (e.1 < 2 ^ 64) × (middle ≡ word e.1 ++ (e.0 ++ after)) × AreRecords pairs after

-- the hash of a key belongs into the bucket of this number, and is marked in its entry
abbrev pub IsAt : ℕ → ℕ → ℕ → ℕ → List ℕ → Type 0
IsAt seed count number entry key = (place_of count (hash_of seed key) ≡ number) × (mark_of entry (hash_of seed key) ≡ 1)

-- The entries of the buckets from this number on, whose records are the bytes of the pool from
-- `start` on. The upper half of an entry is where the records of its bucket start, and one more
-- entry has where the last ones end.
abbrev pub AreBuckets : ℕ → ℕ → ℕ → ℕ → List Pairs → List ℕ → List ℕ → Type 0
AreBuckets seed count number start [] entries pool = (last : ℕ) × (entries ≡ last ∷ []) × (last / 2 ^ 32 ≡ start) × (pool ≡ [])
AreBuckets seed count number start (bucket ∷ buckets) [] pool = ⊥
AreBuckets seed count number start (bucket ∷ buckets) (entry ∷ entries) pool = (records rest : List ℕ)
    × (pool ≡ records ++ rest) × AreRecords bucket records × (entry / 2 ^ 32 ≡ start)
    × All (λ e. IsAt seed count number entry e.0) bucket
    × AreBuckets seed count (suc number) (start + length records) buckets entries rest

-- The bytes are an index of the pairs: a seed, the number of buckets, their entries, and the pool.
pub record IsIndex (pairs : Pairs) (bytes : List ℕ) : Type 0 where
  pub seed : ℕ
  pub buckets : List Pairs
  pub entries : List ℕ
  pub pool : List ℕ
  pub seed_below : seed < 2 ^ 64
  pub some_buckets : 0 < length buckets
  pub few_buckets : length buckets < 2 ^ 32
  pub entries_below : All (λ entry. entry < 2 ^ 64) entries
  pub bytes_are : bytes ≡ word seed ++ (word (length buckets) ++ (flat_map word entries ++ pool))
  pub are_buckets : AreBuckets seed (length buckets) 0 0 buckets entries pool
  pub pairs_are : pairs ≡ flat_map (λ bucket. bucket) buckets
  pub short : All (λ bucket. length bucket ≤ bucket_limit) buckets
  pub distinct : RepeatsKey pairs → ⊥
