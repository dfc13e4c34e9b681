-- The result of a build of an index.
use Rattle.std.specs.Prelude.{◌≡◌, ◌≢◌, ◌==◌, ℕ, ◌+◌, ◌*◌, ◌%◌, ◌^◌, ◌<◌, ◌≤◌, ◌⊎◌, List, ◌++◌, length, take, max, All, Result, MatchResult, if◌then◌else◌}
use Rattle.std.specs.List.{sum_by, flat_map}
use Rattle.std.specs.List.Sorted.{IsPermutation}
use Rattle.zerotrie_base.specs.Kind.{simple_ascii}
use Rattle.zerotrie_base.specs.Maps.{Pairs, Ascends, RepeatsKey, value_at}
use Rattle.zerotrie_base.specs.Numbers.{spelled}
use Rattle.zerotrie_index.specs.Hash.{golden, hash_of}
use Rattle.zerotrie_index.specs.Layout.{word, place_of, bucket_limit, AreBuckets, IsIndex}
use Rattle.zerotrie_index.specs.declared.error.ZeroIndexBuildError.{ZeroIndexBuildError}
use Rattle.zerotrie_index.specs.declared.error.ZeroIndexBuildError.TheVariants.{Unsorted, DuplicateKey, Crowded, CapacityExceeded, OutOfMemory}

-- the length of a pair's record
abbrev pub record_size : List ℕ × ℕ → ℕ
record_size e = length (spelled 32 0 (length e.0)) + (8 + length e.0)

-- the length of the records of pairs
abbrev pub records_size : Pairs → ℕ
records_size pairs = sum_by record_size pairs

-- The table has grown by the entries of this many buckets, which have the pairs, and one more
-- entry. Their records are the pool.
pub record AreWritten (seed count : ℕ) (pairs : Pairs) (before table pool : List ℕ) : Type 0 where
  pub buckets : List Pairs
  pub entries : List ℕ
  pub many : length buckets ≡ count
  pub entries_below : All (λ entry. entry < 2 ^ 64) entries
  pub table_is : table ≡ before ++ flat_map word entries
  pub are_buckets : AreBuckets seed count 0 0 buckets entries pool
  pub pairs_are : pairs ≡ flat_map (λ bucket. bucket) buckets
  pub short : All (λ bucket. length bucket ≤ bucket_limit) buckets
  pub distinct : All (λ bucket. RepeatsKey bucket → ⊥) buckets

-- the bytes are an index of the pairs in some order
abbrev pub IsIndexOf : Pairs → List ℕ → Type 0
IsIndexOf given bytes = (pairs : Pairs) × IsIndex pairs bytes × IsPermutation given pairs

-- a build takes two buckets for each pair, but one at least
abbrev pub bucket_count : Pairs → ℕ
bucket_count pairs = max (2 * length pairs) 1

-- the bytes begin with the seed, and are as many as an index of the pairs in this many buckets has: the seed, the number
-- of buckets, an entry for each and one more, of eight bytes each, and the records
abbrev pub IsLaidOut : ℕ → ℕ → Pairs → List ℕ → Type 0
IsLaidOut seed count pairs bytes = (take 8 bytes ≡ word seed) × (length bytes ≡ 24 + 8 * count + records_size pairs)

-- how many seeds a build tries: from the first on, each the one before and `golden`
abbrev pub seeds_tried : ℕ
seeds_tried = 8

-- how many of the pairs belong into a bucket under a seed
abbrev pub crowd : ℕ → ℕ → ℕ → Pairs → ℕ
crowd seed count number pairs = sum_by (λ e. if place_of count (hash_of seed e.0) == number then 1 else 0) pairs

-- under a seed, more pairs belong into one of the buckets than it can have
abbrev pub IsCrowded : ℕ → ℕ → Pairs → Type 0
IsCrowded seed count pairs = (number : ℕ) × (bucket_limit < crowd seed count number pairs)

-- what holds of the pairs if an index of them fails, where `Crowd` is what `Crowded` says
abbrev pub CauseWith : Type 0 → Pairs → ZeroIndexBuildError → Type 0
CauseWith Crowd pairs Unsorted = ⊥
CauseWith Crowd pairs DuplicateKey = RepeatsKey pairs
CauseWith Crowd pairs Crowded = Crowd
CauseWith Crowd pairs CapacityExceeded = 2 ^ 32 ≤ records_size pairs
CauseWith Crowd pairs OutOfMemory = Unit {0}

-- what holds of the pairs if a build of their index fails, which tries seeds from the first one on
abbrev pub IndexCause : ℕ → Pairs → ZeroIndexBuildError → Type 0
IndexCause first pairs e = CauseWith ((k : ℕ) → k < seeds_tried → IsCrowded ((first + k * golden) % 2 ^ 64) (bucket_count pairs) pairs) pairs e

-- the bytes are an index of the pairs in the buckets that a build takes, by the first of its seeds that does not crowd them
abbrev pub IsIndexFrom : ℕ → Pairs → List ℕ → Type 0
IsIndexFrom first given bytes = IsIndexOf given bytes
    × (k : ℕ) × (k < seeds_tried) × IsLaidOut ((first + k * golden) % 2 ^ 64) (bucket_count given) given bytes
    × ((j : ℕ) → j < k → IsCrowded ((first + j * golden) % 2 ^ 64) (bucket_count given) given)

-- the result is an index of the pairs, or an error whose cause holds
abbrev pub IsIndexBuild : {B : Type 0} → ℕ → (B → List ℕ) → Pairs → Result B ZeroIndexBuildError → Type 0
IsIndexBuild first bytes given result = MatchResult result (λ b. IsIndexFrom first given (bytes b)) (IndexCause first given)

-- What holds if a build of pairs fails whose keys must ascend: they don't, or they do, and the cause
-- holds of them. Such pairs repeat no key.
abbrev pub SortedCause : ℕ → Pairs → ZeroIndexBuildError → Type 0
SortedCause first given e = ((e ≡ Unsorted) × (Ascends given → ⊥)) ⊎ (Ascends given × (e ≢ DuplicateKey) × IndexCause first given e)

-- the result is an index of the pairs, whose keys ascend, or an error whose cause holds
abbrev pub IsSortedIndexBuild : {B : Type 0} → ℕ → (B → List ℕ) → Pairs → Result B ZeroIndexBuildError → Type 0
IsSortedIndexBuild first bytes given result = MatchResult result (λ b. Ascends given × IsIndexFrom first given (bytes b)) (SortedCause first given)

-- The result of a build of all pairs that an iterator returns. If it is out of memory, the iterator
-- may not have returned them all.
abbrev pub IsIndexBuildOfAll : {B : Type 0} → ((Pairs → Type 0) → Type 0) → ℕ → (B → List ℕ) → Result B ZeroIndexBuildError → Type 0
IsIndexBuildOfAll OfAll first bytes result = MatchResult result (λ b. OfAll (λ pairs. IsIndexFrom first pairs (bytes b)))
    (λ e. (e ≡ OutOfMemory) ⊎ OfAll (λ pairs. IndexCause first pairs e))

-- an error of records that would have this many bytes
abbrev pub IsTooLong : ℕ → ZeroIndexBuildError → Type 0
IsTooLong size e = (e ≡ OutOfMemory) ⊎ ((e ≡ CapacityExceeded) × (2 ^ 32 ≤ size))

-- pairs have the same values in each order, if no key is there twice
abbrev pub AnswersAsGiven : Type 0
AnswersAsGiven = (given pairs : Pairs) → (RepeatsKey pairs → ⊥) → IsPermutation given pairs → (key : List ℕ)
    → value_at simple_ascii pairs key ≡ value_at simple_ascii given key

-- pairs of an index have no key twice, and their records fewer than 2 ^ 32 bytes; under its seed they crowd none of its buckets
abbrev pub IndexExcludesCauses : Type 0
IndexExcludesCauses = (given : Pairs) (bytes : List ℕ) → IsIndexOf given bytes → (RepeatsKey given → ⊥) × (records_size given < 2 ^ 32)
    × ((seed count : ℕ) → seed < 2 ^ 64 → IsLaidOut seed count given bytes → IsCrowded seed count given → ⊥)
