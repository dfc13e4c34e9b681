-- What a build has written.
use Rattle.std.specs.Prelude.{◌≡◌, ◌==◌, ◌⊎◌, ℕ, ◌+◌, ◌-◌, ◌*◌, ◌/◌, ◌%◌, ◌^◌, ◌<◌, ◌≤◌, [], ◌∷◌, ◌++◌, List, length, get_or, take, drop, All, zero, suc, Result, Ok, Err, MatchResult, if◌then◌else◌}
use Rattle.std.specs.List.{flat_map, sum_by}
use Rattle.std.specs.List.Sorted.{IsPermutation, IsNonDecreasingBy}
use Rattle.std.proofs.lemmas.List.Sorted.{sum_by-IsPermutation}
use Rattle.std.proofs.Common.{refl, inl, inr, bit_or, ap, sym, ◌∙◌, arith, subst, length-append}
use Rattle.std.proofs.lemmas.List.{append_assoc, append-nil, map-append, drop_more, drop_all, length-drop, length-map, take-append-drop, take_all}
use Rattle.std.proofs.lemmas.List.Elements.{All-push, All-take, All-drop, All-more, All-weaker}
use Rattle.std.proofs.lemmas.List.Sums.{sum_by-cons, sum_by-append}
use Rattle.std.proofs.lemmas.Bool.{eq-eqb, cases_lt}
use Rattle.std.proofs.lemmas.Nat.Bits.{bit_at_or, bit_at-lt}
use Rattle.std.proofs.Math.Nat.{mul-le-mul_right}
use Rattle.std.proofs.Math.Seq.{take-add, take-append_seam}
use Rattle.std.specs.Int.{bit_at}
use Rattle.std.proofs.lemmas.List.Concat.{flat_map-append, flat_map-cons}
use Rattle.zerotrie_base.specs.Maps.{Pairs, Ascends, RepeatsKey}
use Rattle.zerotrie_base.proofs.CallerLemmas.{spelling_is, ascends_apart}
use Rattle.zerotrie_index.specs.Hash.{hash_of}
use Rattle.zerotrie_index.specs.Layout.{word, place_of, mark_of, bucket_limit, AreRecords, IsAt, AreBuckets, IsIndex}
use Rattle.zerotrie_index.specs.Hashed.{hashed_pairs, IsHashed, Rises, IsRecord}
use Rattle.zerotrie_index.specs.Built.{record_size, records_size, IsTooLong, crowd, IsCrowded, CauseWith, IndexCause, AreWritten, IsIndexOf, IsLaidOut, IsIndexFrom, IsIndexBuild, IsSortedIndexBuild, IsIndexBuildOfAll}
use Rattle.zerotrie_index.specs.declared.error.ZeroIndexBuildError.{ZeroIndexBuildError}
use Rattle.zerotrie_index.specs.declared.error.ZeroIndexBuildError.TheVariants.{Unsorted, DuplicateKey, Crowded, CapacityExceeded, OutOfMemory}
use Rattle.zerotrie_index.specs.declared.builder.Hashed.{Hashed}
use Rattle.zerotrie_index.proofs.BucketLemmas.{place_below}
use Rattle.zerotrie_index.proofs.WordLemmas.{length-word}
use Rattle.zerotrie_index.proofs.PermutedLemmas.{repeats_permuted}
use Rattle.zerotrie_index.proofs.RepeatLemmas.{distinct_all, repeats_part}

-- a record and what follows it
pub record_first : (key : List ℕ) (value : ℕ) (written : List ℕ) (pairs : Pairs) (after : List ℕ) → IsRecord key value written → AreRecords pairs after → AreRecords ((key, value) ∷ pairs) (written ++ after)
record_first key value written pairs after r are = (
  word value ++ (key ++ after),
  after,
  record { spelling = r.0; spells = r.1; bytes_are = ap (λ x. x ++ after) r.3 ∙ append_assoc r.0 (word value ++ key) after ∙ ap (λ x. r.0 ++ x) (append_assoc (word value) key after) },
  r.2,
  refl,
  are,
)

-- the length of a record
pub length-record : (key : List ℕ) (value : ℕ) (written : List ℕ) → IsRecord key value written → length written ≡ record_size (key, value)
length-record key value written r =
    ap length r.3 ∙ length-append r.0 (word value ++ key) ∙ ap (λ n. length r.0 + n) (length-append (word value) key ∙ ap (λ n. n + length key) (length-word value))
    ∙ ap (λ x. length x + (8 + length key)) (spelling_is (record { latent_value = 32; metadata = 0 }) (length key) r.0 (inr refl) r.1)

-- the length of records
pub length-records : (pairs : Pairs) (bytes : List ℕ) → AreRecords pairs bytes → length bytes ≡ records_size pairs
length-records [] bytes h = ap length h
length-records (e ∷ pairs) bytes h =
    let a = ap length h.2.bytes_are ∙ length-append h.2.spelling h.0 in
    let b = ap length h.4 ∙ length-append (word e.1) (e.0 ++ h.1) in
    let w = length-word e.1 in
    let c = length-append e.0 h.1 in
    let own = ap length (spelling_is (record { latent_value = 32; metadata = 0 }) (length e.0) h.2.spelling (inr refl) h.2.spells) in
    let rest = length-records pairs h.1 h.5 in
    let whole = sum_by-cons record_size e pairs in
    omega arith

-- what stands where no pair is
abbrev pub unset : Hashed
unset = record { hash = 0; key = record { ref_ptr = (0, 0); now = [] }; value = 0 }

-- The entries and records of the first buckets: whatever follows, they are in front of it.
pub record Filled (seed count number : ℕ) (done : Pairs) (before table pool : List ℕ) : Type 0 where
  pub buckets : List Pairs
  pub entries : List ℕ
  pub many : length buckets ≡ number
  pub below : All (λ entry. entry < 2 ^ 64) entries
  pub table_is : table ≡ before ++ flat_map word entries
  pub pairs_are : done ≡ flat_map (λ bucket. bucket) buckets
  pub short : All (λ bucket. length bucket ≤ bucket_limit) buckets
  pub distinct : All (λ bucket. RepeatsKey bucket → ⊥) buckets
  pub onward : (bs : List Pairs) (es ps : List ℕ) → AreBuckets seed count number (length pool) bs es ps → AreBuckets seed count 0 0 (buckets ++ bs) (entries ++ es) (pool ++ ps)

pub filled_none : (seed count : ℕ) (before : List ℕ) → Filled seed count 0 [] before before []
filled_none seed count before = record {
  buckets = [];
  entries = [];
  many = refl;
  below = λ k d inside. absurd (omega arith);
  table_is = sym (append-nil before);
  pairs_are = refl;
  short = λ k d inside. absurd (omega arith);
  distinct = λ k d inside. absurd (omega arith);
  onward = λ bs es ps h. h;
}

-- one more bucket
pub filled_more : (seed count number : ℕ) (done : Pairs) (before table pool : List ℕ) → Filled seed count number done before table pool
    → (bucket : Pairs) (records : List ℕ) (entry : ℕ) → entry < 2 ^ 64 → AreRecords bucket records → entry / 2 ^ 32 ≡ length pool → All (λ e. IsAt seed count number entry e.0) bucket
    → length bucket ≤ bucket_limit → (RepeatsKey bucket → ⊥)
    → Filled seed count (number + 1) (done ++ bucket) before (table ++ word entry) (pool ++ records)
filled_more seed count number done before table pool f bucket records entry small are start at few apart = record {
  buckets = f.buckets ++ bucket ∷ [];
  entries = f.entries ++ entry ∷ [];
  many = length-append f.buckets (bucket ∷ []) ∙ ap (λ n. n + 1) f.many;
  below = All-push (λ e. e < 2 ^ 64) f.entries entry f.below small;
  table_is = ap (λ x. x ++ word entry) f.table_is ∙ append_assoc before (flat_map word f.entries) (word entry)
      ∙ ap (λ x. before ++ x) (sym (flat_map-append word f.entries (entry ∷ []) ∙ ap (λ x. flat_map word f.entries ++ x) (append-nil (word entry))));
  pairs_are = ap (λ x. x ++ bucket) f.pairs_are ∙ sym (flat_map-append (λ b. b) f.buckets (bucket ∷ []) ∙ ap (λ x. flat_map (λ b. b) f.buckets ++ x) (append-nil bucket));
  short = All-push (λ b. length b ≤ bucket_limit) f.buckets bucket f.short few;
  distinct = All-push (λ b. RepeatsKey b → ⊥) f.buckets bucket f.distinct apart;
  onward = λ bs es ps h.
      let next : AreBuckets seed count (suc number) (length pool + length records) bs es ps =
      subst (λ n. AreBuckets seed count n (length pool + length records) bs es ps) (let e : number + 1 ≡ suc number = omega arith in e)
      (subst (λ n. AreBuckets seed count (number + 1) n bs es ps) (length-append pool records) h) in
      let whole = f.onward (bucket ∷ bs) (entry ∷ es) (records ++ ps) (records, ps, refl, are, start, at, next) in
      subst (λ x. AreBuckets seed count 0 0 ((f.buckets ++ bucket ∷ []) ++ bs) ((f.entries ++ entry ∷ []) ++ es) x) (sym (append_assoc pool records ps))
      (subst (λ x. AreBuckets seed count 0 0 ((f.buckets ++ bucket ∷ []) ++ bs) x (pool ++ (records ++ ps))) (sym (append_assoc f.entries (entry ∷ []) es))
      (subst (λ x. AreBuckets seed count 0 0 x (f.entries ++ entry ∷ es) (pool ++ (records ++ ps))) (sym (append_assoc f.buckets (bucket ∷ []) bs)) whole));
}

-- all buckets, and one more entry
pub filled_all : (seed count : ℕ) (done : Pairs) (before table pool : List ℕ) → Filled seed count count done before table pool
    → (last : ℕ) → last < 2 ^ 64 → last / 2 ^ 32 ≡ length pool → AreWritten seed count done before (table ++ word last) pool
filled_all seed count done before table pool f last small start = record {
  buckets = f.buckets;
  entries = f.entries ++ last ∷ [];
  many = f.many;
  entries_below = All-push (λ e. e < 2 ^ 64) f.entries last f.below small;
  table_is = ap (λ x. x ++ word last) f.table_is ∙ append_assoc before (flat_map word f.entries) (word last)
      ∙ ap (λ x. before ++ x) (sym (flat_map-append word f.entries (last ∷ []) ∙ ap (λ x. flat_map word f.entries ++ x) (append-nil (word last))));
  are_buckets =
      let whole = f.onward [] (last ∷ []) [] (last, refl, start, refl) in
      subst (λ x. AreBuckets seed count 0 0 f.buckets (f.entries ++ last ∷ []) x) (append-nil pool)
      (subst (λ x. AreBuckets seed count 0 0 x (f.entries ++ last ∷ []) (pool ++ [])) (append-nil f.buckets) whole);
  pairs_are = f.pairs_are;
  short = f.short;
  distinct = f.distinct;
}

-- a higher hash has no lower bucket
pub place_rises : (count a b : ℕ) → a ≤ b → place_of count a ≤ place_of count b
place_rises count a b up =
    let half : a / 2 ^ 32 ≤ b / 2 ^ 32 = omega arith in
    let times : a / 2 ^ 32 * count ≤ b / 2 ^ 32 * count = mul-le-mul_right count half in
    omega arith

-- what lies behind the pairs of a bucket is of later buckets
pub passed : (count number len : ℕ) (hashed : List Hashed) → Rises hashed → All (λ h. number ≤ place_of count h.hash) hashed
    → (d : Hashed) → len < length hashed → (place_of count (get_or hashed len d).hash ≡ number → ⊥) → All (λ h. number < place_of count h.hash) (drop len hashed)
passed count number len [] up all d inside other = absurd (omega arith)
passed count number zero (h ∷ hashed) up all d inside other = λ k e within. later k e within
  where
    first : number < place_of count h.hash
    first = let least = all zero h (omega arith) in omega (arith, other)

    later : (k : ℕ) (e : Hashed) → k < suc (length hashed) → number < place_of count (get_or (h ∷ hashed) k e).hash
    later zero e within = first
    later (suc k) e within = let more = place_rises count h.hash (get_or hashed k e).hash (up.0 k e (omega arith)) in omega (arith, first)
passed count number (suc len) (h ∷ hashed) up all d inside other = passed count number len hashed up.1 (λ k e within. all (suc k) e (omega arith)) d (omega arith) other

-- hashes rise in the rest too
pub rises_drop : (n : ℕ) (hashed : List Hashed) → Rises hashed → Rises (drop n hashed)
rises_drop zero hashed up = up
rises_drop (suc n) [] up = up
rises_drop (suc n) (h ∷ hashed) up = rises_drop n hashed up.1

-- what follows the records so far
abbrev pub Onward : List Hashed → ℕ → List ℕ → Type 0
Onward bucket i written = (rest : List ℕ) → AreRecords (hashed_pairs (drop i bucket)) rest → AreRecords (hashed_pairs bucket) (written ++ rest)

-- one more record
pub onward_more : (bucket : List Hashed) (i : ℕ) (d : Hashed) → i < length bucket → (written next : List ℕ)
    → IsRecord (get_or bucket i d).key.now (get_or bucket i d).value next → Onward bucket i written → Onward bucket (i + 1) (written ++ next)
onward_more bucket i d inside written next r onward rest are =
    subst (AreRecords (hashed_pairs bucket)) (sym (append_assoc written next rest))
    (onward (next ++ rest) (subst (λ x. AreRecords (hashed_pairs x) (next ++ rest)) (sym (drop_more bucket i d inside))
    (record_first (get_or bucket i d).key.now (get_or bucket i d).value next (hashed_pairs (drop (i + 1) bucket)) rest r are)))

pub onward_all : (bucket : List Hashed) (i : ℕ) (written : List ℕ) → length bucket ≤ i → Onward bucket i written → AreRecords (hashed_pairs bucket) written
onward_all bucket i written past onward = subst (AreRecords (hashed_pairs bucket)) (append-nil written)
    (onward [] (subst (λ x. AreRecords (hashed_pairs x) []) (sym (drop_all i bucket past)) refl))

-- the length of the records from one of them on
pub size_more : (bucket : List Hashed) (i : ℕ) (d : Hashed) → i < length bucket
    → records_size (hashed_pairs (drop i bucket)) ≡ record_size ((get_or bucket i d).key.now, (get_or bucket i d).value) + records_size (hashed_pairs (drop (i + 1) bucket))
size_more bucket i d inside = ap (λ x. records_size (hashed_pairs x)) (drop_more bucket i d inside)
    ∙ sum_by-cons record_size ((get_or bucket i d).key.now, (get_or bucket i d).value) (hashed_pairs (drop (i + 1) bucket))

-- there are as many pairs as hashes
pub length-pairs : (hashed : List Hashed) → length (hashed_pairs hashed) ≡ length hashed
length-pairs hashed = length-map hashed _

-- the pairs of one more bucket
pub pairs_more : (hashed : List Hashed) (at len : ℕ) → hashed_pairs (take (at + len) hashed) ≡ hashed_pairs (take at hashed) ++ hashed_pairs (take len (drop at hashed))
pairs_more hashed at len = ap hashed_pairs (take-add at len hashed) ∙ map-append {B = List ℕ × ℕ} (λ h. (h.key.now, h.value)) (take at hashed) (take len (drop at hashed))

pub pairs_size : (hashed : List Hashed) (at len : ℕ)
    → records_size (hashed_pairs (take (at + len) hashed)) ≡ records_size (hashed_pairs (take at hashed)) + records_size (hashed_pairs (take len (drop at hashed)))
pairs_size hashed at len = ap records_size (pairs_more hashed at len) ∙ sum_by-append record_size (hashed_pairs (take at hashed)) (hashed_pairs (take len (drop at hashed)))

pub size_within : (hashed : List Hashed) (n : ℕ) → records_size (hashed_pairs (take n hashed)) ≤ records_size (hashed_pairs hashed)
size_within hashed n =
    let whole : records_size (hashed_pairs hashed) ≡ records_size (hashed_pairs (take n hashed)) + records_size (hashed_pairs (drop n hashed)) =
    ap (λ x. records_size (hashed_pairs x)) (sym (take-append-drop n hashed)) ∙ ap records_size (map-append {B = List ℕ × ℕ} (λ h. (h.key.now, h.value)) (take n hashed) (drop n hashed))
    ∙ sum_by-append record_size (hashed_pairs (take n hashed)) (hashed_pairs (drop n hashed)) in
    omega arith

-- all keys of a bucket are at its number
pub all_at : (seed count number entry : ℕ) (bucket : List Hashed) → All (IsHashed seed) bucket → All (λ h. place_of count h.hash ≡ number) bucket
    → All (λ h. mark_of entry h.hash ≡ 1) bucket → All (λ e. IsAt seed count number entry e.0) (hashed_pairs bucket)
all_at seed count number entry [] hashes here marked k d inside = absurd (omega arith)
all_at seed count number entry (h ∷ bucket) hashes here marked zero d inside =
    let is = (hashes zero h (omega arith)).0 in
    (ap (place_of count) (sym is) ∙ here zero h (omega arith), ap (mark_of entry) (sym is) ∙ marked zero h (omega arith))
all_at seed count number entry (h ∷ bucket) hashes here marked (suc k) d inside =
    all_at seed count number entry bucket (λ i e l. hashes (suc i) e (omega arith)) (λ i e l. here (suc i) e (omega arith)) (λ i e l. marked (suc i) e (omega arith)) k d (omega arith)

-- no pairs are left behind the last bucket
pub none_left : (seed count at : ℕ) (hashed : List Hashed) → 0 < count → All (IsHashed seed) hashed → All (λ h. count ≤ place_of count h.hash) (drop at hashed) → take at hashed ≡ hashed
none_left seed count at hashed some hashes later = take_all at hashed (long (drop at hashed) (length-drop at hashed) (All-drop (IsHashed seed) at hashed hashes) later)
  where
    long : (left : List Hashed) → length left ≡ length hashed - at → All (IsHashed seed) left → All (λ h. count ≤ place_of count h.hash) left → length hashed ≤ at
    long [] none all high = omega arith
    long (h ∷ left) more all high =
        let least = high zero h (omega arith) in
        let below = place_below count h.hash (all zero h (omega arith)).1 some in
        absurd (omega arith)

-- a mark stays, and one more is made
pub mark_stays : (marks more j : ℕ) → bit_at marks j ≡ 1 → bit_at (bit_or marks more) j ≡ 1
mark_stays marks more j one = let or = bit_at_or marks more j in let below = bit_at-lt more j in omega arith

pub marked_more : (bucket : List Hashed) (marks more i : ℕ) (d : Hashed) → i < length bucket → All (λ h. mark_of marks h.hash ≡ 1) (take i bucket)
    → bit_at (bit_or marks more) ((get_or bucket i d).hash % 32) ≡ 1 → All (λ h. mark_of (bit_or marks more) h.hash ≡ 1) (take (i + 1) bucket)
marked_more bucket marks more i d inside all one =
    All-more (λ h. mark_of (bit_or marks more) h.hash ≡ 1) bucket i d inside
    (All-weaker (λ h. mark_of marks h.hash ≡ 1) (λ h. mark_of (bit_or marks more) h.hash ≡ 1) (λ h is. mark_stays marks more (h.hash % 32) is) (take i bucket) all) one

-- a longer whole is too long too
pub too_long : (a b : ℕ) (e : ZeroIndexBuildError) → a ≤ b → IsTooLong a e → IsTooLong b e
too_long a b e more h = elim h [
  | inl memory ↦ inl memory
  | inr long ↦ let l = long.1 in inr (long.0, omega arith)
]

-- the seed, the count, what was written, and the pool
index_of : (seed count : ℕ) (pairs : Pairs) (table pool : List ℕ) → AreWritten seed count pairs (word seed ++ word count) table pool
    → seed < 2 ^ 64 → 0 < count → count < 2 ^ 32 → IsIndex pairs (table ++ pool)
index_of seed count pairs table pool w small some few = record {
  seed = seed;
  buckets = w.buckets;
  entries = w.entries;
  pool = pool;
  seed_below = small;
  some_buckets = let many = w.many in omega arith;
  few_buckets = let many = w.many in omega arith;
  entries_below = w.entries_below;
  bytes_are = ap (λ t. t ++ pool) w.table_is ∙ append_assoc (word seed ++ word count) (flat_map word w.entries) pool ∙ append_assoc (word seed) (word count) (flat_map word w.entries ++ pool)
      ∙ ap (λ n. word seed ++ (word n ++ (flat_map word w.entries ++ pool))) (sym w.many);
  are_buckets = subst (λ n. AreBuckets seed n 0 0 w.buckets w.entries pool) (sym w.many) w.are_buckets;
  pairs_are = w.pairs_are;
  short = w.short;
  distinct = λ twice. distinct_all seed count 0 0 w.buckets w.entries pool w.are_buckets w.distinct (subst RepeatsKey w.pairs_are twice);
}

-- the words of entries
length-words : (entries : List ℕ) → length (flat_map word entries) ≡ 8 * length entries
length-words [] = refl
length-words (entry ∷ entries) =
    let whole = ap length (flat_map-cons word entry entries) ∙ length-append (word entry) (flat_map word entries) in
    let own = length-word entry in
    let rest = length-words entries in
    omega arith

-- buckets have an entry each, and one more, and the records of their pairs
buckets_size : (seed count number start : ℕ) (buckets : List Pairs) (entries pool : List ℕ) → AreBuckets seed count number start buckets entries pool
    → (length entries ≡ 1 + length buckets) × (length pool ≡ records_size (flat_map (λ b. b) buckets))
buckets_size seed count number start [] entries pool h = (ap length h.1, ap length h.3)
buckets_size seed count number start (bucket ∷ buckets) [] pool h = absurd h
buckets_size seed count number start (bucket ∷ buckets) (entry ∷ entries) pool h =
    let rest = buckets_size seed count (suc number) (start + length h.0) buckets entries h.1 h.6 in
    let whole = ap length h.2 ∙ length-append h.0 h.1 in
    let own = length-records bucket h.0 h.3 in
    let both = ap records_size (flat_map-cons (λ b. b) bucket buckets) ∙ sum_by-append record_size bucket (flat_map (λ b. b) buckets) in
    let many = rest.0 in
    let long = rest.1 in
    ((let one : length (entry ∷ entries) ≡ 1 + length (bucket ∷ buckets) = omega arith in one), whole ∙ ap (λ n. n + length h.1) own ∙ ap (λ n. records_size bucket + n) long ∙ sym both)

-- where an index has its seed, and how long it is
pub laid_out : (pairs : Pairs) (bytes : List ℕ) (i : IsIndex pairs bytes) → IsLaidOut i.seed (length i.buckets) pairs bytes
laid_out pairs bytes i = (
  ap (take 8) i.bytes_are ∙ ap (λ n. take n (word i.seed ++ behind)) (sym (length-word i.seed)) ∙ take-append_seam (word i.seed) behind,
  (let whole = ap length i.bytes_are ∙ length-append (word i.seed) behind in
      let second = length-append (word (length i.buckets)) (flat_map word i.entries ++ i.pool) in
      let third = length-append (flat_map word i.entries) i.pool in
      let seed = length-word i.seed in
      let count = length-word (length i.buckets) in
      let words = length-words i.entries in
      let size = buckets_size i.seed (length i.buckets) 0 0 i.buckets i.entries i.pool i.are_buckets in
      let many = size.0 in
      let long = size.1 in
      let all = ap records_size i.pairs_are in
      omega arith),
)
  where
    behind : List ℕ
    behind = word (length i.buckets) ++ (flat_map word i.entries ++ i.pool)

-- what was written is an index by the seed, in so many buckets
pub index_laid_out : (seed count : ℕ) (pairs : Pairs) (table pool : List ℕ) → AreWritten seed count pairs (word seed ++ word count) table pool
    → seed < 2 ^ 64 → 0 < count → count < 2 ^ 32 → IsIndex pairs (table ++ pool) × IsLaidOut seed count pairs (table ++ pool)
unfolding index_of
index_laid_out seed count pairs table pool w small some few =
    let i = index_of seed count pairs table pool w small some few in
    (i, subst (λ n. IsLaidOut seed n pairs (table ++ pool)) w.many (laid_out pairs (table ++ pool) i))

-- hashes in order rise
pub rises_sorted : (hashed : List Hashed) → IsNonDecreasingBy (λ h. h.hash) hashed → Rises hashed
rises_sorted [] up = tt
rises_sorted (h ∷ hashed) up = (λ k d inside. up 0 (suc k) d (omega arith) (omega arith), rises_sorted hashed (λ i j d le inside. up (suc i) (suc j) d (omega arith) (omega arith)))

-- a record has more bytes than two
pub not_fewer : (pairs : Pairs) → 2 * length pairs ≤ records_size pairs
not_fewer [] = omega arith
not_fewer (e ∷ pairs) = let whole = sum_by-cons record_size e pairs in let rest = not_fewer pairs in omega arith

-- the hashes of a bucket's pairs put all of them into it
pub crowd_all : (seed count number : ℕ) (bucket : List Hashed) → All (IsHashed seed) bucket → All (λ h. place_of count h.hash ≡ number) bucket
    → crowd seed count number (hashed_pairs bucket) ≡ length bucket
crowd_all seed count number [] hashes here = refl
crowd_all seed count number (h ∷ bucket) hashes here =
    let one = eq-eqb _ _ (ap (place_of count) (sym (hashes zero h (omega arith)).0) ∙ here zero h (omega arith)) in
    let more = rw one at (sum_by-cons (λ e. if place_of count (hash_of seed e.0) == number then 1 else 0) (h.key.now, h.value) (hashed_pairs bucket)) in
    let rest = crowd_all seed count number bucket (λ i e l. hashes (suc i) e (omega arith)) (λ i e l. here (suc i) e (omega arith)) in
    omega arith

sum_front : (f : List ℕ × ℕ → ℕ) (n : ℕ) (hashed : List Hashed) → sum_by f (hashed_pairs hashed) ≡ sum_by f (hashed_pairs (take n hashed)) + sum_by f (hashed_pairs (drop n hashed))
sum_front f n hashed = ap (λ x. sum_by f (hashed_pairs x)) (sym (take-append-drop n hashed)) ∙ ap (sum_by f) (map-append {B = List ℕ × ℕ} (λ h. (h.key.now, h.value)) (take n hashed) (drop n hashed))
    ∙ sum_by-append f (hashed_pairs (take n hashed)) (hashed_pairs (drop n hashed))

sum_part : (f : List ℕ × ℕ → ℕ) (at len : ℕ) (hashed : List Hashed) → sum_by f (hashed_pairs (take len (drop at hashed))) ≤ sum_by f (hashed_pairs hashed)
sum_part f at len hashed = let whole = sum_front f at hashed in let back = sum_front f len (drop at hashed) in omega arith

pub crowded : (seed count number at len : ℕ) (hashed : List Hashed) → All (IsHashed seed) hashed → All (λ h. place_of count h.hash ≡ number) (take len (drop at hashed))
    → bucket_limit < length (take len (drop at hashed)) → IsCrowded seed count (hashed_pairs hashed)
crowded seed count number at len hashed hashes here many =
    let own = crowd_all seed count number (take len (drop at hashed)) (All-take (IsHashed seed) len (drop at hashed) (All-drop (IsHashed seed) at hashed hashes)) here in
    let part : crowd seed count number (hashed_pairs (take len (drop at hashed))) ≤ crowd seed count number (hashed_pairs hashed) = sum_part _ at len hashed in
    (number, omega arith)

-- the error of a bucket is one of the whole
pub bucket_cause : (seed count number at len : ℕ) (hashed : List Hashed) (e : ZeroIndexBuildError) → All (IsHashed seed) hashed → All (λ h. place_of count h.hash ≡ number) (take len (drop at hashed))
    → ((e ≡ DuplicateKey) × RepeatsKey (hashed_pairs (take len (drop at hashed)))) ⊎ ((e ≡ Crowded) × (bucket_limit < length (take len (drop at hashed))))
    → CauseWith (IsCrowded seed count (hashed_pairs hashed)) (hashed_pairs hashed) e
bucket_cause seed count number at len hashed e hashes here err = elim err [
  | inl twice ↦ subst (CauseWith (IsCrowded seed count (hashed_pairs hashed)) (hashed_pairs hashed)) (sym twice.0) (repeats_part at len hashed twice.1)
  | inr many ↦ subst (CauseWith (IsCrowded seed count (hashed_pairs hashed)) (hashed_pairs hashed)) (sym many.0) (crowded seed count number at len hashed hashes here many.1)
]

pub long_cause : (Crowd : Type 0) (pairs : Pairs) (size : ℕ) (e : ZeroIndexBuildError) → size ≤ records_size pairs → IsTooLong size e → CauseWith Crowd pairs e
long_cause Crowd pairs size e less err = elim err [
  | inl memory ↦ subst (CauseWith Crowd pairs) (sym memory) tt
  | inr long ↦ let l = long.1 in subst (CauseWith Crowd pairs) (sym long.0) (let g : 2 ^ 32 ≤ records_size pairs = omega arith in g)
]

-- a cause holds in each order
pub cause_permuted : (seed count : ℕ) (given pairs : Pairs) (e : ZeroIndexBuildError) → IsPermutation given pairs
    → CauseWith (IsCrowded seed count pairs) pairs e → CauseWith (IsCrowded seed count given) given e
cause_permuted seed count given pairs Unsorted permuted h = h
cause_permuted seed count given pairs DuplicateKey permuted h = repeats_permuted given pairs permuted h
cause_permuted seed count given pairs Crowded permuted h =
    let same : crowd seed count h.0 pairs ≡ crowd seed count h.0 given = sum_by-IsPermutation _ given pairs permuted in let many = h.1 in (h.0, omega arith)
cause_permuted seed count given pairs CapacityExceeded permuted h = let same = sum_by-IsPermutation record_size given pairs permuted in omega arith
cause_permuted seed count given pairs OutOfMemory permuted h = h

pub under : {B : Type 0} (bytes : B → List ℕ) (seed count : ℕ) (given pairs : Pairs) (r : Result B ZeroIndexBuildError) → IsPermutation given pairs
    → MatchResult r (λ b. IsIndex pairs (bytes b) × IsLaidOut seed count pairs (bytes b)) (CauseWith (IsCrowded seed count pairs) pairs)
    → MatchResult r (λ b. IsIndexOf given (bytes b) × IsLaidOut seed count given (bytes b)) (CauseWith (IsCrowded seed count given) given)
under bytes seed count given pairs (Ok b) permuted is =
    let same = sum_by-IsPermutation record_size given pairs permuted in
    let size = is.1.1 in
    ((pairs, is.0, permuted), (is.1.0, omega arith))
under bytes seed count given pairs (Err e) permuted h = cause_permuted seed count given pairs e permuted h

-- one more seed is tried
pub next_tried : (P : ℕ → Type 0) (n : ℕ) → ((k : ℕ) → k < n → P k) → P n → (k : ℕ) → k < n + 1 → P k
next_tried P n before here k below = elim (cases_lt k n) [
  | inl less ↦ before k less
  | inr not_less ↦ let same : n ≡ k = omega arith in subst P same here
]

-- a build of pairs that ascend
pub sorted_build : {B : Type 0} (bytes : B → List ℕ) (first : ℕ) (given : Pairs) (r : Result B ZeroIndexBuildError) → Ascends given
    → IsIndexBuild first bytes given r → IsSortedIndexBuild first bytes given r
sorted_build bytes first given (Ok b) up is = (up, is)
sorted_build bytes first given (Err e) up h = inr (up, λ twice. ascends_apart given up (subst (IndexCause first given) twice h), h)

-- a build of all pairs of an iterator
pub built_all : {B : Type 0} (bytes : B → List ℕ) (first : ℕ) (OfAll : (Pairs → Type 0) → Type 0) (given : Pairs) → ((Fact : Pairs → Type 0) → Fact given → OfAll Fact)
    → (r : Result B ZeroIndexBuildError) → IsIndexBuild first bytes given r → IsIndexBuildOfAll OfAll first bytes r
built_all bytes first OfAll given all (Ok b) is = all (λ pairs. IsIndexFrom first pairs (bytes b)) is
built_all bytes first OfAll given all (Err e) h = inr (all (λ pairs. IndexCause first pairs e) h)

-- the records of buckets end below 2 ^ 32
records_end : (seed count number start : ℕ) (buckets : List Pairs) (entries pool : List ℕ) → AreBuckets seed count number start buckets entries pool
    → All (λ entry. entry < 2 ^ 64) entries → start + records_size (flat_map (λ b. b) buckets) < 2 ^ 32
records_end seed count number start [] entries pool h below =
    let last : h.0 < 2 ^ 64 = subst (λ es. All (λ entry. entry < 2 ^ 64) es) h.1 below 0 h.0 (omega arith) in
    let here = h.2 in
    omega arith
records_end seed count number start (bucket ∷ buckets) [] pool h below = absurd h
records_end seed count number start (bucket ∷ buckets) (entry ∷ entries) pool h below =
    let later = records_end seed count (suc number) (start + length h.0) buckets entries h.1 h.6 (λ k d inside. below (suc k) d (omega arith)) in
    let own = length-records bucket h.0 h.3 in
    let both = ap records_size (flat_map-cons (λ b. b) bucket buckets) ∙ sum_by-append record_size bucket (flat_map (λ b. b) buckets) in
    omega arith

-- an index of pairs in some order has room for their records
pub index_short : (given : Pairs) (bytes : List ℕ) → IsIndexOf given bytes → records_size given < 2 ^ 32
index_short given bytes h =
    let i = h.1 in
    let end = records_end i.seed (length i.buckets) 0 0 i.buckets i.entries i.pool i.are_buckets i.entries_below in
    let all = ap records_size i.pairs_are in
    let same = sum_by-IsPermutation record_size given h.0 h.2 in
    omega arith
