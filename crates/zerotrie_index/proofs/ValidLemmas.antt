-- What makes bytes an index.
use Rattle.std.specs.Prelude.{◌≡◌, ◌==◌, ℕ, ◌+◌, ◌-◌, ◌/◌, ◌^◌, ◌<◌, ◌≤◌, [], ◌∷◌, ◌++◌, List, length, All, Option, Some, None, Bool, true, false, zero, suc}
use Rattle.std.specs.List.{flat_map}
use Rattle.std.specs.Option.{is_some}
use Rattle.std.proofs.Common.{refl, inl, inr, ap, sym, ◌∙◌, arith, subst, drop}
use Rattle.std.proofs.lemmas.Bool.{eqb-true, eq-eqb}
use Rattle.std.proofs.lemmas.List.Concat.{flat_map-cons}
use Rattle.zerotrie_base.specs.Kind.{simple_ascii}
use Rattle.zerotrie_base.specs.Numbers.{BeginsWith}
use Rattle.zerotrie_base.specs.Maps.{Pairs, RepeatsKey, value_at}
use Rattle.zerotrie_index.specs.Layout.{word, bucket_limit, AreRecords, IsAt, AreBuckets, IsIndex}
use Rattle.zerotrie_index.specs.Valid.{IsBucket, AreRest, AreAll}
use Rattle.zerotrie_index.proofs.BucketLemmas.{absent, starts, one_more}
use Rattle.zerotrie_index.proofs.RecordLemmas.{IsFirst}
use Rattle.zerotrie_index.proofs.PermutedLemmas.{Has, has_at}
use Rattle.zerotrie_index.proofs.RepeatLemmas.{has_value, distinct_all, distinct_each}

-- a bucket of at most this many pairs
abbrev pub Fits : ℕ → ℕ → ℕ → ℕ → ℕ → List ℕ → Type 0
Fits seed count number entry left bytes = (bucket : Pairs) × (length bucket ≤ left) × IsBucket seed count number entry bucket bytes

pub is_none : (o : Option ℕ) → is_some o ≡ false → o ≡ None
is_none None h = refl
is_none (Some v) h = absurd (cc)

pub some_not : (o : Option ℕ) → is_some o ≡ true → o ≡ None → ⊥
some_not None h none = absurd (cc)
some_not (Some v) h none = absurd (cc)

-- no bytes
pub empty_is : (xs : List ℕ) (b : Bool) → b ≡ (length xs == 0) → b ≡ true → xs ≡ []
empty_is xs b is true_is = nil xs (eqb-true (length xs) 0 (sym is ∙ true_is))
  where
    nil : (ys : List ℕ) → length ys ≡ 0 → ys ≡ []
    nil [] h = refl
    nil (y ∷ ys) h = absurd (omega arith)

pub is_empty : (xs : List ℕ) (b : Bool) → b ≡ (length xs == 0) → xs ≡ [] → b ≡ true
is_empty xs b is none = is ∙ eq-eqb (length xs) 0 (ap length none)

-- a key that is not there has no value
no_value : (pairs : Pairs) (key : List ℕ) → (Has pairs key → ⊥) → value_at simple_ascii pairs key ≡ None
no_value pairs key none = absent (λ k. k ≡ key → ⊥) pairs key (λ i d inside same. none (subst (Has pairs) same (has_at pairs i d inside))) (λ other. other refl)

-- The first record of a bucket, and the other ones.
pub record Opened (seed count number entry left : ℕ) (own rest : List ℕ) : Type 0 where
  pub others : Pairs
  pub are : AreRecords others rest
  pub some_left : 0 < left
  pub at : IsAt seed count number entry own
  pub apart : value_at simple_ascii others own ≡ None
  pub fits : Fits seed count number entry (left - 1) rest

pub opened : (seed count number entry left : ℕ) (bytes own rest : List ℕ) (v : ℕ) → IsFirst bytes own v rest → (bytes ≡ [] → ⊥)
    → Fits seed count number entry left bytes → Opened seed count number entry left own rest
opened seed count number entry left bytes own rest v first some fits = go fits.0 fits.1 fits.2.0 fits.2.1 fits.2.2
  where
    go : (bucket : Pairs) → length bucket ≤ left → AreRecords bucket bytes → All (λ e. IsAt seed count number entry e.0) bucket → (RepeatsKey bucket → ⊥) → Opened seed count number entry left own rest
    go [] few are at distinct = absurd (some are)
    go (e ∷ others) few are at distinct =
        let r = first e others are in
        record {
          others = others;
          are = r.2;
          some_left = omega arith;
          at = subst (IsAt seed count number entry) (sym r.0) (at zero e (omega arith));
          apart = no_value others own (λ has. distinct (inl (subst (Has others) r.0 has)));
          fits = (others, omega arith, (r.2, λ k d inside. at (suc k) d (omega arith), λ twice. distinct (inr twice)));
        }

-- no record, no bucket
pub not_opened : (seed count number entry left : ℕ) (bytes : List ℕ) → ((e : List ℕ × ℕ) (pairs : Pairs) → AreRecords (e ∷ pairs) bytes → ⊥) → (bytes ≡ [] → ⊥)
    → Fits seed count number entry left bytes → ⊥
not_opened seed count number entry left bytes none some fits = go fits.0 fits.2.0
  where
    go : (bucket : Pairs) → AreRecords bucket bytes → ⊥
    go [] are = some are
    go (e ∷ others) are = none e others are

-- a record before a bucket
pub closed : (seed count number entry left : ℕ) (bytes own rest : List ℕ) (v : ℕ)
    → ((middle : List ℕ) × BeginsWith 32 0 (length own) bytes middle × (v < 2 ^ 64) × (middle ≡ word v ++ (own ++ rest))) → 0 < left → IsAt seed count number entry own
    → ((pairs : Pairs) → AreRecords pairs rest → value_at simple_ascii pairs own ≡ None)
    → Fits seed count number entry (left - 1) rest → Fits seed count number entry left bytes
closed seed count number entry left bytes own rest v found some at apart fits = (
  (own, v) ∷ fits.0,
  (let few = fits.1 in omega arith),
  (
    (found.0, rest, found.1, found.2, found.3, fits.2.0),
    all_at fits.0 fits.2.1,
    λ twice. elim twice [ inl here ↦ has_value fits.0 own here (apart fits.0 fits.2.0) | inr later ↦ fits.2.2 later ],
  ),
)
  where
    all_at : (pairs : Pairs) → All (λ e. IsAt seed count number entry e.0) pairs → All (λ e. IsAt seed count number entry e.0) ((own, v) ∷ pairs)
    all_at pairs all zero d inside = at
    all_at pairs all (suc k) d inside = all k d (omega arith)

-- The next bucket, and the rest after it.
pub record Stepped (seed count number entry : ℕ) (table pool : List ℕ) : Type 0 where
  pub next : ℕ
  pub after : List ℕ
  pub records : List ℕ
  pub behind : List ℕ
  pub table_is : table ≡ word next ++ after
  pub below : next < 2 ^ 64
  pub pool_is : pool ≡ records ++ behind
  pub ends : entry / 2 ^ 32 + length records ≡ next / 2 ^ 32
  pub fits : Fits seed count number entry bucket_limit records
  pub rest : AreRest seed count (number + 1) next after behind

pub stepped : (seed count number entry : ℕ) (table pool : List ℕ) → number < count → AreRest seed count number entry table pool → Stepped seed count number entry table pool
stepped seed count number entry table pool more r = go r.buckets r.entries r.many r.entries_below r.table_is r.are_buckets r.short r.distinct
  where
    go : (buckets : List Pairs) (entries : List ℕ) → number + length buckets ≡ count → All (λ e. e < 2 ^ 64) entries → table ≡ flat_map word entries
        → AreBuckets seed count number (entry / 2 ^ 32) buckets (entry ∷ entries) pool → All (λ bucket. length bucket ≤ bucket_limit) buckets
        → All (λ bucket. RepeatsKey bucket → ⊥) buckets → Stepped seed count number entry table pool
    go [] entries many below is h short distinct = absurd (omega arith)
    go (bucket ∷ buckets) [] many below is h short distinct = absurd (let long = one_more seed count (suc number) (entry / 2 ^ 32 + length h.0) buckets [] h.1 h.6 in omega arith)
    go (bucket ∷ buckets) (next ∷ entries) many below is h short distinct =
        let start = starts seed count (suc number) (entry / 2 ^ 32 + length h.0) buckets (next ∷ entries) h.1 h.6 in
        record {
          next = next;
          after = flat_map word entries;
          records = h.0;
          behind = h.1;
          table_is = is ∙ flat_map-cons word next entries;
          below = below zero next (omega arith);
          pool_is = h.2;
          ends = sym start;
          fits = (bucket, short zero bucket (omega arith), (h.3, h.5, distinct zero bucket (omega arith)));
          rest = record {
            buckets = buckets;
            entries = entries;
            many = omega arith;
            entries_below = λ k d inside. below (suc k) d (omega arith);
            table_is = refl;
            are_buckets = subst (λ n. AreBuckets seed count n (next / 2 ^ 32) buckets (next ∷ entries) h.1) (let e : suc number ≡ number + 1 = omega arith in e)
                (subst (λ n. AreBuckets seed count (suc number) n buckets (next ∷ entries) h.1) (sym start) h.6);
            short = λ k d inside. short (suc k) d (omega arith);
            distinct = λ k d inside. distinct (suc k) d (omega arith);
          };
        }

-- what reads a word and a part of the pool reads the next bucket
abbrev pub ReadsWord : List ℕ → ℕ → List ℕ → Type 0
ReadsWord table next after = (n : ℕ) (x : List ℕ) → n < 2 ^ 64 → table ≡ word n ++ x → (next ≡ n) × (after ≡ x)

abbrev pub Splits : ℕ → ℕ → List ℕ → List ℕ → List ℕ → Type 0
Splits entry next pool records behind = (r b : List ℕ) → pool ≡ r ++ b → entry / 2 ^ 32 + length r ≡ next / 2 ^ 32 → (records ≡ r) × (behind ≡ b)

pub step_ends : (seed count number entry next : ℕ) (table after pool : List ℕ) → ReadsWord table next after → (s : Stepped seed count number entry table pool)
    → entry / 2 ^ 32 + length s.records ≡ next / 2 ^ 32
step_ends seed count number entry next table after pool reads s = s.ends ∙ ap (λ n. n / 2 ^ 32) (sym (reads s.next s.after s.below s.table_is).0)

pub step_to : (seed count number entry next : ℕ) (table after pool records behind : List ℕ) → ReadsWord table next after → Splits entry next pool records behind
    → Stepped seed count number entry table pool → Fits seed count number entry bucket_limit records × AreRest seed count (number + 1) next after behind
step_to seed count number entry next table after pool records behind reads splits s =
    let word_is = reads s.next s.after s.below s.table_is in
    let pool_is = splits s.records s.behind s.pool_is (step_ends seed count number entry next table after pool reads s) in (
      subst (Fits seed count number entry bucket_limit) (sym pool_is.0) s.fits,
      subst (λ b. AreRest seed count (number + 1) next after b) (sym pool_is.1)
          (subst (λ x. AreRest seed count (number + 1) next x s.behind) (sym word_is.1)
          (subst (λ n. AreRest seed count (number + 1) n s.after s.behind) (sym word_is.0) s.rest)),
    )

-- the first entry
pub all_rest : (seed count first : ℕ) (table after pool : List ℕ) → ReadsWord table first after → AreAll seed count table pool
    → (first / 2 ^ 32 ≡ 0) × AreRest seed count 0 first after pool
all_rest seed count first table after pool reads all =
    let is = reads all.0 all.1 all.3 all.2 in
    (ap (λ n. n / 2 ^ 32) is.0 ∙ all.4, subst (λ x. AreRest seed count 0 first x pool) (sym is.1) (subst (λ n. AreRest seed count 0 n all.1 pool) (sym is.0) all.5))

-- one bucket before the rest
pub joined : (seed count number entry next : ℕ) (table after pool records behind : List ℕ) → table ≡ word next ++ after → next < 2 ^ 64
    → pool ≡ records ++ behind → entry / 2 ^ 32 + length records ≡ next / 2 ^ 32 → Fits seed count number entry bucket_limit records
    → AreRest seed count (number + 1) next after behind → AreRest seed count number entry table pool
joined seed count number entry next table after pool records behind table_is below pool_is ends fits r = record {
  buckets = fits.0 ∷ r.buckets;
  entries = next ∷ r.entries;
  many = let many = r.many in omega arith;
  entries_below = all_below r.entries r.entries_below;
  table_is = table_is ∙ ap (λ x. word next ++ x) r.table_is ∙ sym (flat_map-cons word next r.entries);
  are_buckets = (
    records,
    behind,
    pool_is,
    fits.2.0,
    refl,
    fits.2.1,
    subst (λ n. AreBuckets seed count n (entry / 2 ^ 32 + length records) r.buckets (next ∷ r.entries) behind) (let e : number + 1 ≡ suc number = omega arith in e)
        (subst (λ n. AreBuckets seed count (number + 1) n r.buckets (next ∷ r.entries) behind) (sym ends) r.are_buckets),
  );
  short = all_short r.buckets r.short;
  distinct = all_distinct r.buckets r.distinct;
}
  where
    all_below : (entries : List ℕ) → All (λ e. e < 2 ^ 64) entries → All (λ e. e < 2 ^ 64) (next ∷ entries)
    all_below entries all zero d inside = below
    all_below entries all (suc k) d inside = all k d (omega arith)

    all_short : (buckets : List Pairs) → All (λ b. length b ≤ bucket_limit) buckets → All (λ b. length b ≤ bucket_limit) (fits.0 ∷ buckets)
    all_short buckets all zero d inside = fits.1
    all_short buckets all (suc k) d inside = all k d (omega arith)

    all_distinct : (buckets : List Pairs) → All (λ b. RepeatsKey b → ⊥) buckets → All (λ b. RepeatsKey b → ⊥) (fits.0 ∷ buckets)
    all_distinct buckets all zero d inside = fits.2.2
    all_distinct buckets all (suc k) d inside = all k d (omega arith)

-- no bucket is left
pub ended : (seed count number entry : ℕ) (table pool : List ℕ) → count ≤ number → AreRest seed count number entry table pool → (table ≡ []) × (pool ≡ [])
ended seed count number entry table pool past r = go r.buckets r.entries r.many r.table_is r.are_buckets
  where
    go : (buckets : List Pairs) (entries : List ℕ) → number + length buckets ≡ count → table ≡ flat_map word entries
        → AreBuckets seed count number (entry / 2 ^ 32) buckets (entry ∷ entries) pool → (table ≡ []) × (pool ≡ [])
    go [] entries many is h = (is ∙ ap (flat_map word) (ap (drop 1) h.1), h.3)
    go (bucket ∷ buckets) entries many is h = absurd (omega arith)

pub ending : (seed count number entry : ℕ) (table pool : List ℕ) → number ≡ count → table ≡ [] → pool ≡ [] → AreRest seed count number entry table pool
ending seed count number entry table pool last none empty = record {
  buckets = [];
  entries = [];
  many = omega arith;
  entries_below = λ k d inside. absurd (omega arith);
  table_is = none;
  are_buckets = (entry, refl, refl, empty);
  short = λ k d inside. absurd (omega arith);
  distinct = λ k d inside. absurd (omega arith);
}

-- all buckets make an index
pub valid_index : (seed count : ℕ) (bytes table pool : List ℕ) → bytes ≡ word seed ++ (word count ++ (table ++ pool)) → seed < 2 ^ 64 → 0 < count → count < 2 ^ 32
    → AreAll seed count table pool → (pairs : Pairs) × IsIndex pairs bytes
valid_index seed count bytes table pool is small some few all =
    let r = all.5 in
    let many : count ≡ length r.buckets = let m = r.many in omega arith in
    let table_is : table ≡ flat_map word (all.0 ∷ r.entries) = all.2 ∙ ap (λ x. word all.0 ++ x) r.table_is ∙ sym (flat_map-cons word all.0 r.entries) in
    let are : AreBuckets seed count 0 0 r.buckets (all.0 ∷ r.entries) pool = subst (λ n. AreBuckets seed count 0 n r.buckets (all.0 ∷ r.entries) pool) all.4 r.are_buckets in (
      flat_map (λ b. b) r.buckets,
      record {
        seed = seed;
        buckets = r.buckets;
        entries = all.0 ∷ r.entries;
        pool = pool;
        seed_below = small;
        some_buckets = omega arith;
        few_buckets = omega arith;
        entries_below = below r.entries r.entries_below;
        bytes_are = is ∙ ap (λ t. word seed ++ (word count ++ (t ++ pool))) table_is ∙ ap (λ n. word seed ++ (word n ++ (flat_map word (all.0 ∷ r.entries) ++ pool))) many;
        are_buckets = subst (λ n. AreBuckets seed n 0 0 r.buckets (all.0 ∷ r.entries) pool) many are;
        pairs_are = refl;
        short = r.short;
        distinct = distinct_all seed count 0 0 r.buckets (all.0 ∷ r.entries) pool are r.distinct;
      },
    )
  where
    below : (entries : List ℕ) → All (λ e. e < 2 ^ 64) entries → All (λ e. e < 2 ^ 64) (all.0 ∷ entries)
    below entries each zero d inside = all.3
    below entries each (suc k) d inside = each k d (omega arith)

-- an index has all buckets
pub index_valid : (pairs : Pairs) (bytes : List ℕ) → (is : IsIndex pairs bytes) → AreAll is.seed (length is.buckets) (flat_map word is.entries) is.pool
index_valid pairs bytes is = go is.entries is.entries_below is.are_buckets
  where
    go : (entries : List ℕ) → All (λ e. e < 2 ^ 64) entries → AreBuckets is.seed (length is.buckets) 0 0 is.buckets entries is.pool
        → AreAll is.seed (length is.buckets) (flat_map word entries) is.pool
    go [] below h = absurd (let long = one_more is.seed (length is.buckets) 0 0 is.buckets [] is.pool h in omega arith)
    go (entry ∷ entries) below h =
        let start = starts is.seed (length is.buckets) 0 0 is.buckets (entry ∷ entries) is.pool h in (
          entry,
          flat_map word entries,
          flat_map-cons word entry entries,
          below zero entry (omega arith),
          start,
          record {
            buckets = is.buckets;
            entries = entries;
            many = omega arith;
            entries_below = λ k d inside. below (suc k) d (omega arith);
            table_is = refl;
            are_buckets = subst (λ n. AreBuckets is.seed (length is.buckets) 0 n is.buckets (entry ∷ entries) is.pool) (sym start) h;
            short = is.short;
            distinct = distinct_each is.buckets (λ twice. is.distinct (subst RepeatsKey (sym is.pairs_are) twice));
          },
        )

pub parts_valid : (pairs : Pairs) (bytes : List ℕ) (is : IsIndex pairs bytes) (seed count : ℕ) (table pool : List ℕ)
    → (seed ≡ is.seed) × (count ≡ length is.buckets) × (table ≡ flat_map word is.entries) × (pool ≡ is.pool) → AreAll seed count table pool
parts_valid pairs bytes is seed count table pool parts =
    subst (λ s. AreAll s count table pool) (sym parts.0)
    (subst (λ n. AreAll is.seed n table pool) (sym parts.1)
    (subst (λ t. AreAll is.seed (length is.buckets) t pool) (sym parts.2)
    (subst (AreAll is.seed (length is.buckets) (flat_map word is.entries)) (sym parts.3) (index_valid pairs bytes is))))
