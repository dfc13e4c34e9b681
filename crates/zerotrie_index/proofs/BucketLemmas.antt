-- Buckets and their entries.
use Rattle.std.specs.Prelude.{◌≡◌, ℕ, ◌+◌, ◌*◌, ◌/◌, ◌^◌, ◌<◌, [], ◌∷◌, ◌++◌, List, length, get_or, All, Some, None, if◌then◌else◌, zero, suc}
use Rattle.std.specs.List.{flat_map}
use Rattle.std.proofs.Common.{refl, ap, sym, ◌∙◌, arith, subst, length-append, lit<}
use Rattle.std.proofs.Math.Nat.{div-lt_iff_lt-mul, mul-lt-mul_of_pos_right}
use Rattle.std.proofs.lemmas.List.{append_assoc}
use Rattle.std.proofs.lemmas.List.Concat.{flat_map-cons}
use Rattle.zerotrie_base.specs.Kind.{simple_ascii}
use Rattle.zerotrie_base.specs.Maps.{Pairs, same_key, value_at}
use Rattle.zerotrie_base.proofs.MapLemmas.Values.{value_at-append}
use Rattle.zerotrie_index.specs.Hash.{hash_of}
use Rattle.zerotrie_index.specs.Layout.{place_of, mark_of, AreRecords, IsAt, AreBuckets, IsIndex}
use Rattle.zerotrie_index.proofs.RecordLemmas.{found_later}

-- no pair has a key that is not as all keys are
pub absent : (P : List ℕ → Type 0) (pairs : Pairs) (key : List ℕ) → All (λ e. P e.0) pairs → (P key → ⊥) → value_at simple_ascii pairs key ≡ None
absent P [] key all none = refl
absent P (e ∷ pairs) key all none = found_later e pairs key (λ is. none (subst P is (all zero e (omega arith)))) ∙ absent P pairs key (λ k d inside. all (suc k) d (omega arith)) none

-- where the first records start
pub starts : (seed count number start : ℕ) (buckets : List Pairs) (entries pool : List ℕ) → AreBuckets seed count number start buckets entries pool
    → get_or entries 0 0 / 2 ^ 32 ≡ start
starts seed count number start [] entries pool h = ap (λ es. get_or es 0 0 / 2 ^ 32) h.1 ∙ h.2
starts seed count number start (bucket ∷ buckets) [] pool h = absurd h
starts seed count number start (bucket ∷ buckets) (entry ∷ entries) pool h = h.4

-- there is one entry more than there are buckets
pub one_more : (seed count number start : ℕ) (buckets : List Pairs) (entries pool : List ℕ) → AreBuckets seed count number start buckets entries pool
    → length entries ≡ suc (length buckets)
one_more seed count number start [] entries pool h = ap length h.1
one_more seed count number start (bucket ∷ buckets) [] pool h = absurd h
one_more seed count number start (bucket ∷ buckets) (entry ∷ entries) pool h = ap suc (one_more seed count (suc number) _ buckets entries h.1 h.6)

-- A bucket: its records lie in the pool from where its entry says to where the next one says.
pub record IsIn (seed count number start : ℕ) (buckets : List Pairs) (entries pool : List ℕ) (i : ℕ) : Type 0 where
  pub before : List ℕ
  pub records : List ℕ
  pub after : List ℕ
  pub pool_is : pool ≡ before ++ (records ++ after)
  pub from : get_or entries i 0 / 2 ^ 32 ≡ start + length before
  pub to : get_or entries (suc i) 0 / 2 ^ 32 ≡ start + length before + length records
  pub are : AreRecords (get_or buckets i []) records
  pub at : All (λ e. IsAt seed count (number + i) (get_or entries i 0) e.0) (get_or buckets i [])

pub bucket_in : (seed count number start : ℕ) (buckets : List Pairs) (entries pool : List ℕ) → AreBuckets seed count number start buckets entries pool
    → (i : ℕ) → i < length buckets → IsIn seed count number start buckets entries pool i
bucket_in seed count number start [] entries pool h i inside = absurd (omega arith)
bucket_in seed count number start (bucket ∷ buckets) [] pool h i inside = absurd h
bucket_in seed count number start (bucket ∷ buckets) (entry ∷ entries) pool h zero inside = record {
  before = [];
  records = h.0;
  after = h.1;
  pool_is = h.2;
  from = omega (arith, h.4);
  to = omega (arith, starts seed count (suc number) (start + length h.0) buckets entries h.1 h.6);
  are = h.3;
  at = subst (λ n. All (λ e. IsAt seed count n entry e.0) bucket) (omega arith) h.5;
}
bucket_in seed count number start (bucket ∷ buckets) (entry ∷ entries) pool h (suc i) inside =
    let r = bucket_in seed count (suc number) (start + length h.0) buckets entries h.1 h.6 i (omega arith) in
    let long = length-append h.0 r.before in
    record {
      before = h.0 ++ r.before;
      records = r.records;
      after = r.after;
      pool_is = h.2 ∙ ap (λ x. h.0 ++ x) r.pool_is ∙ sym (append_assoc h.0 r.before (r.records ++ r.after));
      from = let f = r.from in omega arith;
      to = let t = r.to in omega arith;
      are = r.are;
      at = subst (λ n. All (λ e. IsAt seed count n (get_or entries i 0) e.0) (get_or buckets i [])) (omega arith) r.at;
    }

-- no key of these buckets is at a number before them
pub none_before : (seed count number start : ℕ) (buckets : List Pairs) (entries pool : List ℕ) → AreBuckets seed count number start buckets entries pool
    → (key : List ℕ) → place_of count (hash_of seed key) < number → value_at simple_ascii (flat_map (λ b. b) buckets) key ≡ None
none_before seed count number start [] entries pool h key before = refl
none_before seed count number start (bucket ∷ buckets) [] pool h key before = absurd h
none_before seed count number start (bucket ∷ buckets) (entry ∷ entries) pool h key before =
    let here = absent (IsAt seed count number entry) bucket key h.5 (λ at. let place = at.0 in omega arith) in
    ap (λ ps. value_at simple_ascii ps key) (flat_map-cons (λ b. b) bucket buckets)
    ∙ value_at-append simple_ascii key bucket (flat_map (λ b. b) buckets) here
    ∙ none_before seed count (suc number) _ buckets entries h.1 h.6 key (omega arith)

-- what comes after pairs with no value of a key changes nothing
front_only : (xs ys : Pairs) (key : List ℕ) → value_at simple_ascii ys key ≡ None → value_at simple_ascii (xs ++ ys) key ≡ value_at simple_ascii xs key
front_only [] ys key none = none
front_only (e ∷ xs) ys key none = ap (λ r. if same_key simple_ascii e.0 key then Some e.1 else r) (front_only xs ys key none)

-- a key has its value in the bucket of its hash alone
pub only_there : (seed count number start : ℕ) (buckets : List Pairs) (entries pool : List ℕ) → AreBuckets seed count number start buckets entries pool
    → (key : List ℕ) (i : ℕ) → i < length buckets → place_of count (hash_of seed key) ≡ number + i
    → value_at simple_ascii (flat_map (λ b. b) buckets) key ≡ value_at simple_ascii (get_or buckets i []) key
only_there seed count number start [] entries pool h key i inside is = absurd (omega arith)
only_there seed count number start (bucket ∷ buckets) [] pool h key i inside is = absurd h
only_there seed count number start (bucket ∷ buckets) (entry ∷ entries) pool h key zero inside is =
    ap (λ ps. value_at simple_ascii ps key) (flat_map-cons (λ b. b) bucket buckets)
    ∙ front_only bucket (flat_map (λ b. b) buckets) key (none_before seed count (suc number) _ buckets entries h.1 h.6 key (omega arith))
only_there seed count number start (bucket ∷ buckets) (entry ∷ entries) pool h key (suc i) inside is =
    let here = absent (IsAt seed count number entry) bucket key h.5 (λ at. let place = at.0 in omega arith) in
    ap (λ ps. value_at simple_ascii ps key) (flat_map-cons (λ b. b) bucket buckets)
    ∙ value_at-append simple_ascii key bucket (flat_map (λ b. b) buckets) here
    ∙ only_there seed count (suc number) _ buckets entries h.1 h.6 key i (omega arith) (omega arith)

-- the bucket of a hash is there
pub place_below : (count hash : ℕ) → hash < 2 ^ 64 → 0 < count → place_of count hash < count
place_below count hash small some =
    let half : hash / 2 ^ 32 < 2 ^ 32 = omega arith in
    let below = mul-lt-mul_of_pos_right {m = hash / 2 ^ 32} {n = 2 ^ 32} {k = count} half some in
    (div-lt_iff_lt-mul {k = 2 ^ 32} {x = hash / 2 ^ 32 * count} {y = count} (lit< tt)).1 (omega arith)

-- What an index has of a key: its bucket, and what a mark says.
pub record Has (pairs : Pairs) (bytes : List ℕ) (is : IsIndex pairs bytes) (key : List ℕ) (number hash : ℕ) : Type 0 where
  pub inside : number < length is.entries
  pub next_inside : suc number < length is.entries
  pub bucket : IsIn is.seed (length is.buckets) 0 0 is.buckets is.entries is.pool number
  pub there : value_at simple_ascii pairs key ≡ value_at simple_ascii (get_or is.buckets number []) key
  pub unmarked : mark_of (get_or is.entries number 0) hash ≡ 0 → value_at simple_ascii pairs key ≡ None

pub has : (pairs : Pairs) (bytes : List ℕ) (is : IsIndex pairs bytes) (key : List ℕ) (seed count number hash : ℕ) → seed ≡ is.seed → count ≡ length is.buckets
    → hash ≡ hash_of seed key → hash < 2 ^ 64 → number ≡ place_of count hash → Has pairs bytes is key number hash
has pairs bytes is key seed count number hash seed_is count_is hash_is small number_is =
    let own : hash ≡ hash_of is.seed key = hash_is ∙ ap (λ s. hash_of s key) seed_is in
    let place : number ≡ place_of (length is.buckets) hash = number_is ∙ ap (λ n. place_of n hash) count_is in
    let inside : number < length is.buckets = subst (λ n. n < length is.buckets) (sym place) (place_below (length is.buckets) hash small is.some_buckets) in
    let b = bucket_in is.seed (length is.buckets) 0 0 is.buckets is.entries is.pool is.are_buckets number inside in
    let at : place_of (length is.buckets) (hash_of is.seed key) ≡ 0 + number = sym (place ∙ ap (place_of (length is.buckets)) own) ∙ omega arith in
    let there = ap (λ ps. value_at simple_ascii ps key) is.pairs_are ∙ only_there is.seed (length is.buckets) 0 0 is.buckets is.entries is.pool is.are_buckets key number inside at in
    record {
      inside = let more = one_more is.seed (length is.buckets) 0 0 is.buckets is.entries is.pool is.are_buckets in omega arith;
      next_inside = let more = one_more is.seed (length is.buckets) 0 0 is.buckets is.entries is.pool is.are_buckets in omega arith;
      bucket = b;
      there = there;
      unmarked = λ none. there ∙ absent (IsAt is.seed (length is.buckets) (0 + number) (get_or is.entries number 0)) (get_or is.buckets number []) key b.at
          (λ marked. let one = marked.1 in let zero = ap (mark_of (get_or is.entries number 0)) (sym own) ∙ none in omega arith);
    }
