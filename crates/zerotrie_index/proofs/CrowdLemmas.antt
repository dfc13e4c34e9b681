-- No bucket of an index is crowded under its seed.
use Rattle.std.specs.Prelude.{◌≡◌, ◌==◌, ℕ, ◌+◌, ◌*◌, ◌^◌, ◌<◌, ◌≤◌, [], ◌∷◌, List, length, All, zero, suc, if◌then◌else◌}
use Rattle.std.specs.List.{flat_map, sum_by}
use Rattle.std.specs.Int.{from_le_bytes, w64}
use Rattle.std.proofs.Common.{refl, inl, inr, ap, sym, ◌∙◌, arith, subst}
use Rattle.std.proofs.lemmas.Bool.{eq-eqb, ne_eqb, cases_eq, cases_lt}
use Rattle.std.proofs.lemmas.List.Concat.{flat_map-cons}
use Rattle.std.proofs.lemmas.List.Sorted.{sum_by-IsPermutation}
use Rattle.std.proofs.lemmas.List.Sums.{sum_by-cons, sum_by-append}
use Rattle.zerotrie_base.specs.Maps.{Pairs}
use Rattle.zerotrie_index.specs.Hash.{hash_of}
use Rattle.zerotrie_index.specs.Layout.{place_of, bucket_limit, IsAt, AreBuckets}
use Rattle.zerotrie_index.specs.Built.{record_size, crowd, IsCrowded, IsIndexOf, IsLaidOut}
use Rattle.zerotrie_index.proofs.WordLemmas.{read_back}
use Rattle.zerotrie_index.proofs.WrittenLemmas.{laid_out}

-- one pair more of the bucket
crowd_in : (seed count number : ℕ) (e : List ℕ × ℕ) (pairs : Pairs) → place_of count (hash_of seed e.0) ≡ number
    → crowd seed count number (e ∷ pairs) ≡ 1 + crowd seed count number pairs
crowd_in seed count number e pairs same =
    sum_by-cons (λ f. if place_of count (hash_of seed f.0) == number then 1 else 0) e pairs
    ∙ ap (λ b. (if b then 1 else 0) + crowd seed count number pairs) (eq-eqb (place_of count (hash_of seed e.0)) number same)

-- one pair more of another bucket
crowd_out : (seed count number : ℕ) (e : List ℕ × ℕ) (pairs : Pairs) → (place_of count (hash_of seed e.0) ≡ number → ⊥)
    → crowd seed count number (e ∷ pairs) ≡ 0 + crowd seed count number pairs
crowd_out seed count number e pairs other =
    sum_by-cons (λ f. if place_of count (hash_of seed f.0) == number then 1 else 0) e pairs
    ∙ ap (λ b. (if b then 1 else 0) + crowd seed count number pairs) (ne_eqb (place_of count (hash_of seed e.0)) number other)

-- a bucket has no more pairs of its number than pairs
crowd_most : (seed count number : ℕ) (pairs : Pairs) → crowd seed count number pairs ≤ length pairs
crowd_most seed count number [] = omega arith
crowd_most seed count number (e ∷ pairs) =
    let rest = crowd_most seed count number pairs in
    elim (cases_eq (place_of count (hash_of seed e.0)) number) [
      | inl same ↦ let more = crowd_in seed count number e pairs same in omega (arith, more, rest)
      | inr other ↦ let more = crowd_out seed count number e pairs other in omega (arith, more, rest)
    ]

-- none of the pairs of another bucket
crowd_none : (seed count at entry number : ℕ) (pairs : Pairs) → All (λ e. IsAt seed count at entry e.0) pairs → (at ≡ number → ⊥) → crowd seed count number pairs ≡ 0
crowd_none seed count at entry number [] here other = refl
crowd_none seed count at entry number (e ∷ pairs) here other =
    let own = (here zero e (omega arith)).0 in
    let more = crowd_out seed count number e pairs (λ same. other (sym own ∙ same)) in
    let rest = crowd_none seed count at entry number pairs (λ k d inside. here (suc k) d (omega arith)) other in
    omega (arith, more, rest)

-- of the buckets from a number on, one has the pairs of a number, and none those of a number before
crowd_buckets : (seed count number at start : ℕ) (buckets : List Pairs) (entries pool : List ℕ) → AreBuckets seed count at start buckets entries pool
    → All (λ bucket. length bucket ≤ bucket_limit) buckets
    → (number < at → crowd seed count number (flat_map (λ b. b) buckets) ≡ 0) × (crowd seed count number (flat_map (λ b. b) buckets) ≤ bucket_limit)
crowd_buckets seed count number at start [] entries pool h short = (λ before. refl, omega arith)
crowd_buckets seed count number at start (bucket ∷ buckets) [] pool h short = absurd h
crowd_buckets seed count number at start (bucket ∷ buckets) (entry ∷ entries) pool h short =
    let rest = crowd_buckets seed count number (suc at) (start + length h.0) buckets entries h.1 h.6 (λ k d inside. short (suc k) d (omega arith)) in
    let later = rest.0 in
    let most = rest.1 in
    let both : crowd seed count number (flat_map (λ b. b) (bucket ∷ buckets)) ≡ crowd seed count number bucket + crowd seed count number (flat_map (λ b. b) buckets) =
    ap (crowd seed count number) (flat_map-cons (λ b. b) bucket buckets) ∙ sum_by-append _ bucket (flat_map (λ b. b) buckets) in
    let own = crowd_most seed count number bucket in
    let few = short zero bucket (omega arith) in (
      λ before. let none = crowd_none seed count at entry number bucket h.5 (λ same. omega (arith, same, before)) in let after = later (omega arith) in omega arith,
      elim (cases_eq at number) [
        | inl same ↦ let after = later (omega arith) in omega arith
        | inr other ↦ let none = crowd_none seed count at entry number bucket h.5 other in omega arith
      ],
    )

pub not_crowded : (given : Pairs) (bytes : List ℕ) → IsIndexOf given bytes → (seed count : ℕ) → seed < 2 ^ 64 → IsLaidOut seed count given bytes → IsCrowded seed count given → ⊥
not_crowded given bytes h seed count small laid crowded =
    let i = h.1 in
    let own = laid_out h.0 bytes i in
    let seeds : seed ≡ i.seed = sym (read_back seed small) ∙ ap (from_le_bytes w64) (sym laid.0 ∙ own.0) ∙ read_back i.seed i.seed_below in
    let size = sum_by-IsPermutation record_size given h.0 h.2 in
    let long = laid.1 in
    let here = own.1 in
    let counts : count ≡ length i.buckets = omega arith in
    let most = (crowd_buckets i.seed (length i.buckets) crowded.0 0 0 i.buckets i.entries i.pool i.are_buckets i.short).1 in
    let all = ap (crowd i.seed (length i.buckets) crowded.0) i.pairs_are in
    let same : crowd i.seed (length i.buckets) crowded.0 h.0 ≡ crowd i.seed (length i.buckets) crowded.0 given = sum_by-IsPermutation _ given h.0 h.2 in
    let many = subst (λ n. bucket_limit < crowd i.seed n crowded.0 given) counts (subst (λ s. bucket_limit < crowd s count crowded.0 given) seeds crowded.1) in
    omega arith
