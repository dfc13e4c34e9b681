-- Values are below 2^64: those of tries and indexes, and so those of pairs that they are built of.
use Rattle.std.proofs.Common.{◌≡◌, ℕ, suc, ◌+◌, ◌^◌, ◌<◌, ◌≤◌, ◌++◌, List, [], ◌∷◌, length, map, take, drop, true, false, Option, Some, refl, sym, ap, ◌∙◌, subst, arith, inl, inr}
use Rattle.std.specs.Prelude.{All, fold}
use Rattle.std.specs.Option.{unwrap_or}
use Rattle.std.specs.Str.{bytes_eq}
use Rattle.std.specs.FinMap.{entries}
use Rattle.std.specs.List.{flat_map}
use Rattle.std.proofs.lemmas.Bool.{cases_Bool}
use Rattle.std.proofs.lemmas.List.Elements.{All-nil, All-cons, All-map, All-append}
use Rattle.std.proofs.lemmas.List.Sorted.{All-permutation, IsPermutation-sym}
use Rattle.std.proofs.lemmas.List.Sums.{fold-append}
use Rattle.zerotrie_core.specs.Kind.{Kind, simple_ascii}
use Rattle.zerotrie_core.specs.Maps.{Pairs, with_front, value_at, same_key}
use Rattle.zerotrie_core.specs.Texts.{Lists, ListEach, nothing, value, literal, span, branch, no_edge, edge}
use Rattle.zerotrie_core.specs.Built.{IsBuilt}
use Rattle.zerotrie_core.proofs.CallerLemmas.{same-entries, exact_same, first_found}
use Rattle.zerotrie_index.specs.Layout.{AreBuckets, AreRecords}
use Rattle.zerotrie_index.specs.Built.{IsIndexOf}
use Rattle.zerotrie_sets.specs.Selections.{as_one, one_of_two}
use Rattle.zerotrie_sets.specs.declared.selection.Rule.{Rule}
use Rattle.zerotrie_sets.specs.declared.selection.Rule.TheVariants.{Sum}
use Rattle.zerotrie_making.specs.Kept.{Numbered, numbered, firsts, has_key, values_of, with_one, merged, unnumbered}
use Rattle.zerotrie_making.specs.Made.{IsTooLargeAt}
use Rattle.zerotrie_making.specs.declared.error.NumberedKey.{NumberedKey}
use Rattle.zerotrie_making.proofs.MergedLemmas.{AllHave, firsts_have, key_same, key_is, values_there, values_joined}

abbrev pub Small : List ℕ × ℕ → Type 0
Small e = e.1 < 2 ^ 64

-- what a text lists has values below 2 ^ 64
mutual
  pub values_below : {kind : Kind} {bytes : List ℕ} {pairs : Pairs} → Lists kind bytes pairs → All Small pairs
  values_below nothing = All-nil Small
  values_below (value {v = v} {pairs = pairs} s n text) = All-cons Small ([], v) pairs s.below (values_below text)
  values_below (literal {b = b} {pairs = pairs} l n text) = All-map Small (λ e. (b ∷ e.0, e.1)) pairs (values_below text)
  values_below (span {pairs = pairs} run s some high n r f text) = All-map Small (λ e. (run ++ e.0, e.1)) pairs (values_below text)
  values_below (branch b each) = each_below each

  each_below : {kind : Kind} {edges : List ℕ} {targets : List (List ℕ)} {pairs : Pairs} → ListEach kind edges targets pairs → All Small pairs
  each_below no_edge = All-nil Small
  each_below (edge {e = e} {pairs = pairs} {more = more} n text each) =
      All-append Small (with_front e pairs) more (All-map Small (λ p. (e ∷ p.0, p.1)) pairs (values_below text)) (each_below each)

-- a value that is found in pairs whose values are small is small
small_found : (pairs : Pairs) (key : List ℕ) (v : ℕ) → All Small pairs → value_at simple_ascii pairs key ≡ Some v → v < 2 ^ 64
small_found [] key v all found = absurd (cc)
small_found (e ∷ pairs) key v all found =
    elim (cases_Bool (same_key simple_ascii e.0 key)) [
      | inl same ↦ (let is : Some e.1 ≡ Some v = rw same at found in let here : e.1 ≡ v = cc in subst (λ n. n < 2 ^ 64) here (all 0 e (omega arith)))
      | inr other ↦ small_found pairs key v (λ i d l. all (suc i) d (omega (arith, l))) (rw other at found)
    ]

-- so are the values of pairs of which a trie is built
pub trie_small : (kind : Kind) (pairs : Pairs) (bytes key : List ℕ) (v : ℕ) → IsBuilt kind pairs bytes → value_at simple_ascii pairs key ≡ Some v → v < 2 ^ 64
trie_small kind pairs bytes key v built found =
    let means = built.means in
    small_found means.pairs key v (values_below means.lists)
    (sym (same-entries means.pairs key) ∙ ap (λ m. value_at simple_ascii (entries m) key) (sym means.is) ∙ same-entries pairs key ∙ found)

records_small : (pairs : Pairs) (bytes : List ℕ) → AreRecords pairs bytes → All Small pairs
records_small [] bytes are = All-nil Small
records_small (e ∷ pairs) bytes are = All-cons Small e pairs are.3 (records_small pairs are.1 are.5)

buckets_small : (seed count number start : ℕ) (buckets : List Pairs) (entries pool : List ℕ) → AreBuckets seed count number start buckets entries pool → All Small (flat_map (λ bucket. bucket) buckets)
buckets_small seed count number start [] entries pool are = All-nil Small
buckets_small seed count number start (bucket ∷ buckets) [] pool are = absurd are
buckets_small seed count number start (bucket ∷ buckets) (entry ∷ entries) pool are =
    All-append Small bucket (flat_map (λ b. b) buckets) (records_small bucket are.0 are.3) (buckets_small seed count (suc number) (start + length are.0) buckets entries are.1 are.6)

-- and of which an index is built
pub index_small : (pairs : Pairs) (bytes key : List ℕ) (v : ℕ) → IsIndexOf pairs bytes → value_at simple_ascii pairs key ≡ Some v → v < 2 ^ 64
index_small pairs bytes key v of found =
    let index = of.1 in
    let all : All Small of.0 = subst (λ ps. All Small ps) (sym index.pairs_are) (buckets_small index.seed (length index.buckets) 0 0 index.buckets index.entries index.pool index.are_buckets) in
    small_found pairs key v (All-permutation Small of.0 pairs (IsPermutation-sym pairs of.0 of.2) all) found

found_one : (o : Option ℕ) (d one : ℕ) → o ≡ Some one → Some (unwrap_or o d) ≡ o
found_one o d one is = rw is refl

not_same : (k l : List ℕ) → bytes_eq k l ≡ false → same_key simple_ascii k l ≡ false
not_same k l other =
    elim (cases_Bool (same_key simple_ascii k l)) [
      | inl same ↦ (let here : bytes_eq k l ≡ true = subst (λ m. bytes_eq k m ≡ true) (exact_same k l same) (key_is k) in absurd (cc))
      | inr apart ↦ apart
    ]

-- at a key that is kept its merged value is found
merged_found : (rule : Rule) (pairs : Pairs) (key : List ℕ) (fs : Numbered) → AllHave rule pairs fs → has_key key fs ≡ true
    → value_at simple_ascii (unnumbered (map (with_one rule pairs) fs)) key ≡ as_one rule (values_of key pairs)
merged_found rule pairs key [] have there = absurd (cc)
merged_found rule pairs key (f ∷ fs) have there =
    elim (cases_Bool (bytes_eq f.1.0 key)) [
      | inl same ↦ subst (λ k. value_at simple_ascii (unnumbered (map (with_one rule pairs) (f ∷ fs))) k ≡ as_one rule (values_of k pairs)) (key_same f.1.0 key same)
          (first_found (with_one rule pairs f).1 (unnumbered (map (with_one rule pairs) fs)) ∙ found_one (as_one rule (values_of f.1.0 pairs)) f.1.1 have.0.0 have.0.1)
      | inr other ↦ (
          let apart : same_key simple_ascii f.1.0 key ≡ false = not_same f.1.0 key other in
          rw apart (merged_found rule pairs key fs have.1 (rw other at there)))
    ]

-- adding makes no less
sum_grows : (v : ℕ) (values : List ℕ) → v ≤ fold (one_of_two Sum) v values
sum_grows v [] = omega arith
sum_grows v (next ∷ values) = let h = sum_grows (v + next) values in omega (arith, h)

more_values : (values more : List ℕ) (n : ℕ) → as_one Sum values ≡ Some n → (m : ℕ) × (as_one Sum (values ++ more) ≡ Some m) × (n ≤ m)
more_values [] more n is = absurd (cc)
more_values (v ∷ values) more n is =
    let same : fold (one_of_two Sum) v values ≡ n = cc in
    let all : fold (one_of_two Sum) v (values ++ more) ≡ fold (one_of_two Sum) n more = fold-append (one_of_two Sum) v values more ∙ ap (λ m. fold (one_of_two Sum) m more) same in
    (fold (one_of_two Sum) n more, ap Some all, sum_grows n more)

-- if a sum is too large, so is a value of what is kept
pub no_large : (number : ℕ → ℕ) (pairs : Pairs) (k : NumberedKey) → IsTooLargeAt number pairs k → ((key : List ℕ) (v : ℕ) → value_at simple_ascii (unnumbered (merged Sum pairs)) key ≡ Some v → v < 2 ^ 64) → ⊥
no_large number pairs k large small =
    let key = k.key.items in
    let (i, inside, is, sum, first) = large in
    let m = more_values (values_of key (take (i + 1) pairs)) (values_of key (drop (i + 1) pairs)) sum.1 sum.2 in
    let all : as_one Sum (values_of key pairs) ≡ Some m.0 = ap (as_one Sum) (values_joined key pairs (i + 1)) ∙ m.1 in
    let found = merged_found Sum pairs key (firsts [] (numbered 1 pairs)) (firsts_have Sum 1 [] pairs) (values_there Sum key pairs m.0 all) in
    let below = small key m.0 (found ∙ all) in
    let high = sum.3 in
    let more = m.2 in
    omega (arith, below, high, more)
