-- What a listing of a build gives, by the pairs of the build. `iter`, `stream`, `iter_prefix` and `stream_prefix` promise this of
-- whichever pairs the bytes list; each lemma takes the build and that clause.
use Rattle.std.proofs.Common.{◌≡◌, ℕ, zero, suc, ◌<◌, List, [], ◌∷◌, length, refl, sym, ◌∙◌, ap, subst, arith, Bool, true, false, cond}
use Rattle.std.specs.Prelude.{Contains, filter, slice_index_or}
use Rattle.std.specs.FinMap.{entries}
use Rattle.zerotrie_core.specs.Built.{IsBuilt}
use Rattle.zerotrie_core.specs.Kind.{Kind, simple_ascii}
use Rattle.zerotrie_core.specs.Listings.{Left, to_come}
use Rattle.zerotrie_core.specs.Maps.{Pairs, map_of, value_at, Ascends, RepeatsKey, beginning, begins_with}
use Rattle.zerotrie_core.specs.Routes.{Route, Takes}
use Rattle.zerotrie_core.specs.Texts.{Lists}
use Rattle.zerotrie_core.proofs.CallerLemmas.{entries-map_of, same-entries}
use Rattle.zerotrie_core.proofs.ListedLemmas.{ascend_by_bytes, list_the_map}
use Rattle.zerotrie.proofs.Lookups.{takes_distinct, at_pair, held_exactly}

module _ (p : List ℕ × ℕ → Bool) where
  -- an element that passes the test is kept
  kept : (xs : Pairs) (e : List ℕ × ℕ) (i : ℕ) → p e ≡ true → i < length xs → slice_index_or xs i e ≡ e → Contains (filter p xs) e
  kept [] e i passes below is = absurd (omega arith)
  kept (x ∷ xs) e zero passes below is = subst (λ ys. Contains ys e) (sym (ap (λ b. cond b (x ∷ filter p xs) (filter p xs)) (ap p is ∙ passes))) (0, omega arith, is)
  kept (x ∷ xs) e (suc i) passes below is = by (p x) refl (kept xs e i passes (omega arith) is)
    where
      by : (b : Bool) → p x ≡ b → Contains (filter p xs) e → Contains (filter p (x ∷ xs)) e
      by true test later = subst (λ ys. Contains ys e) (sym (ap (λ b. cond b (x ∷ filter p xs) (filter p xs)) test)) (suc later.0, omega (arith, later.1), later.2)
      by false test later = subst (λ ys. Contains ys e) (sym (ap (λ b. cond b (x ∷ filter p xs) (filter p xs)) test)) later

  -- what is kept passes the test, and was there
  abbrev Before : Pairs → List ℕ × ℕ → Type 0
  Before xs e = (j : ℕ) → j < length (filter p xs) → slice_index_or (filter p xs) j e ≡ e → (p e ≡ true) × Contains xs e

  from_kept : (xs : Pairs) (e : List ℕ × ℕ) (i : ℕ) → i < length (filter p xs) → slice_index_or (filter p xs) i e ≡ e → (p e ≡ true) × Contains xs e
  from_kept [] e i below is = absurd (omega arith)
  from_kept (x ∷ xs) e i below is = by (p x) refl (λ j low same. from_kept xs e j low same)
    where
      behind : (p e ≡ true) × Contains xs e → (p e ≡ true) × Contains (x ∷ xs) e
      behind h = (h.0, (suc h.1.0, omega (arith, h.1.1), h.1.2))

      at : (i : ℕ) → p x ≡ true → Before xs e → i < length (x ∷ filter p xs) → slice_index_or (x ∷ filter p xs) i e ≡ e → (p e ≡ true) × Contains (x ∷ xs) e
      at zero test before below is = (sym (ap p is) ∙ test, (0, omega arith, is))
      at (suc i) test before below is = behind (before i (omega arith) is)

      by : (b : Bool) → p x ≡ b → Before xs e → (p e ≡ true) × Contains (x ∷ xs) e
      by false test before =
          let same = ap (λ b. cond b (x ∷ filter p xs) (filter p xs)) test in
          behind (before i (subst (λ ys. i < length ys) same below) (subst (λ ys. slice_index_or ys i e ≡ e) same is))
      by true test before =
          let same = ap (λ b. cond b (x ∷ filter p xs) (filter p xs)) test in
          at i test before (subst (λ ys. i < length ys) same below) (subst (λ ys. slice_index_or ys i e ≡ e) same is)

-- A build over ASCII keys lists its pairs in the order of their keys.
pub lists_in_order : {pairs : Pairs} {bytes : List ℕ} → IsBuilt simple_ascii pairs bytes → Lists simple_ascii bytes (entries (map_of pairs))
lists_in_order {bytes = bytes} built =
    let means = built.means in
    let same : means.pairs ≡ entries (map_of _) = sym (entries-map_of means.pairs (ascend_by_bytes bytes means.pairs means.lists)) ∙ ap entries (sym means.is) in
    subst (Lists simple_ascii bytes) same means.lists

-- A build of pairs that ascend lists these pairs.
pub lists_pairs : {pairs : Pairs} {bytes : List ℕ} → Ascends pairs → IsBuilt simple_ascii pairs bytes → Lists simple_ascii bytes pairs
lists_pairs {pairs = pairs} {bytes = bytes} ascends built = subst (Lists simple_ascii bytes) (entries-map_of pairs ascends) (lists_in_order built)

-- So a listing after a prefix, by the clause of `iter_prefix` on its result.
pub prefix_in_order : {pairs : Pairs} {bytes : List ℕ} {listing : Left} (prefix : List ℕ) → IsBuilt simple_ascii pairs bytes
    → ((listed : Pairs) → Lists simple_ascii bytes listed → listing ≡ to_come (beginning simple_ascii prefix listed))
    → listing ≡ to_come (beginning simple_ascii prefix (entries (map_of pairs)))
prefix_in_order {pairs = pairs} prefix built lists = lists (entries (map_of pairs)) (lists_in_order built)

pub prefix_of_pairs : {pairs : Pairs} {bytes : List ℕ} {listing : Left} (prefix : List ℕ) → Ascends pairs → IsBuilt simple_ascii pairs bytes
    → ((listed : Pairs) → Lists simple_ascii bytes listed → listing ≡ to_come (beginning simple_ascii prefix listed))
    → listing ≡ to_come (beginning simple_ascii prefix pairs)
prefix_of_pairs {pairs = pairs} prefix ascends built lists = lists pairs (lists_pairs ascends built)

-- The two lists have the same pairs, each once.
pub record SamePairs (pairs listed : Pairs) : Type 0 where
  pub all : (key : List ℕ) (v : ℕ) → Contains pairs (key, v) → Contains listed (key, v)
  pub none_else : (key : List ℕ) (v : ℕ) → Contains listed (key, v) → Contains pairs (key, v)
  pub once : RepeatsKey listed → ⊥

-- A listing of a build of any kind has the build's pairs, each once, in whatever order.
pub lists_the_pairs : {kind : Kind} {pairs listed : Pairs} {bytes : List ℕ} (route : Route) → Takes route pairs → IsBuilt kind pairs bytes → Lists kind bytes listed
    → SamePairs pairs listed
lists_the_pairs {kind = kind} {pairs = pairs} {listed = listed} {bytes = bytes} route takes built lists = record {
  all = λ key v has. held_exactly listed key v (answer key ∙ at_pair pairs key v has.0 distinct has.1 has.2);
  none_else = λ key v has. held_exactly pairs key v (sym (answer key) ∙ at_pair listed key v has.0 law.0 has.1 has.2);
  once = law.0;
}
  where
    law : (RepeatsKey listed → ⊥) × (map_of pairs ≡ map_of listed)
    law = list_the_map kind bytes (map_of pairs) listed built.means lists

    distinct : RepeatsKey pairs → ⊥
    distinct = takes_distinct route pairs takes

    answer : (key : List ℕ) → value_at simple_ascii listed key ≡ value_at simple_ascii pairs key
    answer key = sym (same-entries listed key) ∙ sym (ap (λ m. value_at simple_ascii (entries m) key) law.1) ∙ same-entries pairs key

-- and after a prefix those whose keys begin with it
pub prefix_keeps : (kind : Kind) (prefix key : List ℕ) (v : ℕ) (listed : Pairs) → begins_with kind prefix key ≡ true → Contains listed (key, v)
    → Contains (beginning kind prefix listed) (key, v)
prefix_keeps kind prefix key v listed begins has = kept (λ e. begins_with kind prefix e.0) listed (key, v) has.0 begins has.1 has.2

pub prefix_adds_none : (kind : Kind) (prefix key : List ℕ) (v : ℕ) (listed : Pairs) → Contains (beginning kind prefix listed) (key, v)
    → (begins_with kind prefix key ≡ true) × Contains listed (key, v)
prefix_adds_none kind prefix key v listed has = from_kept (λ e. begins_with kind prefix e.0) listed (key, v) has.0 has.1 has.2
