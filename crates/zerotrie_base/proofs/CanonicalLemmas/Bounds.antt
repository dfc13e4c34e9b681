-- How many bytes encodings of pairs have at most, and how many targets of theirs wait.
use Rattle.std.proofs.Common.{◌≡◌, ℕ, zero, suc, ◌+◌, ◌-◌, ◌*◌, ◌%◌, ◌^◌, ◌<◌, ◌≤◌, List, [], ◌∷◌, length, refl, sym, ◌∙◌, ap, arith, inl, inr, ◌⊎◌, map, true, false, cond, ltb, leb, None, Ordering, Less, Equal, Greater}
use Rattle.std.specs.Prelude.{◌&&◌, is_some}
use Rattle.std.specs.List.{sum_by}
use Rattle.std.proofs.Math.Nat.{mul-le-mul_right}
use Rattle.std.proofs.lemmas.Bool.{cases_lt, lt-ltb, le-ltb, leb-true, cond_both, ne_eqb, eq-eqb, and_parts}
use Rattle.std.proofs.lemmas.Bool.Decides.{eqb_tells}
use Rattle.std.proofs.lemmas.List.{length-map}
use Rattle.std.proofs.lemmas.List.Sums.{sum_by-cons}
use Rattle.std.specs.FinMap.{entries, entries-insert, put}
use Rattle.std.specs.FinMap.Entries.{by_order}
use Rattle.std.specs.Ordering.{nat_cmp}
use Rattle.std.specs.Cmp.Lexicographic.{slice_cmp, nat_list_cmp_total}
use Rattle.zerotrie_base.specs.Kind.{Kind, simple_ascii, ignore_case, perfect_hash, extended_capacity, has_spans, is_hashed, ordered}
use Rattle.zerotrie_base.specs.Numbers.{span_form, branch_form, spelled, spelled_as, trails_from, trail_bytes, latent}
use Rattle.zerotrie_base.specs.Maps.{Pairs, map_of, value_at, begins_some, edges, residual, behind_all, high_edge, run_to, run_of, longest}
use Rattle.zerotrie_base.specs.Branches.{total, width, branch_front}
use Rattle.zerotrie_base.specs.Canonical.{value_node, branch_size, span_size, rest_size, size_to, size_of, size}
use Rattle.zerotrie_base.specs.Stack.{branch_need, need_by, stack_to, stack_of, stack}
use Rattle.zerotrie_base.specs.Bounds.{key_bound, build_bound}
use Rattle.zerotrie_base.specs.Texts.{Means}
use Rattle.zerotrie_base.specs.Fits.{Fits, targets_size}
use Rattle.zerotrie_base.proofs.MapLemmas.Edges.{Rise, member, member_head, member_later}
use Rattle.zerotrie_base.proofs.MapLemmas.Ordered.{edges_rise, member-edges, member-edges_past, member-ordered, total-ordered}
use Rattle.zerotrie_base.proofs.MapLemmas.Alike.{begins_behind, some_pair, same-entries, same-size_of}
use Rattle.zerotrie_base.proofs.CanonicalLemmas.Order.{entries-map_of, means_size}
use Rattle.zerotrie_base.proofs.CanonicalLemmas.Sizes.{size_none}
use Rattle.zerotrie_base.proofs.NodeLemmas.Fronts.{IsWidth-width, front_len, length-branch_front}

-- Sums over the pairs after each edge, each pair with its edge again in front.

-- what the pairs after a byte cost
abbrev pub cost_behind : (List ℕ × ℕ → ℕ) → Pairs → ℕ → ℕ
cost_behind cost pairs b = sum_by (λ e. cost (b ∷ e.0, e.1)) (residual b pairs)

-- what the pairs of the empty key cost
abbrev pub cost_here : (List ℕ × ℕ → ℕ) → Pairs → ℕ
cost_here cost [] = 0
cost_here cost (([], v) ∷ pairs) = cost ([], v) + cost_here cost pairs
cost_here cost ((b ∷ key, v) ∷ pairs) = cost_here cost pairs

total-cons : (n : ℕ) (ns : List ℕ) → total (n ∷ ns) ≡ n + total ns
total-cons n ns = sum_by-cons (λ x. x) n ns

-- a pair counts after its own byte
one_more : (cost : List ℕ × ℕ → ℕ) (pairs : Pairs) (b c : ℕ) (key : List ℕ) (v : ℕ) → c ≡ b
    → cost_behind cost ((c ∷ key, v) ∷ pairs) b ≡ cost (c ∷ key, v) + cost_behind cost pairs b
one_more cost pairs b c key v same =
    rw (eq-eqb c b same) (sum_by-cons (λ e. cost (b ∷ e.0, e.1)) (key, v) (residual b pairs) ∙ ap (λ x. cost (x ∷ key, v) + cost_behind cost pairs b) (sym same))

-- and after no other
no_more : (cost : List ℕ × ℕ → ℕ) (pairs : Pairs) (b c : ℕ) (key : List ℕ) (v : ℕ) → (c ≡ b → ⊥)
    → cost_behind cost ((c ∷ key, v) ∷ pairs) b ≡ cost_behind cost pairs b
no_more cost pairs b c key v other = rw (ne_eqb c b other) refl

none_more : (cost : List ℕ × ℕ → ℕ) (pairs : Pairs) (c : ℕ) (key : List ℕ) (v low high : ℕ) (es : List ℕ) → c < low → Rise low high es
    → total (map (cost_behind cost ((c ∷ key, v) ∷ pairs)) es) ≡ total (map (cost_behind cost pairs) es)
none_more cost pairs c key v low high [] h r = refl
none_more cost pairs c key v low high (b ∷ es) h r =
    let one = total-cons (cost_behind cost ((c ∷ key, v) ∷ pairs) b) (map (cost_behind cost ((c ∷ key, v) ∷ pairs)) es) in
    let two = total-cons (cost_behind cost pairs b) (map (cost_behind cost pairs) es) in
    let here = no_more cost pairs b c key v (λ s. omega (arith, r.0)) in
    let rest = none_more cost pairs c key v (suc b) high es (omega (arith, r.0)) r.2 in
    omega arith

-- so at most after one
once_more : (cost : List ℕ × ℕ → ℕ) (pairs : Pairs) (c : ℕ) (key : List ℕ) (v low high : ℕ) (es : List ℕ) → Rise low high es
    → total (map (cost_behind cost ((c ∷ key, v) ∷ pairs)) es) ≤ cost (c ∷ key, v) + total (map (cost_behind cost pairs) es)
once_more cost pairs c key v low high [] r = omega arith
once_more cost pairs c key v low high (b ∷ es) r =
    let one = total-cons (cost_behind cost ((c ∷ key, v) ∷ pairs) b) (map (cost_behind cost ((c ∷ key, v) ∷ pairs)) es) in
    let two = total-cons (cost_behind cost pairs b) (map (cost_behind cost pairs) es) in
    elim (eqb_tells c b) [
      | inl same ↦
          let here = one_more cost pairs b c key v same.1 in
          let is = same.1 in
          let rest = none_more cost pairs c key v (suc b) high es (omega arith) r.2 in
          omega arith
      | inr other ↦
          let here = no_more cost pairs b c key v other.1 in
          let rest = once_more cost pairs c key v (suc b) high es r.2 in
          omega arith
    ]

nothing_behind : (cost : List ℕ × ℕ → ℕ) (es : List ℕ) → total (map (cost_behind cost []) es) ≡ 0
nothing_behind cost [] = refl
nothing_behind cost (b ∷ es) =
    let one = total-cons (cost_behind cost [] b) (map (cost_behind cost []) es) in
    let none : cost_behind cost [] b ≡ 0 = refl in
    let rest = nothing_behind cost es in
    omega arith

-- The pairs after the edges and those of the empty key share out the pairs.
pub shared_out : (cost : List ℕ × ℕ → ℕ) (low high : ℕ) (es : List ℕ) (pairs : Pairs) → Rise low high es
    → total (map (cost_behind cost pairs) es) + cost_here cost pairs ≤ sum_by cost pairs
shared_out cost low high es [] r = let none = nothing_behind cost es in omega arith
shared_out cost low high es (([], v) ∷ pairs) r =
    let rest = shared_out cost low high es pairs r in
    let first = sum_by-cons cost ([], v) pairs in
    omega arith
shared_out cost low high es ((c ∷ key, v) ∷ pairs) r =
    let rest = shared_out cost low high es pairs r in
    let first = sum_by-cons cost (c ∷ key, v) pairs in
    let more = once_more cost pairs c key v low high es r in
    omega arith

-- Numbers and the fronts of branches.

trails_few : (more L v k : ℕ) → trails_from more L v k ≤ k + more
trails_few zero L v k = omega arith
trails_few (suc more) L v k =
    let rest = trails_few more L v (suc k) in
    cond_both (ltb v (latent L (suc k))) k (trails_from more L v (suc k)) (λ n. n ≤ k + suc more) (λ e. omega arith) (λ e. omega arith)

trail_long : (k u : ℕ) → length (trail_bytes k u) ≡ k
trail_long zero u = refl
trail_long (suc k) u = ap suc (trail_long k u)

spelled_long : (L m v : ℕ) → length (spelled L m v) ≡ suc (trails_from 9 L v 0)
unfolding spelled
spelled_long L m v = let k = trails_from 9 L v 0 in ap suc (trail_long k (v - latent L k))

spelled_most : (L m v : ℕ) → length (spelled L m v) ≤ 10
spelled_most L m v = let long = spelled_long L m v in let few = trails_few 9 L v 0 in omega arith

-- the number of bytes of a span takes no more bytes than the span
span_head : (n : ℕ) → 1 ≤ n → length (spelled_as span_form n) ≤ n
span_head n some = elim (cases_lt n 16) [
  | inl small ↦
      let one : trails_from 9 16 n 0 ≡ 0 = rw (lt-ltb n 16 small) refl in
      let long = spelled_long 16 5 n in
      omega arith
  | inr large ↦ let most = spelled_most 16 5 n in omega arith
]

-- a branch head has at most two bytes
branch_head : (n : ℕ) → n < 2048 → length (spelled_as branch_form n) ≤ 2
branch_head n h = elim (cases_lt n 32) [
  | inl small ↦
      let one : trails_from 9 32 n 0 ≡ 0 = rw (lt-ltb n 32 small) refl in
      let long = spelled_long 32 3 n in
      omega arith
  | inr large ↦
      let two : trails_from 9 32 n 0 ≡ 1 = rw (le-ltb n 32 large, lt-ltb n 4128 (omega arith)) refl in
      let long = spelled_long 32 3 n in
      omega arith
]

width_most : (n : ℕ) → n < 2 ^ 64 → width n ≤ 7
width_most n h = (IsWidth-width n).least 7 (let same : 256 ^ (7 + 1) ≡ 2 ^ 64 = refl in omega arith)

front_most : (t n : ℕ) → t < 2 ^ 64 → front_len t n ≤ 2 + 8 * (n - 1)
front_most t n h =
    let w = width_most t h in
    let head = branch_head (256 * width t + n % 256) (omega arith) in
    let offsets : (width t + 1) * (n - 1) ≤ 8 * (n - 1) = mul-le-mul_right (n - 1) (let k : width t + 1 ≤ 8 = omega arith in k) in
    omega arith

pub hashed_many : (kind : Kind) (n : ℕ) → is_hashed kind n ≡ true → 16 ≤ n
hashed_many simple_ascii n h = absurd (cc)
hashed_many ignore_case n h = absurd (cc)
hashed_many perfect_hash n h = leb-true 16 n h
hashed_many extended_capacity n h = leb-true 16 n h

-- a branch has at most 11 bytes for each edge before its targets, and leaves ten
branch_most : (kind : Kind) (lengths : List ℕ) → total lengths < 2 ^ 64 → 2 ≤ length lengths → branch_size kind lengths + 10 ≤ 11 * length lengths
branch_most kind lengths short two =
    let front = length-branch_front [] lengths in
    let most = front_most (total lengths) (length lengths) short in
    let n = length lengths in
    cond_both (is_hashed kind n) (2 * n + 1) n (λ t. length (branch_front [] lengths) + t + 10 ≤ 11 * n)
    (λ e. let many = hashed_many kind n e in omega arith)
    (λ e. omega arith)

-- What pairs cost.

-- of a byte of a key
abbrev pub byte_bound : ℕ → ℕ
byte_bound b = cond (ltb b 128) 1 2

-- 20 for a pair, and the bytes of its key
abbrev pub pair_bound : List ℕ × ℕ → ℕ
pair_bound e = 20 + key_bound e.0

pub key_bound-cons : (b : ℕ) (key : List ℕ) → key_bound (b ∷ key) ≡ byte_bound b + key_bound key
key_bound-cons b key = sum_by-cons byte_bound b key

pub build_bound-is : (pairs : Pairs) → build_bound pairs ≡ sum_by pair_bound pairs
unfolding build_bound
build_bound-is pairs = refl

pub build_bound-cons : (e : List ℕ × ℕ) (pairs : Pairs) → build_bound (e ∷ pairs) ≡ 20 + key_bound e.0 + build_bound pairs
unfolding build_bound
build_bound-cons e pairs = sum_by-cons pair_bound e pairs

byte_some : (b : ℕ) → 1 ≤ byte_bound b
byte_some b = cond_both (ltb b 128) 1 2 (λ n. 1 ≤ n) (λ e. omega arith) (λ e. omega arith)

byte_high : (b : ℕ) → 128 ≤ b → byte_bound b ≡ 2
byte_high b h = rw (le-ltb b 128 h) refl

front_more : (b : ℕ) (pairs : Pairs) → build_bound pairs ≤ sum_by (λ e. pair_bound (b ∷ e.0, e.1)) pairs
front_more b [] = let none = build_bound-is [] in omega arith
front_more b (e ∷ pairs) =
    let one = build_bound-cons e pairs in
    let two = sum_by-cons (λ e. pair_bound (b ∷ e.0, e.1)) e pairs in
    let key = key_bound-cons b e.0 in
    let rest = front_more b pairs in
    omega arith

-- a byte in front of all keys of some pairs is counted
front_cost : (b : ℕ) (pairs : Pairs) → (pairs ≡ [] → ⊥) → build_bound pairs + byte_bound b ≤ sum_by (λ e. pair_bound (b ∷ e.0, e.1)) pairs
front_cost b [] some = absurd (some refl)
front_cost b (e ∷ pairs) some =
    let one = build_bound-cons e pairs in
    let two = sum_by-cons (λ e. pair_bound (b ∷ e.0, e.1)) e pairs in
    let key = key_bound-cons b e.0 in
    let rest = front_more b pairs in
    omega arith

one_edge : (b : ℕ) (pairs : Pairs) → cost_behind pair_bound pairs b ≤ build_bound pairs
one_edge b pairs =
    let whole = build_bound-is pairs in
    let one = total-cons (cost_behind pair_bound pairs b) [] in
    let share = shared_out pair_bound 0 (suc b) (b ∷ []) pairs (omega arith, omega arith, tt) in
    omega arith

pub residual_bound : (b : ℕ) (pairs : Pairs) → build_bound (residual b pairs) ≤ build_bound pairs
residual_bound b pairs = let share = one_edge b pairs in let less = front_more b (residual b pairs) in omega arith

pub behind_bound : (front : List ℕ) (pairs : Pairs) → build_bound (behind_all front pairs) ≤ build_bound pairs
behind_bound [] pairs = omega arith
behind_bound (b ∷ front) pairs = let one = residual_bound b pairs in let rest = behind_bound front (residual b pairs) in omega arith

some_bound : (pairs : Pairs) → (pairs ≡ [] → ⊥) → 20 ≤ build_bound pairs
some_bound [] some = absurd (some refl)
some_bound (e ∷ pairs) some = let one = build_bound-cons e pairs in omega arith

-- after each edge there are pairs
pub edge_pairs : (pairs : Pairs) (b : ℕ) → member b (edges pairs) ≡ true → residual b pairs ≡ [] → ⊥
edge_pairs pairs b m none = elim (cases_lt b 256) [
  | inl low ↦ (let is = sym (member-edges pairs b low) ∙ m in let none' : begins_some pairs b ≡ false = begins_behind pairs b ∙ ap some_pair none in absurd (cc))
  | inr high ↦ (let no = member-edges_past pairs b high in absurd (cc))
]

-- a span: what is after it costs less by two for each byte of it
abbrev Spared : Pairs → List ℕ → Type 0
Spared pairs run = (behind_all run pairs ≡ [] → ⊥) × (build_bound (behind_all run pairs) + 2 * length run ≤ build_bound pairs)

high_spares : (d : ℕ) (pairs : Pairs) → (pairs ≡ [] → ⊥) → ((b : ℕ) → (residual b pairs ≡ [] → ⊥) → Spared (residual b pairs) (run_to d (residual b pairs))) → (es : List ℕ) → edges pairs ≡ es
    → Spared pairs (high_edge es (λ b. run_to d (residual b pairs)))
high_spares d pairs some behind [] is = (some, omega arith)
high_spares d pairs some behind (b ∷ []) is =
    let there = edge_pairs pairs b (ap (member b) is ∙ member_head b []) in
    let rest = behind b there in
    cond_both (leb 128 b) (b ∷ run_to d (residual b pairs)) [] (Spared pairs)
    (λ e.
    let high = byte_high b (leb-true 128 b e) in
    let whole = one_edge b pairs in
    let front = front_cost b (residual b pairs) there in
    (rest.0, omega (arith, rest.1)))
    (λ e. (some, omega arith))
high_spares d pairs some behind (b ∷ c ∷ more) is = (some, omega arith)

run_spares : (d : ℕ) (pairs : Pairs) → (pairs ≡ [] → ⊥) → Spared pairs (run_to d pairs)
run_spares zero pairs some = (some, omega arith)
run_spares (suc d) pairs some =
    cond_both (is_some (value_at simple_ascii pairs [])) [] (high_edge (edges pairs) (λ b. run_to d (residual b pairs))) (Spared pairs)
    (λ e. (some, omega arith))
    (λ e. high_spares d pairs some (λ b there. run_spares d (residual b pairs) there) (edges pairs) refl)

-- Lengths of encodings.

-- one bound of all keys' lengths holds of encodings of pairs that have some
Within : ℕ → Kind → Type 0
Within d kind = (pairs : Pairs) → (pairs ≡ [] → ⊥) → build_bound pairs < 2 ^ 64 → size_to d kind pairs + 10 ≤ build_bound pairs

-- what the value of the empty key takes
here_most : (kind : Kind) (pairs : Pairs) → length (value_node (value_at kind pairs [])) + 10 ≤ cost_here pair_bound pairs ⊎ (value_at kind pairs [] ≡ None)
here_most kind [] = inr refl
here_most kind (([], v) ∷ pairs) = inl (let most = spelled_most 16 4 v in let none : key_bound [] ≡ 0 = refl in omega arith)
here_most kind ((b ∷ key, v) ∷ pairs) = here_most kind pairs

-- a target leaves eleven bytes: ten of its pairs and its edge
target_most : (d : ℕ) (kind : Kind) → Within d kind → (pairs : Pairs) → build_bound pairs < 2 ^ 64 → (b : ℕ) → (residual b pairs ≡ [] → ⊥)
    → size_to d kind (residual b pairs) + 10 + byte_bound b ≤ cost_behind pair_bound pairs b
unfolding Within
target_most d kind within pairs short b some =
    let less = residual_bound b pairs in
    let target = within (residual b pairs) some (omega arith) in
    let front = front_cost b (residual b pairs) some in
    omega arith

targets_most : (d : ℕ) (kind : Kind) → Within d kind → (pairs : Pairs) → build_bound pairs < 2 ^ 64 → (es : List ℕ) → ((b : ℕ) → member b es ≡ true → residual b pairs ≡ [] → ⊥)
    → total (map (λ e. size_to d kind (residual e pairs)) es) + 11 * length es ≤ total (map (cost_behind pair_bound pairs) es)
targets_most d kind within pairs short [] some = omega arith
targets_most d kind within pairs short (b ∷ es) some =
    let one = total-cons (size_to d kind (residual b pairs)) (map (λ e. size_to d kind (residual e pairs)) es) in
    let two = total-cons (cost_behind pair_bound pairs b) (map (cost_behind pair_bound pairs) es) in
    let here = target_most d kind within pairs short b (some b (member_head b es)) in
    let byte = byte_some b in
    let rest = targets_most d kind within pairs short es (λ c m. some c (member_later c b es m)) in
    omega arith

span_most : (d : ℕ) (kind : Kind) → Within d kind → (pairs : Pairs) → build_bound pairs < 2 ^ 64 → (b : ℕ) → 128 ≤ b → (residual b pairs ≡ [] → ⊥)
    → span_size (size_to d kind) pairs b + 10 ≤ cost_behind pair_bound pairs b
unfolding Within run_of
span_most d kind within pairs short b high some =
    let q = residual b pairs in
    let run = run_of q in
    let spared = run_spares (longest q) q some in
    let less = residual_bound b pairs in
    let target = within (behind_all run q) spared.0 (omega (arith, spared.1)) in
    let head = span_head (length (b ∷ run)) (omega arith) in
    let front = front_cost b q some in
    let byte = byte_high b high in
    omega (arith, spared.1)

rest_most : (d : ℕ) (kind : Kind) → Within d kind → (pairs : Pairs) → build_bound pairs < 2 ^ 64 → (es : List ℕ) → Rise 0 256 es → ((b : ℕ) → member b es ≡ true → residual b pairs ≡ [] → ⊥)
    → (es ≡ []) ⊎ (rest_size kind (size_to d kind) pairs es + 10 ≤ total (map (cost_behind pair_bound pairs) es))
rest_most d kind within pairs short [] rise some = inl refl
rest_most d kind within pairs short (b ∷ []) rise some = inr (
    let there = some b (member_head b []) in
    let all = total-cons (cost_behind pair_bound pairs b) [] in
    cond_both (leb 128 b && has_spans kind) (span_size (size_to d kind) pairs b) (1 + size_to d kind (residual b pairs)) (λ n. n + 10 ≤ total (map (cost_behind pair_bound pairs) (b ∷ [])))
    (λ e. let span = span_most d kind within pairs short b (leb-true 128 b (and_parts (leb 128 b) (has_spans kind) e).0) there in omega arith)
    (λ e. let target = target_most d kind within pairs short b there in let byte = byte_some b in omega arith))
rest_most d kind within pairs short (b ∷ c ∷ more) rise some = inr (
    let es = b ∷ c ∷ more in
    let lengths = map (λ e. size_to d kind (residual e pairs)) es in
    let targets = targets_most d kind within pairs short es some in
    let share = shared_out pair_bound 0 256 es pairs rise in
    let whole = build_bound-is pairs in
    let count = length-map es (λ e. size_to d kind (residual e pairs)) in
    let branch = branch_most kind lengths (omega arith) (omega arith) in
    omega arith)

within_all : (d : ℕ) (kind : Kind) → Within d kind
unfolding Within
within_all zero kind pairs some short = let least = some_bound pairs some in omega arith
within_all (suc d) kind pairs some short =
    let es = edges pairs in
    let share = shared_out pair_bound 0 256 es pairs (edges_rise pairs) in
    let whole = build_bound-is pairs in
    let least = some_bound pairs some in
    let rest = rest_most d kind (within_all d kind) pairs short es (edges_rise pairs) (edge_pairs pairs) in
    elim (here_most kind pairs) [
      | inl value ↦ elim rest [
        | inl none ↦ (let nothing = ap (rest_size kind (size_to d kind) pairs) none in omega arith)
        | inr more ↦ omega arith
      ]
      | inr none ↦ (let no_value : length (value_node (value_at kind pairs [])) ≡ 0 = ap (λ o. length (value_node o)) none in elim rest [
        | inl none' ↦ (let nothing = ap (rest_size kind (size_to d kind) pairs) none' in omega arith)
        | inr more ↦ omega arith
      ])
    ]

-- An encoding of pairs has no more bytes than their bound.
pub size_of_bound : (kind : Kind) (pairs : Pairs) → build_bound pairs < 2 ^ 64 → size_of kind pairs ≤ build_bound pairs
unfolding size_of Within
size_of_bound kind [] short = let none = size_none kind in omega arith
size_of_bound kind (e ∷ pairs) short = let h = within_all (suc (longest (e ∷ pairs))) kind (e ∷ pairs) (λ z. absurd (cc)) short in omega arith

-- Nor has one of their map.
pub size_bound : (kind : Kind) (pairs : Pairs) → build_bound pairs < 2 ^ 64 → size kind (map_of pairs) ≤ build_bound pairs
unfolding size
size_bound kind pairs short = let same = same-size_of kind (entries (map_of pairs)) pairs (same-entries pairs) in let h = size_of_bound kind pairs short in omega arith

-- So a map that fits has no longer encodings, whatever the bound is.
pub fits_bound : (kind : Kind) (pairs : Pairs) → Fits kind (map_of pairs) → size kind (map_of pairs) ≤ build_bound pairs
fits_bound kind pairs fits = elim (cases_lt (build_bound pairs) (2 ^ 64)) [
  | inl short ↦ size_bound kind pairs short
  | inr long ↦ (let below = fits.short in omega arith)
]

pub meant_bound : (kind : Kind) (bytes : List ℕ) (pairs : Pairs) → Means kind bytes (map_of pairs) → length bytes ≤ build_bound pairs
meant_bound kind bytes pairs means =
    let long = means_size kind bytes (map_of pairs) means in
    elim (cases_lt (build_bound pairs) (2 ^ 64)) [
      | inl short ↦ (let most = size_bound kind pairs short in omega arith)
      | inr large ↦ (let below = means.short in omega arith)
    ]

-- Waiting targets.

counted : (pairs : Pairs) → sum_by (λ e. 1) pairs ≡ length pairs
counted [] = refl
counted (e ∷ pairs) = let one = sum_by-cons (λ e. 1) e pairs in let rest = counted pairs in omega arith

some_pairs : (pairs : Pairs) → (pairs ≡ [] → ⊥) → 1 ≤ length pairs
some_pairs [] some = absurd (some refl)
some_pairs (e ∷ pairs) some = omega arith

-- a target that waits has a pair, and so has one that is written while others wait
waiting : (f : Pairs → ℕ) → ((pairs : Pairs) → f pairs ≤ length pairs) → (pairs : Pairs) (es : List ℕ) → ((b : ℕ) → member b es ≡ true → residual b pairs ≡ [] → ⊥)
    → (branch_need f pairs es ≤ total (map (cost_behind (λ e. 1) pairs) es)) × (length es ≤ total (map (cost_behind (λ e. 1) pairs) es))
waiting f within pairs [] some = (omega arith, omega arith)
waiting f within pairs (b ∷ es) some =
    let one = total-cons (cost_behind (λ e. 1) pairs b) (map (cost_behind (λ e. 1) pairs) es) in
    let rest = waiting f within pairs es (λ c m. some c (member_later c b es m)) in
    let count = counted (residual b pairs) in
    let there = some_pairs (residual b pairs) (some b (member_head b es)) in
    let here = within (residual b pairs) in
    (omega (arith, rest.0, rest.1), omega (arith, rest.1))

need_most : (f : Pairs → ℕ) → ((pairs : Pairs) → f pairs ≤ length pairs) → (pairs : Pairs) (es : List ℕ) → ((b : ℕ) → member b es ≡ true → residual b pairs ≡ [] → ⊥)
    → need_by f pairs es ≤ total (map (cost_behind (λ e. 1) pairs) es)
need_most f within pairs [] some = omega arith
need_most f within pairs (b ∷ []) some =
    let one = total-cons (cost_behind (λ e. 1) pairs b) [] in
    let count = counted (residual b pairs) in
    let here = within (residual b pairs) in
    omega arith
need_most f within pairs (b ∷ c ∷ more) some = (waiting f within pairs (b ∷ c ∷ more) some).0

stack_most : (d : ℕ) (kind : Kind) (pairs : Pairs) → stack_to d kind pairs ≤ length pairs
stack_most zero kind pairs = omega arith
stack_most (suc d) kind pairs =
    let need = need_most (stack_to d kind) (stack_most d kind) pairs (ordered kind (edges pairs)) (λ b m. edge_pairs pairs b (sym (member-ordered kind b (edges pairs)) ∙ m)) in
    let same = total-ordered kind (cost_behind (λ e. 1) pairs) (edges pairs) in
    let share = shared_out (λ e. 1) 0 256 (edges pairs) pairs (edges_rise pairs) in
    let all = counted pairs in
    omega arith

-- Each target that waits while an encoding is written has a pair of its own.
pub stack_of_bound : (kind : Kind) (pairs : Pairs) → stack_of kind pairs ≤ length pairs
unfolding stack_of
stack_of_bound kind pairs = stack_most (suc (longest pairs)) kind pairs

length-put : (key : List ℕ) (v : ℕ) (pairs : Pairs) → length (put (slice_cmp nat_cmp) key v pairs) ≤ suc (length pairs)
length-put key v [] = omega arith
length-put key v (e ∷ pairs) = at (slice_cmp nat_cmp key e.0) (length-put key v pairs)
  where
    at : (o : Ordering) → length (put (slice_cmp nat_cmp) key v pairs) ≤ suc (length pairs) → length (by_order o ((key, v) ∷ e ∷ pairs) ((e.0, v) ∷ pairs) (e ∷ put (slice_cmp nat_cmp) key v pairs)) ≤ suc (suc (length pairs))
    at Less h = omega arith
    at Equal h = omega arith
    at Greater h = omega arith

-- a map has no more entries than the pairs that it is of
pub entries_count : (pairs : Pairs) → length (entries (map_of pairs)) ≤ length pairs
entries_count [] = let none = ap length (entries-map_of [] tt) in omega arith
entries_count (e ∷ pairs) =
    let put_in = ap length (entries-insert nat_list_cmp_total (map_of pairs) e.0 e.1) in
    let one = length-put e.0 e.1 (entries (map_of pairs)) in
    let rest = entries_count pairs in
    omega arith

pub stack_bound : (kind : Kind) (pairs : Pairs) → stack kind (map_of pairs) ≤ length pairs
unfolding stack
stack_bound kind pairs = let most = stack_of_bound kind (entries (map_of pairs)) in let count = entries_count pairs in omega arith

targets_bound : (kind : Kind) (pairs : Pairs) → build_bound pairs < 2 ^ 64 → (es : List ℕ) → total (map (λ b. size_of kind (residual b pairs)) es) ≤ total (map (cost_behind pair_bound pairs) es)
targets_bound kind pairs short [] = omega arith
targets_bound kind pairs short (b ∷ es) =
    let one = total-cons (size_of kind (residual b pairs)) (map (λ b. size_of kind (residual b pairs)) es) in
    let two = total-cons (cost_behind pair_bound pairs b) (map (cost_behind pair_bound pairs) es) in
    let less = residual_bound b pairs in
    let target = size_of_bound kind (residual b pairs) (omega arith) in
    let front = front_more b (residual b pairs) in
    let rest = targets_bound kind pairs short es in
    omega arith

-- the targets of a branch have no more bytes than the bound of its pairs
pub targets_size_bound : (kind : Kind) (pairs : Pairs) → build_bound pairs < 2 ^ 64 → targets_size kind pairs ≤ build_bound pairs
unfolding targets_size
targets_size_bound kind pairs short =
    let targets = targets_bound kind pairs short (edges pairs) in
    let share = shared_out pair_bound 0 256 (edges pairs) pairs (edges_rise pairs) in
    let whole = build_bound-is pairs in
    omega arith

-- no more edges than pairs
pub edges_bound : (pairs : Pairs) → length (edges pairs) ≤ length pairs
edges_bound pairs =
    let some = (waiting (λ p. 0) (λ p. omega arith) pairs (edges pairs) (edge_pairs pairs)).1 in
    let share = shared_out (λ e. 1) 0 256 (edges pairs) pairs (edges_rise pairs) in
    let all = counted pairs in
    omega arith

pub behind_count : (front : List ℕ) (pairs : Pairs) → length (behind_all front pairs) ≤ length pairs
behind_count [] pairs = omega arith
behind_count (b ∷ front) pairs =
    let rest = behind_count front (residual b pairs) in
    let share = shared_out (λ e. 1) 0 (suc b) (b ∷ []) pairs (omega arith, omega arith, tt) in
    let one = total-cons (cost_behind (λ e. 1) pairs b) [] in
    let count = counted (residual b pairs) in
    let all = counted pairs in
    omega arith
