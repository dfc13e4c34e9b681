-- Groups of pairs after bytes: their edges, and how long their texts are.
use Rattle.std.proofs.Common.{◌≡◌, ℕ, suc, ◌+◌, ◌*◌, ◌<◌, ◌≤◌, List, [], ◌∷◌, ◌++◌, length, refl, sym, ◌∙◌, ap, arith, map, None, Bool, true, false, inl, inr}
use Rattle.std.proofs.lemmas.Bool.{cases_lt}
use Rattle.std.proofs.lemmas.List.{length-map, append-nil}
use Rattle.zerotrie_base.specs.Kind.{Kind, ordered, is_hashed}
use Rattle.zerotrie_base.specs.Maps.{Pairs, with_front, value_at, begins_some, residual, edges}
use Rattle.zerotrie_base.specs.Branches.{total, table_size}
use Rattle.zerotrie_base.specs.Canonical.{size_of, branch_size}
use Rattle.zerotrie_base.specs.Fits.{targets_size}
use Rattle.zerotrie_base.proofs.CallerLemmas.{Rises, member, member_head, member_later, begins_some-append, begins_some-front, residual-front, residual-append, residual-other, some_pair, begins_behind, ordered_is, edges_rise, member-edges, member-edges_past, length-ordered, total-ordered, edge_once, not_first, front_len, length-branch_front, size_branch}

abbrev pub grouped : List ℕ → List Pairs → Pairs
grouped [] ps = []
grouped (b ∷ bs) [] = []
grouped (b ∷ bs) (p ∷ ps) = with_front b p ++ grouped bs ps

-- as many groups as bytes, and each has some pair
abbrev pub SomeEach : List ℕ → List Pairs → Type 0
SomeEach [] [] = Unit {0}
SomeEach [] (p ∷ ps) = ⊥
SomeEach (b ∷ bs) [] = ⊥
SomeEach (b ∷ bs) (p ∷ ps) = (p ≡ [] → ⊥) × SomeEach bs ps

length-grouped : (bs : List ℕ) (ps : List Pairs) → SomeEach bs ps → length ps ≡ length bs
length-grouped [] [] some = refl
length-grouped [] (p ∷ ps) some = absurd some
length-grouped (b ∷ bs) [] some = absurd some
length-grouped (b ∷ bs) (p ∷ ps) some = ap suc (length-grouped bs ps some.1)

begins_grouped : (bs : List ℕ) (ps : List Pairs) → SomeEach bs ps → (b : ℕ) → begins_some (grouped bs ps) b ≡ member b bs
begins_grouped [] [] some b = refl
begins_grouped [] (p ∷ ps) some b = absurd some
begins_grouped (e ∷ bs) [] some b = absurd some
begins_grouped (e ∷ bs) (p ∷ ps) some b = begins_some-append (with_front e p) (grouped bs ps) b ∙ rw (begins_some-front e b p some.0, begins_grouped bs ps some.1 b) refl

past_none : (is : Bool) (b : ℕ) → 256 ≤ b → (is ≡ true → b < 256) → is ≡ false
past_none true b high h = absurd (let low = h refl in omega arith)
past_none false b high h = refl

-- the edges of groups are their bytes
pub edges_grouped : (kind : Kind) (bs : List ℕ) (ps : List Pairs) → SomeEach bs ps → Rises kind bs → ((b : ℕ) → member b bs ≡ true → b < 256) → ordered kind (edges (grouped bs ps)) ≡ bs
edges_grouped kind bs ps some rises bytes =
    ordered_is kind 0 256 (edges (grouped bs ps)) bs (edges_rise (grouped bs ps)) rises (λ b. elim (cases_lt b 256) [
      | inl low ↦ member-edges (grouped bs ps) b low ∙ begins_grouped bs ps some b
      | inr high ↦ member-edges_past (grouped bs ps) b high ∙ sym (past_none (member b bs) b high (bytes b))
    ])

no_pair : (pairs : Pairs) → some_pair pairs ≡ false → pairs ≡ []
no_pair [] h = refl
no_pair (e ∷ pairs) h = absurd (cc)

-- what stands after the first byte is the first group
pub residual_group : (kind : Kind) (b : ℕ) (bs : List ℕ) (p : Pairs) (ps : List Pairs) → SomeEach (b ∷ bs) (p ∷ ps) → Rises kind (b ∷ bs) → residual b (grouped (b ∷ bs) (p ∷ ps)) ≡ p
residual_group kind b bs p ps some rises =
    let none : residual b (grouped bs ps) ≡ [] = no_pair (residual b (grouped bs ps)) (sym (begins_behind (grouped bs ps) b) ∙ begins_grouped bs ps some.1 b ∙ edge_once kind b bs rises.0) in
    residual-append b (with_front b p) (grouped bs ps) ∙ ap (λ x. x ++ residual b (grouped bs ps)) (residual-front b p) ∙ ap (λ x. p ++ x) none ∙ append-nil p

-- each group is what stands after its byte
pub sizes_grouped : {A : Type 0} (kind : Kind) (f : Pairs → A) (bs : List ℕ) (ps : List Pairs) (all : Pairs) → SomeEach bs ps → Rises kind bs → ((b : ℕ) → member b bs ≡ true → residual b all ≡ residual b (grouped bs ps))
    → map (λ b. f (residual b all)) bs ≡ map f ps
sizes_grouped kind f [] [] all some rises same = refl
sizes_grouped kind f [] (p ∷ ps) all some rises same = absurd some
sizes_grouped kind f (b ∷ bs) [] all some rises same = absurd some
sizes_grouped kind f (b ∷ bs) (p ∷ ps) all some rises same =
    let out = edge_once kind b bs rises.0 in
    let none : residual b (grouped bs ps) ≡ [] = no_pair (residual b (grouped bs ps)) (sym (begins_behind (grouped bs ps) b) ∙ begins_grouped bs ps some.1 b ∙ out) in
    let first : residual b all ≡ p = same b (member_head b bs) ∙ residual-append b (with_front b p) (grouped bs ps) ∙ ap (λ x. x ++ residual b (grouped bs ps)) (residual-front b p) ∙ ap (λ x. p ++ x) none ∙ append-nil p in
    let later : (c : ℕ) → member c bs ≡ true → residual c all ≡ residual c (grouped bs ps) = λ c h.
    (same c (member_later c b bs h) ∙ residual-append c (with_front b p) (grouped bs ps) ∙ ap (λ x. x ++ residual c (grouped bs ps)) (residual-other c b p (not_first b c bs out h))) in
    ap (λ x. f x ∷ map (λ c. f (residual c all)) bs) first ∙ ap (λ r. f p ∷ r) (sizes_grouped kind f bs ps all some.1 rises.1 later)

-- no key ends
none_front : (kind : Kind) (b : ℕ) (p q : Pairs) → value_at kind q [] ≡ None → value_at kind (with_front b p ++ q) [] ≡ None
none_front kind b [] q h = h
none_front kind b (e ∷ p) q h = none_front kind b p q h

pub none_grouped : (kind : Kind) (bs : List ℕ) (ps : List Pairs) → value_at kind (grouped bs ps) [] ≡ None
none_grouped kind [] ps = refl
none_grouped kind (b ∷ bs) [] = refl
none_grouped kind (b ∷ bs) (p ∷ ps) = none_front kind b p (grouped bs ps) (none_grouped kind bs ps)

-- the bytes of a branch go by how many targets it has and how long they are together
pub branch_size_is : (kind : Kind) (xs : List ℕ) → branch_size kind xs ≡ front_len (total xs) (length xs) + table_size kind (length xs)
branch_size_is kind xs = let front = length-branch_front [] xs in omega arith

pub table_hashed : (kind : Kind) (n : ℕ) → is_hashed kind n ≡ true → table_size kind n ≡ 2 * n + 1
table_hashed kind n h = rw h refl

pub table_sorted : (kind : Kind) (n : ℕ) → is_hashed kind n ≡ false → table_size kind n ≡ n
table_sorted kind n h = rw h refl

-- how long the text of groups is
pub record Sized (kind : Kind) (pairs : Pairs) (sizes : List ℕ) : Type 0 where
  pub count : length (edges pairs) ≡ length sizes
  pub targets : targets_size kind pairs ≡ total sizes
  pub size : size_of kind pairs ≡ branch_size kind sizes + total sizes

targets_grouped : (kind : Kind) (bs : List ℕ) (ps : List Pairs) → SomeEach bs ps → Rises kind bs → ((b : ℕ) → member b bs ≡ true → b < 256) → targets_size kind (grouped bs ps) ≡ total (map (size_of kind) ps)
unfolding targets_size
targets_grouped kind bs ps some rises bytes =
    let all = grouped bs ps in
    let f : ℕ → ℕ = λ b. size_of kind (residual b all) in
    sym (total-ordered kind f (edges all)) ∙ ap (λ es. total (map f es)) (edges_grouped kind bs ps some rises bytes)
    ∙ ap total (sizes_grouped kind (size_of kind) bs ps all some rises (λ b h. refl))

totals_targets : (kind : Kind) (all : Pairs) → total (map (λ b. size_of kind (residual b all)) (edges all)) ≡ targets_size kind all
unfolding targets_size
totals_targets kind all = refl

pub size_grouped : (kind : Kind) (bs : List ℕ) (ps : List Pairs) → SomeEach bs ps → Rises kind bs → ((b : ℕ) → member b bs ≡ true → b < 256) → 2 ≤ length bs → Sized kind (grouped bs ps) (map (size_of kind) ps)
size_grouped kind bs ps some rises bytes two =
    let all = grouped bs ps in
    let f : ℕ → ℕ = λ b. size_of kind (residual b all) in
    let sizes = map (size_of kind) ps in
    let count : length (edges all) ≡ length sizes = sym (length-ordered kind (edges all)) ∙ ap length (edges_grouped kind bs ps some rises bytes) ∙ sym (length-grouped bs ps some) ∙ sym (length-map ps (size_of kind)) in
    let many = length-map ps (size_of kind) in
    let pairs_many = length-grouped bs ps some in
    let targets = targets_grouped kind bs ps some rises bytes in
    let sum : total (map f (edges all)) ≡ total sizes = totals_targets kind all ∙ targets in
    let long : length (map f (edges all)) ≡ length sizes = length-map (edges all) f ∙ count in
    let front : branch_size kind (map f (edges all)) ≡ branch_size kind sizes =
    branch_size_is kind (map f (edges all)) ∙ ap (λ n. front_len n (length (map f (edges all))) + table_size kind (length (map f (edges all)))) sum
    ∙ ap (λ n. front_len (total sizes) n + table_size kind n) long ∙ sym (branch_size_is kind sizes) in
    record {
      count = count;
      targets = targets;
      size = size_branch kind all (omega arith) (none_grouped kind bs ps) ∙ ap (λ n. n + targets_size kind all) front ∙ ap (λ n. branch_size kind sizes + n) targets;
    }
