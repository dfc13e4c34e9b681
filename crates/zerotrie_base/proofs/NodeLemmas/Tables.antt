-- The table of a branch: its edges have distinct folds, and if it is sorted, they rise.
use Rattle.std.proofs.Common.{◌≡◌, ℕ, zero, suc, ◌+◌, ◌*◌, ◌%◌, ◌<◌, ◌≤◌, List, [], ◌∷◌, ◌++◌, length, refl, sym, ◌∙◌, ap, subst, arith, get_or, map, Bool, true, false, cond, drop, length-append}
use Rattle.std.specs.List.{slice_index}
use Rattle.std.proofs.lemmas.List.{drop_at}
use Rattle.std.specs.List.Sorted.{IsStrictlyIncreasing}
use Rattle.std.proofs.lemmas.Bool.{ne_eqb}
use Rattle.zerotrie_base.specs.Kind.{Kind, fold_byte, is_hashed}
use Rattle.zerotrie_base.specs.Branches.{IsTable, table_size, before_edges}
use Rattle.zerotrie_base.specs.Branches.IsTable.{sorted, hashed}
use Rattle.zerotrie_base.specs.Hashes.{place_of}
use Rattle.zerotrie_base.specs.reader.Reading.{AlwaysRises}
use Rattle.zerotrie_base.proofs.MapLemmas.Kinds.{hashed_spans, spans_fold}
use Rattle.zerotrie_base.proofs.MapLemmas.Edges.{member}

-- each has the property
abbrev pub Each : (ℕ → Type 0) → List ℕ → Type 0
Each P [] = Unit {0}
Each P (e ∷ es) = P e × Each P es

pub Each-at : (P : ℕ → Type 0) (es : List ℕ) → ((i : ℕ) → i < length es → P (get_or es i 0)) → Each P es
Each-at P [] h = tt
Each-at P (e ∷ es) h = (h 0 (omega arith), Each-at P es (λ i l. h (suc i) (omega arith)))

pub at-Each : (P : ℕ → Type 0) (es : List ℕ) → Each P es → (i : ℕ) → i < length es → P (get_or es i 0)
at-Each P [] each i h = absurd (omega arith)
at-Each P (e ∷ es) each zero h = each.0
at-Each P (e ∷ es) each (suc i) h = at-Each P es each.1 i (omega arith)

pub Each-more : (P Q : ℕ → Type 0) (es : List ℕ) → ((e : ℕ) → P e → Q e) → Each P es → Each Q es
Each-more P Q [] f each = tt
Each-more P Q (e ∷ es) f each = (f e each.0, Each-more P Q es f each.1)

-- no edge has the fold of c
abbrev pub NoneLike : Kind → ℕ → List ℕ → Type 0
NoneLike kind c es = Each (λ e. fold_byte kind c ≡ fold_byte kind e → ⊥) es

-- no two edges have one fold
abbrev pub Distinct : Kind → List ℕ → Type 0
Distinct kind [] = Unit {0}
Distinct kind (e ∷ es) = NoneLike kind e es × Distinct kind es

-- an edge that none is like is none of them
pub none_member : (kind : Kind) (c : ℕ) (es : List ℕ) → NoneLike kind c es → member c es ≡ false
none_member kind c [] none = refl
none_member kind c (e ∷ es) none = rw (ne_eqb e c (λ s. none.0 (ap (fold_byte kind) (sym s)))) (none_member kind c es none.1)

-- each edge has a greater fold than x
abbrev pub AllAbove : Kind → ℕ → List ℕ → Type 0
AllAbove kind x es = Each (λ e. x < fold_byte kind e) es

-- the folds of the edges rise
abbrev pub Rises : Kind → List ℕ → Type 0
Rises kind [] = Unit {0}
Rises kind (e ∷ es) = AllAbove kind (fold_byte kind e) es × Rises kind es

pub AllAbove-lower : (kind : Kind) (x y : ℕ) (es : List ℕ) → x < y → AllAbove kind y es → AllAbove kind x es
AllAbove-lower kind x y es h above = Each-more _ _ es (λ e a. omega arith) above

-- folds that rise are distinct
pub rises_distinct : (kind : Kind) (es : List ℕ) → Rises kind es → Distinct kind es
rises_distinct kind [] up = tt
rises_distinct kind (e ∷ es) up = (Each-more _ _ es (λ f a same. omega arith) up.0, rises_distinct kind es up.1)

pub rises_at : (kind : Kind) (es : List ℕ) → Rises kind es → AlwaysRises kind es
rises_at kind [] up i j le h = absurd (omega arith)
rises_at kind (e ∷ es) up i zero le h = absurd (omega arith)
rises_at kind (e ∷ es) up zero (suc j) le h = at-Each (λ f. fold_byte kind e < fold_byte kind f) es up.0 j (omega arith)
rises_at kind (e ∷ es) up (suc i) (suc j) le h = rises_at kind es up.1 i j (omega arith) (omega arith)

first_above : (kind : Kind) (e : ℕ) (es : List ℕ) → IsStrictlyIncreasing (map (fold_byte kind) (e ∷ es)) → Rises kind es → AllAbove kind (fold_byte kind e) es
first_above kind e [] up r = tt
first_above kind e (f ∷ es) up r =
    let next : fold_byte kind e < fold_byte kind f = up 0 (omega arith) in
    (next, AllAbove-lower kind (fold_byte kind e) (fold_byte kind f) es next r.0)

tail_rises : (x : ℕ) (xs : List ℕ) → IsStrictlyIncreasing (x ∷ xs) → IsStrictlyIncreasing xs
tail_rises x xs up k h =
    let s : suc k + 1 ≡ suc (k + 1) = omega arith in
    subst (λ j. get_or (x ∷ xs) (suc k) 0 < get_or (x ∷ xs) j 0) s (up (suc k) (omega arith))

pub increasing_rises : (kind : Kind) (es : List ℕ) → IsStrictlyIncreasing (map (fold_byte kind) es) → Rises kind es
increasing_rises kind [] up = tt
increasing_rises kind (e ∷ es) up =
    let r = increasing_rises kind es (tail_rises (fold_byte kind e) (map (fold_byte kind) es) up) in
    (first_above kind e es up r, r)

-- a sorted table is the edges, which rise
pub table_is_edges : {kind : Kind} {edges table : List ℕ} → is_hashed kind (length edges) ≡ false → IsTable kind edges table → table ≡ edges
table_is_edges plain (sorted h up) = refl
table_is_edges plain (hashed h perfect) = absurd (cc)

pub table_rises : {kind : Kind} {edges table : List ℕ} → is_hashed kind (length edges) ≡ false → IsTable kind edges table → Rises kind edges
table_rises plain (sorted h up) = increasing_rises _ _ up
table_rises plain (hashed h perfect) = absurd (cc)

-- what has a place before all of these is none of them
not_placed : (kind : Kind) (place : ℕ → ℕ) (x from : ℕ) (es : List ℕ) → ((b : ℕ) → fold_byte kind b ≡ b) → place x < from → ((i : ℕ) → i < length es → place (slice_index es i) ≡ from + i) → NoneLike kind x es
not_placed kind place x from [] keeps before at = tt
not_placed kind place x from (e ∷ es) keeps before at = (
  (let here = at 0 (omega arith) in (λ same. let moved = ap place (sym (keeps x) ∙ same ∙ keeps e) in omega arith)),
  not_placed kind place x (suc from) es keeps (omega arith) (λ i h. let later = at (suc i) (omega arith) in omega arith),
)

-- keys with places of their own are distinct, if case is kept
placed_distinct : (kind : Kind) (place : ℕ → ℕ) (from : ℕ) (es : List ℕ) → ((b : ℕ) → fold_byte kind b ≡ b) → ((i : ℕ) → i < length es → place (slice_index es i) ≡ from + i) → Distinct kind es
placed_distinct kind place from [] keeps at = tt
placed_distinct kind place from (e ∷ es) keeps at = (
  (let here = at 0 (omega arith) in not_placed kind place e (suc from) es keeps (omega arith) (λ i h. let later = at (suc i) (omega arith) in omega arith)),
  placed_distinct kind place (suc from) es keeps (λ i h. let later = at (suc i) (omega arith) in omega arith),
)

-- any table has edges with distinct folds
pub table_distinct : {kind : Kind} {edges table : List ℕ} → IsTable kind edges table → Distinct kind edges
table_distinct (sorted h up) = rises_distinct _ _ (increasing_rises _ _ up)
table_distinct {kind = kind} {edges = es} (hashed {p = p} {qs = qs} h perfect) =
    placed_distinct kind (place_of p qs (length es % 256)) 0 es (spans_fold kind (hashed_spans kind (length es) h)) (λ i l. let at = perfect.places i l in omega arith)

pub length-table : {kind : Kind} {edges table : List ℕ} → IsTable kind edges table → length table ≡ table_size kind (length edges)
length-table (sorted plain up) = rw plain refl
length-table {edges = es} (hashed {qs = qs} wide perfect) = let n = perfect.a_q_each in let all = length-append qs es in rw wide (omega arith)

-- the edges are the last bytes of the table
pub edges_of_table : {kind : Kind} {edges table : List ℕ} → IsTable kind edges table → drop (before_edges kind (length edges)) table ≡ edges
edges_of_table (sorted plain up) = rw plain refl
edges_of_table {edges = es} (hashed {p = p} {qs = qs} wide perfect) =
    let n = perfect.a_q_each in
    rw wide (ap (λ k. drop k (p ∷ (qs ++ es))) (let one : length es + 1 ≡ suc (length qs) = omega arith in one) ∙ drop_at qs es (length qs) refl)

pub before_within : {kind : Kind} {edges table : List ℕ} → IsTable kind edges table → before_edges kind (length edges) ≤ length table
before_within (sorted plain up) = rw plain (omega arith)
before_within {edges = es} (hashed {qs = qs} wide perfect) = let n = perfect.a_q_each in let all = length-append qs es in rw wide (omega arith)

pub table_parts : (kind : Kind) (n : ℕ) → before_edges kind n + n ≡ table_size kind n
table_parts kind n = both (is_hashed kind n)
  where
    both : (b : Bool) → cond b (n + 1) 0 + n ≡ cond b (2 * n + 1) n
    both true = omega arith
    both false = omega arith
