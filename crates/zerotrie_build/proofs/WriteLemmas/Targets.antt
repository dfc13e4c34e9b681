-- What the targets of a branch answer, in whatever order they stand.
use Rattle.std.proofs.Common.{◌≡◌, ℕ, zero, suc, ◌+◌, ◌*◌, ◌%◌, ◌^◌, ◌<◌, ◌≤◌, ◌⊎◌, inl, inr, List, [], ◌∷◌, ◌++◌, length, refl, sym, ◌∙◌, ap, subst, arith, get_or, map, All, None}
use Rattle.std.specs.Prelude.{Contains}
use Rattle.std.specs.List.{concat, AllByRecursion}
use Rattle.std.specs.List.Sorted.{IsPermutation, IsStrictlyIncreasing}
use Rattle.std.proofs.lemmas.Bool.{cases_eq, eq-eqb, ne_eqb}
use Rattle.std.proofs.lemmas.List.{get_or_default, get_or-map}
use Rattle.std.proofs.lemmas.List.Sorted.{IsPermutation-sym, Contains-permutation}
use Rattle.zerotrie_base.specs.Kind.{Kind, simple_ascii, ignore_case, perfect_hash, extended_capacity, fold_byte, edge_limit, greatest_width}
use Rattle.zerotrie_base.specs.Numbers.{branch_form, spelled_as}
use Rattle.zerotrie_base.specs.Maps.{Pairs, with_front, value_at}
use Rattle.zerotrie_base.specs.Branches.{IsBranch, IsTable, width, branch_front}
use Rattle.zerotrie_base.specs.Texts.{ListEach}
use Rattle.zerotrie_base.specs.Texts.ListEach.{no_edge, edge}
use Rattle.zerotrie_base.specs.Canonical.{size_of}
use Rattle.zerotrie_base.proofs.CallerLemmas.{Distinct, NoneLike, value_at-no_key, value_at-front, value_at-other, value_at-append, value_at-some, spells_spelled, IsWidth-width, front_targets, fold_ascii, greatest_width_most}
use Rattle.zerotrie_build.specs.declared.windows.Window.{Window}
use Rattle.zerotrie_build.specs.passes.Windows.{cut, window, edge_of}
use Rattle.zerotrie_build.specs.passes.Measured.{Groups, sizes_of}
use Rattle.zerotrie_build.specs.passes.Writing.{no_window, window_at, target_lens, Texts}
use Rattle.zerotrie_build.proofs.WriteLemmas.Puts.{count_map}
use Rattle.zerotrie_build.proofs.WindowLemmas.Windows.{cut_none, cut_append}
use Rattle.zerotrie_build.proofs.WriteLemmas.Layouts.{Up, up_of, up_count}
use Rattle.zerotrie_build.proofs.WriteLemmas.Listed.{Same, listed_some, listed_long}
use Rattle.zerotrie_build.proofs.WriteLemmas.Fronts.{window_some}

-- What the pairs of windows answer, each after its edge.
pub record Answers (all : Pairs) (ws : List Window) (pairs : Pairs) : Type 0 where
  pub none : value_at simple_ascii pairs [] ≡ None
  pub at : (i : ℕ) → i < length ws → (key : List ℕ) → value_at simple_ascii pairs (edge_of all (get_or ws i no_window) ∷ key) ≡ value_at simple_ascii (window all (get_or ws i no_window)) key
  pub other : (b : ℕ) → ((i : ℕ) → i < length ws → edge_of all (get_or ws i no_window) ≡ b → ⊥) → (key : List ℕ) → value_at simple_ascii pairs (b ∷ key) ≡ None

-- no two windows have one edge
abbrev pub Apart : Pairs → List Window → Type 0
Apart all [] = Unit {0}
Apart all (w ∷ ws) = ((i : ℕ) → i < length ws → edge_of all w ≡ edge_of all (get_or ws i no_window) → ⊥) × Apart all ws

apart_one : (kind : Kind) (all : Pairs) (w : Window) (ws : List Window) → NoneLike kind (edge_of all w) (map (edge_of all) ws) → (i : ℕ) → i < length ws → edge_of all w ≡ edge_of all (get_or ws i no_window) → ⊥
apart_one kind all w [] none i h same = omega arith
apart_one kind all w (x ∷ ws) none zero h same = none.0 (ap (fold_byte kind) same)
apart_one kind all w (x ∷ ws) none (suc i) h same = apart_one kind all w ws none.1 i (omega arith) same

pub apart_distinct : (kind : Kind) (all : Pairs) (ws : List Window) → Distinct kind (map (edge_of all) ws) → Apart all ws
apart_distinct kind all [] d = tt
apart_distinct kind all (w ∷ ws) d = (apart_one kind all w ws d.0, apart_distinct kind all ws d.1)

above_apart : (kind : Kind) (all : Pairs) (w : Window) (ws : List Window) → AllByRecursion (λ y. fold_byte kind (edge_of all w) < y) (map (fold_byte kind) (map (edge_of all) ws)) → (i : ℕ) → i < length ws → edge_of all w ≡ edge_of all (get_or ws i no_window) → ⊥
above_apart kind all w [] a i h same = omega arith
above_apart kind all w (x ∷ ws) a zero h same = let f = ap (fold_byte kind) same in let l = a.0 in omega arith
above_apart kind all w (x ∷ ws) a (suc i) h same = above_apart kind all w ws a.1 i (omega arith) same

pub apart_up : (kind : Kind) (all : Pairs) (ws : List Window) → Up (map (fold_byte kind) (map (edge_of all) ws)) → Apart all ws
apart_up kind all [] up = tt
apart_up kind all (w ∷ ws) up = (above_apart kind all w ws up.0, apart_up kind all ws up.1)

answers_none : (all : Pairs) → Answers all [] []
answers_none all = record { none = refl; at = λ i h key. absurd (omega arith); other = λ b h key. refl }

answers_more : (all : Pairs) (w : Window) (ws : List Window) (p more : Pairs) → Apart all (w ∷ ws) → Same p (window all w) → Answers all ws more → Answers all (w ∷ ws) (with_front (edge_of all w) p ++ more)
answers_more all w ws p more apart same a = record {
  none = value_at-append simple_ascii [] (with_front e p) more (value_at-no_key simple_ascii e p) ∙ a.none;
  at = each;
  other = λ b h key. value_at-append simple_ascii (b ∷ key) (with_front e p) more (value_at-other simple_ascii e b key p (ne_eqb e b (h 0 (omega arith)))) ∙ a.other b (λ i l. h (suc i) (omega arith)) key;
}
  where
    e : ℕ
    e = edge_of all w

    each : (i : ℕ) → i < length (w ∷ ws) → (key : List ℕ) → value_at simple_ascii (with_front e p ++ more) (edge_of all (get_or (w ∷ ws) i no_window) ∷ key) ≡ value_at simple_ascii (window all (get_or (w ∷ ws) i no_window)) key
    each zero h key =
        value_at-some simple_ascii (e ∷ key) (with_front e p) more (a.other e (λ i l f. apart.0 i l (sym f)) key)
        ∙ value_at-front simple_ascii e e key p (eq-eqb e e refl) ∙ same key
    each (suc i) h key =
        let f = edge_of all (get_or ws i no_window) in
        value_at-append simple_ascii (f ∷ key) (with_front e p) more (value_at-other simple_ascii e f key p (ne_eqb e f (apart.0 i (omega arith))))
        ∙ a.at i (omega arith) key

-- so do the pairs of a window that branches
pub groups_answers : (all : Pairs) (d from to : ℕ) (cs : List Window) → Groups all d from to cs → Apart all cs → (from ≤ to) × Answers all cs (cut all from to d)
groups_answers all d from to [] g apart = (omega arith, subst (Answers all []) (sym (cut_none all from to d (omega arith))) (answers_none all))
groups_answers all d from to (c ∷ cs) g apart =
    let r = groups_answers all d c.to to cs g.5 apart.1 in
    let less = g.2 in
    let whole = cut_append all from c.to to d (omega arith) g.3 ∙ ap (λ x. x ++ cut all c.to to d) g.4 in
    (omega (arith, g.3), subst (Answers all (c ∷ cs)) (sym whole) (answers_more all c cs (window all c) (cut all c.to to d) apart (λ key. refl) r.1))

seek : (all : Pairs) (ws : List Window) (b : ℕ) → ((i : ℕ) × (i < length ws) × (edge_of all (get_or ws i no_window) ≡ b)) ⊎ ((i : ℕ) → i < length ws → edge_of all (get_or ws i no_window) ≡ b → ⊥)
seek all [] b = inr (λ i h e. omega arith)
seek all (w ∷ ws) b = elim (cases_eq (edge_of all w) b) [
  | inl here ↦ inl (0, omega arith, here)
  | inr other ↦ elim (seek all ws b) [
    | inl later ↦ inl (suc later.0, (let l = later.1 in omega arith), later.2)
    | inr none ↦ inr (apart none other)
  ]
]
  where
    apart : ((i : ℕ) → i < length ws → edge_of all (get_or ws i no_window) ≡ b → ⊥) → (edge_of all w ≡ b → ⊥) → (i : ℕ) → i < length (w ∷ ws) → edge_of all (get_or (w ∷ ws) i no_window) ≡ b → ⊥
    apart none other zero h e = other e
    apart none other (suc i) h e = none i (omega arith) e

-- where an element is after a change of places
pub moved : (xs ys : List Window) (i : ℕ) → IsPermutation xs ys → i < length xs → (j : ℕ) × (j < length ys) × (get_or ys j no_window ≡ get_or xs i no_window)
moved xs ys i perm h =
    let w = get_or xs i no_window in
    let c : Contains ys w = Contains-permutation xs ys w perm (i, h, get_or_default xs i w no_window h) in
    (c.0, c.1, get_or_default ys c.0 no_window w c.1 ∙ c.2)

-- the same windows in another order answer the same
pub answers_same : (all : Pairs) (ws vs : List Window) (p q : Pairs) → IsPermutation ws vs → Answers all ws p → Answers all vs q → Same p q
answers_same all ws vs p q perm a b [] = a.none ∙ sym b.none
answers_same all ws vs p q perm a b (c ∷ key) = elim (seek all ws c) [
  | inl found ↦
      let i = found.0 in
      let m = moved ws vs i perm found.1 in
      let w = get_or ws i no_window in
      let left : value_at simple_ascii p (c ∷ key) ≡ value_at simple_ascii (window all w) key = ap (λ x. value_at simple_ascii p (x ∷ key)) (sym found.2) ∙ a.at i found.1 key in
      let right : value_at simple_ascii q (c ∷ key) ≡ value_at simple_ascii (window all w) key =
      ap (λ x. value_at simple_ascii q (x ∷ key)) (sym (ap (edge_of all) m.2 ∙ found.2)) ∙ b.at m.0 m.1 key ∙ ap (λ x. value_at simple_ascii (window all x) key) m.2 in
      left ∙ sym right
  | inr none ↦
      a.other c none key
      ∙ sym (b.other c (λ j h e. let m = moved vs ws j (IsPermutation-sym ws vs perm) h in none m.0 m.1 (ap (edge_of all) m.2 ∙ e)) key)
]

-- texts of windows, each after its edge
pub record Each (kind : Kind) (all : Pairs) (ws : List Window) (texts : List (List ℕ)) : Type 0 where
  pub listed : Pairs
  pub each : ListEach kind (map (edge_of all) ws) texts listed
  pub answers : Answers all ws listed

pub texts_each : (kind : Kind) (all : Pairs) (ws : List Window) (texts : List (List ℕ)) → Apart all ws → ((i : ℕ) → i < length ws → window all (get_or ws i no_window) ≡ [] → ⊥) → Texts kind all ws texts → Each kind all ws texts
texts_each kind all [] [] apart some h = record { listed = []; each = no_edge; answers = answers_none all }
texts_each kind all [] (t ∷ ts) apart some h = absurd h
texts_each kind all (w ∷ ws) [] apart some h = absurd h
texts_each kind all (w ∷ ws) (t ∷ ts) apart some h =
    let r = texts_each kind all ws ts apart.1 (λ i l. some (suc i) (omega arith)) h.1 in
    let l = h.0 in
    record {
      listed = with_front (edge_of all w) l.listed ++ r.listed;
      each = edge (listed_some l (some 0 (omega arith))) l.lists r.each;
      answers = answers_more all w ws l.listed r.listed apart l.same r.answers;
    }

pub groups_some : (all : Pairs) (d from to : ℕ) (cs : List Window) → to ≤ length all → Groups all d from to cs → (i : ℕ) → i < length cs → window all (get_or cs i no_window) ≡ [] → ⊥
groups_some all d from to [] within g i h = λ e. omega arith
groups_some all d from to (c ∷ cs) within g zero h = window_some all c (let f = g.0 in let l = g.2 in omega arith) (let m = g.3 in omega arith)
groups_some all d from to (c ∷ cs) within g (suc i) h = groups_some all d c.to to cs within g.5 i (omega arith)

pub map_same : {A : Type 0} (xs : List A) → map (λ x. x) xs ≡ xs
map_same [] = refl
map_same (x ∷ xs) = ap (λ r. x ∷ r) (map_same xs)

pub texts_count : (kind : Kind) (all : Pairs) (ws : List Window) (texts : List (List ℕ)) → Texts kind all ws texts → length texts ≡ length ws
texts_count kind all [] [] h = refl
texts_count kind all [] (t ∷ ts) h = absurd h
texts_count kind all (w ∷ ws) [] h = absurd h
texts_count kind all (w ∷ ws) (t ∷ ts) h = ap suc (texts_count kind all ws ts h.1)

pub by_recursion : (high : ℕ) (xs : List ℕ) → ((k : ℕ) → k < length xs → get_or xs k 0 < high) → AllByRecursion (λ j. j < high) xs
by_recursion high [] h = tt
by_recursion high (x ∷ xs) h = (h 0 (omega arith), by_recursion high xs (λ k l. h (suc k) (omega arith)))

-- the lengths of the targets in the order of the table
pub sizes_at : (kind : Kind) (all : Pairs) (cs : List Window) (numbers : List ℕ) → AllByRecursion (λ j. j < length cs) numbers → target_lens (sizes_of kind all cs) numbers ≡ sizes_of kind all (map (window_at cs) numbers)
sizes_at kind all cs [] within = refl
sizes_at kind all cs (j ∷ numbers) within =
    let here : get_or (sizes_of kind all cs) j 0 ≡ size_of kind (window all (window_at cs j)) =
    get_or-map (size_of kind) (map (window all) cs) j [] 0 (let n = count_map (window all) cs in let l = within.0 in omega arith) ∙ ap (size_of kind) (get_or-map (window all) cs j no_window [] within.0) in
    ap (λ x. x ∷ target_lens (sizes_of kind all cs) numbers) here ∙ ap (λ r. size_of kind (window all (window_at cs j)) ∷ r) (sizes_at kind all cs numbers within.1)

pub sizes_count : (kind : Kind) (all : Pairs) (cs : List Window) → length (sizes_of kind all cs) ≡ length cs
sizes_count kind all cs = count_map (size_of kind) (map (window all) cs) ∙ count_map (window all) cs

pub texts_sizes : (kind : Kind) (all : Pairs) (ws : List Window) (texts : List (List ℕ)) → Texts kind all ws texts → sizes_of kind all ws ≡ map length texts
texts_sizes kind all [] [] h = refl
texts_sizes kind all [] (t ∷ ts) h = absurd h
texts_sizes kind all (w ∷ ws) [] h = absurd h
texts_sizes kind all (w ∷ ws) (t ∷ ts) h = ap (λ x. x ∷ sizes_of kind all ws) (sym (listed_long h.0)) ∙ ap (λ r. length t ∷ r) (texts_sizes kind all ws ts h.1)

fold_below : (kind : Kind) (b : ℕ) → b < edge_limit kind → fold_byte kind b < 256
fold_below simple_ascii b h = omega arith
fold_below ignore_case b h = let f = fold_ascii ignore_case b h in omega arith
fold_below perfect_hash b h = h
fold_below extended_capacity b h = h

folds_below : (kind : Kind) (es : List ℕ) → All (λ b. b < edge_limit kind) es → AllByRecursion (λ x. x < 256) (map (fold_byte kind) es)
folds_below kind [] low = tt
folds_below kind (e ∷ es) low = (fold_below kind e (low 0 0 (omega arith)), folds_below kind es (λ k d h. low (suc k) d (omega arith)))

from_zero : (xs : List ℕ) → AllByRecursion (λ x. 0 ≤ x) xs
from_zero [] = tt
from_zero (x ∷ xs) = (omega arith, from_zero xs)

pub edges_most : (kind : Kind) (es : List ℕ) → IsStrictlyIncreasing (map (fold_byte kind) es) → All (λ b. b < edge_limit kind) es → length es ≤ 256
edges_most kind es up low =
    let n = up_count 0 256 (map (fold_byte kind) es) (up_of _ up) (from_zero _) (folds_below kind es low) in
    let k = count_map (fold_byte kind) es in
    omega arith

pub branch_made : (kind : Kind) (es table : List ℕ) (texts : List (List ℕ)) → 2 ≤ length es → length es ≤ 256 → length texts ≡ length es → All (λ b. b < edge_limit kind) es → IsTable kind es table
    → length (concat texts) < 256 ^ (greatest_width kind + 1) → IsBranch kind es texts (branch_front table (map length texts) ++ concat texts)
branch_made kind es table texts two most count low is narrow =
    let right = IsWidth-width (length (concat texts)) in
    let fits = right.least (greatest_width kind) narrow in
    let widest = greatest_width_most kind in
    record {
      head = spelled_as branch_form (256 * width (length (concat texts)) + length es % 256);
      table = table;
      width = width (length (concat texts));
      two = two;
      at_most = most;
      a_target_each = count;
      edge_bytes = low;
      is_width = right;
      fits = fits;
      is_head = spells_spelled 32 3 _ (omega arith) (inr refl);
      is_table = is;
      bytes_are = front_targets table texts (length es) count;
    }
