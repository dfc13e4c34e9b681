-- What was counted node by node is the report.
use Rattle.std.proofs.Common.{◌≡◌, ℕ, suc, ◌+◌, ◌<◌, ◌≤◌, List, [], ◌∷◌, ◌++◌, length, refl, sym, ◌∙◌, ap, arith, Option, Some, None, max, map, length-append, append_assoc, Bool}
use Rattle.std.specs.Prelude.{set, get_or, cond, ◌==◌}
use Rattle.std.proofs.lemmas.List.{map-append, get_or-set_same, get_or-set_other, get_or-replicate, length-set, length-replicate, length-map}
use Rattle.std.proofs.lemmas.List.Sums.{sum_by-cons}
use Rattle.std.proofs.lemmas.List.FromFn.{get_or-map-range_with_len, length-map-range_with_len}
use Rattle.std.proofs.lemmas.Simd.{map-map}
use Rattle.std.proofs.lemmas.List.Elements.{All-replicate}
use Rattle.zerotrie_core.specs.Kind.{Kind}
use Rattle.zerotrie_core.specs.Maps.{Pairs, with_front, with_run}
use Rattle.zerotrie_core.specs.Nodes.{Shape}
use Rattle.zerotrie_core.specs.Nodes as shapes
use Rattle.zerotrie_core.specs.Texts.{Lists, ListEach}
use Rattle.zerotrie_core.specs.Texts.Lists.{nothing, value, literal, span, branch}
use Rattle.zerotrie_core.specs.Texts.ListEach.{no_edge, edge}
use Rattle.zerotrie_core.specs.WellFormed.{greatest}
use Rattle.zerotrie_core.specs.walk.Visits.{Visit}
use Rattle.zerotrie_core.specs.walk.Texts.{front_size, text_visits, target_visits}
use Rattle.zerotrie_core.specs.declared.TrieKind.{TrieKind}
use Rattle.zerotrie_queries.specs.reports.Counts.{value_in, values, depth_in, depths, greatest_of, is_literal, is_span, is_branch, is_in_cell, cell_of, count_of, cells_in, branches_in}
use Rattle.zerotrie_queries.specs.reports.Reports.{report_over, TellsPairs}
use Rattle.zerotrie_queries.specs.reports.count.Steps.{no_branches, with_shape, greater, no_nodes, with_node, with_nodes, IsWithin}
use Rattle.zerotrie_queries.specs.declared.reports.branches.Branches.{Branches}
use Rattle.zerotrie_queries.specs.declared.reports.count.Report.{Report}

-- with no node counted no count is above another
pub none_within : (kind : TrieKind) (bytes : ℕ) → IsWithin (no_nodes kind bytes)
none_within kind bytes = record {
  pairs = omega arith;
  literals = omega arith;
  spans = omega arith;
  branches = omega arith;
  cells = All-replicate (λ n. n ≤ 0) 64 0 (omega arith);
}

-- the greatest of two lists one after the other
greatest-append : (a b : List ℕ) → greatest (a ++ b) ≡ max (greatest a) (greatest b)
greatest-append [] b = omega arith
greatest-append (n ∷ a) b = let e = greatest-append a b in omega arith

greater-append : (g : Option ℕ) (a b : List ℕ) → greater (greater g a) b ≡ greater g (a ++ b)
greater-append None [] b = refl
greater-append None (n ∷ a) b = let e = greatest-append a b in let m : max (max n (greatest a)) (greatest b) ≡ max n (greatest (a ++ b)) = omega arith in ap (λ k. Some k) m
greater-append (Some n) a b = let e = greatest-append a b in let m : max (max n (greatest a)) (greatest b) ≡ max n (greatest (a ++ b)) = omega arith in ap (λ k. Some k) m

-- two lists of numbers that are one element by element
same_list : (xs ys : List ℕ) → length xs ≡ length ys → ((i : ℕ) → i < length xs → get_or xs i 0 ≡ get_or ys i 0) → xs ≡ ys
same_list [] [] long h = refl
same_list [] (y ∷ ys) long h = absurd (omega (arith, long))
same_list (x ∷ xs) [] long h = absurd (omega (arith, long))
same_list (x ∷ xs) (y ∷ ys) long h =
    let first : x ≡ y = h 0 (omega arith) in
    let more : xs ≡ ys = same_list xs ys (omega (arith, long)) (λ i l. h (suc i) (omega (arith, l))) in
    ap (λ z. z ∷ xs) first ∙ ap (λ zs. y ∷ zs) more

-- one node more is counted if it is of the sort
count_first : (is_one : Shape → Bool) (v : Visit) (visits : List Visit) → count_of is_one (v ∷ visits) ≡ cond (is_one v.node) 1 0 + count_of is_one visits
unfolding count_of
count_first is_one v visits = sum_by-cons _ v visits

count_none : (is_one : Shape → Bool) → count_of is_one [] ≡ 0
unfolding count_of
count_none is_one = refl

length-cells_in : (n : ℕ) (visits : List Visit) → length (cells_in n visits) ≡ n
unfolding cells_in
length-cells_in n visits = length-map-range_with_len _ 0 n

cell_in : (n i : ℕ) (visits : List Visit) → i < n → get_or (cells_in n visits) i 0 ≡ count_of (is_in_cell i) visits
unfolding cells_in
cell_in n i visits l = get_or-map-range_with_len (λ i. count_of (is_in_cell i) visits) 0 n i i 0 l (omega arith)

-- a cell after one was raised
raised : (xs : List ℕ) (i c : ℕ) → i < length xs → get_or (set xs c (get_or xs c 0 + 1)) i 0 ≡ get_or xs i 0 + cond (i == c) 1 0
raised xs i c l = grind (arith, get_or-set_same, get_or-set_other)

-- what one node does to the branches
shape_count : (s : Shape) (b : Branches) → (with_shape s b).count ≡ b.count + cond (is_branch s) 1 0
shape_count (shapes.Shape.value v rest) b = omega arith
shape_count (shapes.Shape.literal l rest) b = omega arith
shape_count (shapes.Shape.span run rest) b = omega arith
shape_count (shapes.Shape.branch edges width table behind) b = refl

shape_long : (s : Shape) (b : Branches) → length (with_shape s b).cells ≡ length b.cells
shape_long (shapes.Shape.value v rest) b = refl
shape_long (shapes.Shape.literal l rest) b = refl
shape_long (shapes.Shape.span run rest) b = refl
shape_long (shapes.Shape.branch edges width table behind) b = length-set b.cells (cell_of edges width) (get_or b.cells (cell_of edges width) 0 + 1)

shape_cell : (s : Shape) (b : Branches) (i : ℕ) → i < length b.cells → get_or (with_shape s b).cells i 0 ≡ get_or b.cells i 0 + cond (is_in_cell i s) 1 0
shape_cell (shapes.Shape.value v rest) b i l = omega arith
shape_cell (shapes.Shape.literal c rest) b i l = omega arith
shape_cell (shapes.Shape.span run rest) b i l = omega arith
shape_cell (shapes.Shape.branch edges width table behind) b i l = raised b.cells i (cell_of edges width) l

-- the branches with those of these nodes
abbrev with_shapes : List Visit → Branches → Branches
with_shapes [] b = b
with_shapes (v ∷ visits) b = with_shapes visits (with_shape v.node b)

shapes_count : (visits : List Visit) (b : Branches) → (with_shapes visits b).count ≡ b.count + count_of is_branch visits
shapes_count [] b = let e = count_none is_branch in omega arith
shapes_count (v ∷ visits) b =
    let more = shapes_count visits (with_shape v.node b) in
    let one = shape_count v.node b in
    let first = count_first is_branch v visits in
    omega arith

shapes_long : (visits : List Visit) (b : Branches) → length (with_shapes visits b).cells ≡ length b.cells
shapes_long [] b = refl
shapes_long (v ∷ visits) b = shapes_long visits (with_shape v.node b) ∙ shape_long v.node b

shapes_cell : (visits : List Visit) (b : Branches) (i : ℕ) → i < length b.cells → get_or (with_shapes visits b).cells i 0 ≡ get_or b.cells i 0 + count_of (is_in_cell i) visits
shapes_cell [] b i l = let e = count_none (is_in_cell i) in omega arith
shapes_cell (v ∷ visits) b i l =
    let long = shape_long v.node b in
    let more = shapes_cell visits (with_shape v.node b) i (omega arith) in
    let one = shape_cell v.node b i l in
    let first = count_first (is_in_cell i) v visits in
    omega arith

-- branches, field by field
abbrev branches_made : ℕ → List ℕ → Branches
branches_made count cells = record { count = count; cells = cells }

same_branches : (n m : ℕ) (xs ys : List ℕ) → n ≡ m → xs ≡ ys → branches_made n xs ≡ branches_made m ys
same_branches n m xs ys count cells = cc

branches_counted : (visits : List Visit) → with_shapes visits no_branches ≡ branches_in visits
branches_counted visits =
    let zeros : length no_branches.cells ≡ 64 = length-replicate {A = ℕ} 64 0 in
    let long = shapes_long visits no_branches in
    let counted = length-cells_in 64 visits in
    let count = shapes_count visits no_branches in
    let total : (with_shapes visits no_branches).count ≡ count_of is_branch visits = omega arith in
    let cells : (with_shapes visits no_branches).cells ≡ cells_in 64 visits =
    same_list (with_shapes visits no_branches).cells (cells_in 64 visits) (omega arith) (λ i l.
    let below : i < 64 = omega arith in
    let each = shapes_cell visits no_branches i (omega arith) in
    let zero : get_or no_branches.cells i 0 ≡ 0 = get_or-replicate 64 i 0 0 below in
    let goes = cell_in 64 i visits below in
    omega arith) in
    same_branches (with_shapes visits no_branches).count (count_of is_branch visits) (with_shapes visits no_branches).cells (cells_in 64 visits) total cells

-- a report, field by field
abbrev made : TrieKind → ℕ → ℕ → ℕ → Option ℕ → ℕ → ℕ → ℕ → Branches → Report
made kind bytes nodes pairs most depth literals spans branches =
    record { kind = kind; bytes = bytes; nodes = nodes; pairs = pairs; greatest = most; depth = depth; literals = literals; spans = spans; branches = branches }

same_report : (kind : TrieKind) (bytes n n' p p' : ℕ) (g g' : Option ℕ) (d d' l l' s s' : ℕ) (b b' : Branches)
    → n ≡ n' → p ≡ p' → g ≡ g' → d ≡ d' → l ≡ l' → s ≡ s' → b ≡ b' → made kind bytes n p g d l s b ≡ made kind bytes n' p' g' d' l' s' b'
same_report kind bytes n n' p p' g g' d d' l l' s s' b b' e1 e2 e3 e4 e5 e6 e7 = cc

-- a report with what is counted of more nodes
abbrev joined : Report → List Visit → Report
joined r visits =
    made r.kind r.bytes (r.nodes + length visits) (r.pairs + length (values visits)) (greater r.greatest (values visits)) (max r.depth (greatest (depths visits)))
    (r.literals + count_of is_literal visits) (r.spans + count_of is_span visits) (with_shapes visits r.branches)

greater-none : (g : Option ℕ) → g ≡ greater g []
greater-none None = refl
greater-none (Some n) = let e : n ≡ max n 0 = omega arith in ap (λ k. Some k) e

joins : (visits : List Visit) (r : Report) → with_nodes visits r ≡ joined r visits
joins [] r =
    let l = count_none is_literal in
    let s = count_none is_span in
    same_report r.kind r.bytes _ _ _ _ _ _ _ _ _ _ _ _ _ _ (omega arith) (omega arith) (greater-none r.greatest) (omega arith) (omega arith) (omega arith) refl
joins (v ∷ visits) r =
    let l = count_first is_literal v visits in
    let s = count_first is_span v visits in
    let p = length-append (value_in v.node) (values visits) in
    let d = greatest-append (depth_in v) (depths visits) in
    joins visits (with_node v r)
    ∙ same_report r.kind r.bytes _ _ _ _ _ _ _ _ _ _ _ _ _ _ (omega arith) (omega arith) (greater-append r.greatest (value_in v.node) (values visits)) (omega arith) (omega arith) (omega arith)
    refl

pub counted : (kind : TrieKind) (bytes : ℕ) (visits : List Visit) → with_nodes visits (no_nodes kind bytes) ≡ report_over kind bytes visits
counted kind bytes visits =
    joins visits (no_nodes kind bytes)
    ∙ same_report kind bytes _ _ _ _ _ _ _ _ _ _ _ _ _ _ (omega arith) (omega arith) refl (omega arith) (omega arith) (omega arith) (branches_counted visits)

-- values one list of nodes after the other
values-append : (a b : List Visit) → values (a ++ b) ≡ values a ++ values b
values-append [] b = refl
values-append (v ∷ a) b = ap (λ ns. value_in v.node ++ ns) (values-append a b) ∙ sym (append_assoc (value_in v.node) (values a) (values b))

-- the values of pairs
abbrev values_of : Pairs → List ℕ
values_of pairs = map {B = ℕ} (λ e. e.1) pairs

values-front : (b : ℕ) (pairs : Pairs) → values_of (with_front b pairs) ≡ values_of pairs
values-front b pairs = map-map _ _ pairs

values-run : (run : List ℕ) (pairs : Pairs) → values_of (with_run run pairs) ≡ values_of pairs
values-run run pairs = map-map _ _ pairs

mutual
  -- the values of the nodes of a text are those of its pairs
  text_values : {kind : Kind} {bytes : List ℕ} {pairs : Pairs} (text : Lists kind bytes pairs) (place depth : ℕ) (above by : Option ℕ)
      → values (text_visits text place depth above by) ≡ values_of pairs
  text_values nothing place depth above by = refl
  text_values (value {v = v} {spelling = spelling} s n text) place depth above by = ap (λ ns. v ∷ ns) (text_values text (place + length spelling) depth (Some place) None)
  text_values (literal {b = b} {pairs = pairs} l n text) place depth above by = text_values text (place + 1) depth (Some place) None ∙ sym (values-front b pairs)
  text_values (span {spelling = spelling} {pairs = pairs} run s some high f m n text) place depth above by =
      text_values text (place + (length spelling + length run)) depth (Some place) None ∙ sym (values-run run pairs)
  text_values (branch b each) place depth above by = target_values each (place + front_size b) (depth + 1) place

  target_values : {kind : Kind} {edges : List ℕ} {targets : List (List ℕ)} {pairs : Pairs} (each : ListEach kind edges targets pairs) (place depth above : ℕ)
      → values (target_visits each place depth above) ≡ values_of pairs
  target_values no_edge place depth above = refl
  target_values (edge {e = e} {target = target} {pairs = pairs} {more = more} n text each) place depth above =
      values-append (text_visits text place depth (Some above) (Some e)) (target_visits each (place + length target) depth above)
      ∙ ap (λ ns. ns ++ values (target_visits each (place + length target) depth above)) (text_values text place depth (Some above) (Some e) ∙ sym (values-front e pairs))
      ∙ ap (λ ns. values_of (with_front e pairs) ++ ns) (target_values each (place + length target) depth above)
      ∙ sym (map-append (λ e. e.1) (with_front e pairs) more)

-- a report of the nodes of a text tells its pairs
pub tells : {kind : Kind} {bytes : List ℕ} {pairs : Pairs} (text : Lists kind bytes pairs) (named : TrieKind) (size : ℕ)
    → TellsPairs (report_over named size (text_visits text 0 0 None None)) pairs
tells {pairs = pairs} text named size =
    let same = text_values text 0 0 None None in record {
      count = ap (λ ns. length ns) same ∙ length-map pairs _;
      greatest = ap greatest_of same;
    }
