-- What is known of pairs that were measured: they fit, and how long their text is.
use Rattle.std.proofs.Common.{◌≡◌, ℕ, ◌+◌, ◌^◌, ◌<◌, ◌≤◌, List, [], ◌∷◌, ◌++◌, length, sym, ◌∙◌, ap, subst, arith, map, take, drop, inl, inr}
use Rattle.std.proofs.lemmas.Bool.Decides.{eqb_tells}
use Rattle.std.specs.FinMap.{entries}
use Rattle.std.specs.Prelude.{All}
use Rattle.zerotrie_base.specs.Kind.{Kind, greatest_width, edge_limit}
use Rattle.zerotrie_base.specs.Maps.{Pairs, map_of, with_front, residual}
use Rattle.zerotrie_base.specs.Branches.{total}
use Rattle.zerotrie_base.specs.Canonical.{size}
use Rattle.zerotrie_base.specs.Fits.{Fits, targets_size}
use Rattle.zerotrie_base.proofs.CallerLemmas.{Rises, NarrowBehind, narrow_none, narrow_value, narrow_at, narrow_front, narrow-same, all_entries, by_fronts, increasing_rises, consistent_entries, same-entries, same-size_of, residual-append, residual-other}
use Rattle.zerotrie_build.specs.Order.{Ordered, AreKeys, AreValues}
use Rattle.zerotrie_build.specs.declared.windows.Window.{Window}
use Rattle.zerotrie_build.specs.declared.windows.Step.TheVariants.{Branch}
use Rattle.zerotrie_build.specs.passes.Windows.{window, item_no, edge_of, step_of}
use Rattle.zerotrie_build.specs.passes.Measured.{Passes, sizes_of, HasFirstTargets, AreSlotsOf, AreSlotsOfEach, IsMeasured}
use Rattle.zerotrie_build.specs.passes.Measured.AreSlotsOf.{kept}
use Rattle.zerotrie_build.specs.passes.Measured.AreSlotsOfEach.{none as kept_none, more as kept_more}
use Rattle.zerotrie_build.specs.passes.Measured.Passes.{here, value, literal, span}
use Rattle.zerotrie_build.proofs.OrderLemmas.Agreeing.{ordered_consistent}
use Rattle.zerotrie_build.proofs.WindowLemmas.Groups.{grouped, SomeEach, residual_group}
use Rattle.zerotrie_build.proofs.WindowLemmas.NodeRuns.{step_branch, some_items, along}
use Rattle.zerotrie_build.proofs.WindowLemmas.Opened.{groups_grouped, some_each, branching}
use Rattle.zerotrie_build.proofs.WindowLemmas.Windows.{step_value, step_end, ordered_front, cut_none, cut_whole}
use Rattle.zerotrie_build.proofs.WindowLemmas.Spans.{step_literal, step_span}

-- no branch after any front has more target bytes than an offset reaches
abbrev Narrow : Kind → Pairs → Type 0
Narrow kind pairs = (front : List ℕ) → NarrowBehind kind front pairs

with_value : (kind : Kind) (v : ℕ) (pairs : Pairs) → Narrow kind pairs → Narrow kind (([], v) ∷ pairs)
with_value kind v pairs narrow [] = narrow_value kind v pairs (narrow [])
with_value kind v pairs narrow (c ∷ front) = narrow (c ∷ front)

run_narrow : {kind : Kind} {all : Pairs} {w behind : Window} {n : ℕ} → Passes kind all w behind n → w.to ≤ length all → AreKeys kind all → Ordered kind (window all w) → Narrow kind (window all behind) → Narrow kind (window all w)
run_narrow here within keys up narrow = narrow
run_narrow {kind = kind} {all = all} {w = w} (value v is run) within keys up narrow =
    let a = step_value kind all w v within is in
    let w' : Window = record w { from = w.from + 1 } in
    let up' = subst (Ordered kind) a.1 up in
    subst (Narrow kind) (sym a.1) (with_value kind v (window all w') (run_narrow run within keys up'.1 narrow))
run_narrow {kind = kind} {all = all} {w = w} (literal b is run) within keys up narrow =
    let a = step_literal kind all w b within keys up is in
    let w' : Window = record w { depth = w.depth + 1 } in
    let up' = ordered_front kind b (window all w') (subst (Ordered kind) a.is up) in
    let low = a.low in
    subst (Narrow kind) (sym a.is) (narrow_front kind b (window all w') (omega arith) (some_items all w' a.inside within, run_narrow run within keys up' narrow)).1
run_narrow {kind = kind} {all = all} {w = w} (span m is run) within keys up narrow =
    let a = step_span kind all w m within keys up is in
    let w' : Window = record w { depth = w.depth + m } in
    let f = a.front in
    subst (Narrow kind) (sym f.is)
    (by_fronts (λ p. (p ≡ [] → ⊥) × Narrow kind p) (take m (drop w.depth (item_no all w.from).0)) (window all w') f.high (narrow_front kind)
    (some_items all w' a.inside within, run_narrow run within keys f.ordered narrow)).1

abbrev EachNarrow : Kind → List Pairs → Type 0
EachNarrow kind [] = Unit {0}
EachNarrow kind (p ∷ ps) = Narrow kind p × EachNarrow kind ps

grouped_narrow : (kind : Kind) (bs : List ℕ) (ps : List Pairs) → SomeEach bs ps → Rises kind bs → EachNarrow kind ps → (c : ℕ) (front : List ℕ) → NarrowBehind kind (c ∷ front) (grouped bs ps)
grouped_narrow kind [] ps some rises narrow c front = narrow_none kind (c ∷ front)
grouped_narrow kind (b ∷ bs) [] some rises narrow c front = narrow_none kind (c ∷ front)
grouped_narrow kind (b ∷ bs) (p ∷ ps) some rises narrow c front = elim (eqb_tells b c) [
  | inl same ↦ narrow_at kind c front (with_front b p ++ grouped bs ps) p (ap (λ x. residual x (with_front b p ++ grouped bs ps)) (sym same.1) ∙ residual_group kind b bs p ps some rises) (narrow.0 front)
  | inr other ↦ narrow_at kind c front (with_front b p ++ grouped bs ps) (residual c (grouped bs ps))
      (residual-append c (with_front b p) (grouped bs ps) ∙ ap (λ x. x ++ residual c (grouped bs ps)) (residual-other c b p other.1)) (grouped_narrow kind bs ps some.1 rises.1 narrow.1 c front)
]

branch_narrow : {kind : Kind} {all : Pairs} {w : Window} {cs : List Window} (o : HasFirstTargets kind all w cs) → AreKeys kind all → step_of kind all o.behind ≡ Branch → EachNarrow kind (map (window all) cs) → Narrow kind (window all o.behind)
branch_narrow {kind = kind} {all = all} {cs = cs} o keys is each front =
    let a = along o.run o.within keys o.ordered in
    let to_is = a.to_is in
    let rest = o.within in
    let within : o.behind.to ≤ length all = omega arith in
    let p = step_branch kind all o.behind is in
    let inside = p.inside in
    let rises = increasing_rises kind (map (edge_of all) cs) o.rises in
    let b = branching kind all o.behind cs within keys p o.groups rises in
    let groups : window all o.behind ≡ grouped (map (edge_of all) cs) (map (window all) cs) = groups_grouped all o.behind.depth o.behind.from o.behind.to cs (omega arith) o.groups in
    by front b.sized.targets groups (some_each all o.behind.depth o.behind.from o.behind.to cs within o.groups) rises
  where
    by : (front : List ℕ) → targets_size kind (window all o.behind) ≡ total (sizes_of kind all cs) → window all o.behind ≡ grouped (map (edge_of all) cs) (map (window all) cs)
        → SomeEach (map (edge_of all) cs) (map (window all) cs) → Rises kind (map (edge_of all) cs) → NarrowBehind kind front (window all o.behind)
    by [] size groups some rises = λ two. subst (λ n. n < 256 ^ (greatest_width kind + 1)) (sym size) o.narrow
    by (c ∷ front) size groups some rises = subst (NarrowBehind kind (c ∷ front)) (sym groups) (grouped_narrow kind (map (edge_of all) cs) (map (window all) cs) some rises each c front)

mutual
  kept_narrow : {kind : Kind} {all : Pairs} {w : Window} {slots : List ℕ} → AreSlotsOf kind all w slots → AreKeys kind all → Narrow kind (window all w)
  kept_narrow {kind = kind} {all = all} (kept o each) keys =
      run_narrow o.run o.within keys o.ordered (elim o.stops [
        | inl ends ↦ subst (Narrow kind) (sym (cut_none all o.behind.from o.behind.to o.behind.depth (step_end kind all o.behind ends))) (λ front. narrow_none kind front)
        | inr is ↦ branch_narrow o keys is (each_narrow each keys)
      ])

  each_narrow : {kind : Kind} {all : Pairs} {cs : List Window} {below : List (List ℕ)} → AreSlotsOfEach kind all cs below → AreKeys kind all → EachNarrow kind (map (window all) cs)
  each_narrow kept_none keys = tt
  each_narrow (kept_more k each) keys = (kept_narrow k keys, each_narrow each keys)

kept_ordered : {kind : Kind} {all : Pairs} {w : Window} {slots : List ℕ} → AreSlotsOf kind all w slots → Ordered kind (window all w)
kept_ordered (kept o each) = o.ordered

-- what was measured is how long the text of the map is
pub measured_len : (kind : Kind) (all : Pairs) (slots : List ℕ) (len : ℕ) → IsMeasured kind all slots len → len ≡ size kind (map_of all)
unfolding size
measured_len kind all slots len m = m.len_is ∙ sym (same-size_of kind (entries (map_of all)) all (same-entries all))

-- the pairs fit
pub measured_fits : (kind : Kind) (all : Pairs) (slots : List ℕ) (len : ℕ) → IsMeasured kind all slots len → AreValues all → len < 2 ^ 64 → Fits kind (map_of all)
measured_fits kind all slots len m values short =
    let is = cut_whole all in
    let narrow = subst (Narrow kind) is (kept_narrow m.slots_are m.keys) in
    record {
      values = all_entries (λ e. e.1 < 2 ^ 64) all values;
      key_bytes = all_entries (λ e. All (λ b. b < edge_limit kind) e.0) all m.keys;
      case = consistent_entries kind all (ordered_consistent kind all (subst (Ordered kind) is (kept_ordered m.slots_are)));
      narrow = λ front. narrow-same kind front (entries (map_of all)) all (same-entries all) (narrow front);
      short = subst (λ n. n < 2 ^ 64) (measured_len kind all slots len m) short;
    }
