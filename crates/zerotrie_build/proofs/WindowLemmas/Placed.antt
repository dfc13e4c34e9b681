-- Windows that are parts of the items, and those of the targets of a branch.
use Rattle.std.proofs.Common.{◌≡◌, ℕ, ◌≤◌, List, [], ◌∷◌, ◌++◌, length, refl, sym, ◌∙◌, ap, subst, arith, map, append_assoc, Some}
use Rattle.std.proofs.lemmas.List.{append-nil}
use Rattle.std.proofs.lemmas.List.Sums.{sum_by-cons}
use Rattle.zerotrie_base.specs.Kind.{Kind}
use Rattle.zerotrie_base.specs.Maps.{Pairs, residual}
use Rattle.zerotrie_base.specs.Branches.{total}
use Rattle.zerotrie_base.specs.Canonical.{size_of}
use Rattle.zerotrie_base.proofs.CallerLemmas.{Rises}
use Rattle.zerotrie_build.specs.Order.{Ordered, AreKeys}
use Rattle.zerotrie_build.specs.declared.windows.Window.{Window}
use Rattle.zerotrie_build.specs.declared.windows.Step.TheVariants.{Branch}
use Rattle.zerotrie_build.specs.passes.Windows.{cut, window, byte_of, edge_of, step_of, IsGroup}
use Rattle.zerotrie_build.specs.passes.Measured.{Passes, TargetWindows, Groups}
use Rattle.zerotrie_build.specs.passes.Walking.{IsBehindFront, IsPlaced}
use Rattle.zerotrie_build.proofs.WindowLemmas.Windows.{cut_append, cut_whole, ordered_front}
use Rattle.zerotrie_build.proofs.WindowLemmas.NodeRuns.{along, step_branch, behind_byte}
use Rattle.zerotrie_build.proofs.WindowLemmas.Opened.{Branching, Rising, branching, branch_byte, group_more, rising_more, rising_none}

-- each of the windows
abbrev pub EachW : (Window → Type 0) → List Window → Type 0
EachW P [] = Unit {0}
EachW P (c ∷ cs) = P c × EachW P cs

pub ordered_parts : (kind : Kind) (xs ys : Pairs) → Ordered kind (xs ++ ys) → Ordered kind xs × Ordered kind ys
ordered_parts kind [] ys up = (tt, up)
ordered_parts kind (x ∷ []) ys up = ((tt, tt), up.1)
ordered_parts kind (x ∷ y ∷ xs) ys up = let r = ordered_parts kind (y ∷ xs) ys up.1 in ((up.0, r.0), r.1)

-- the windows of a branch are parts of its items in their order
abbrev IsPart : Kind → Pairs → ℕ → Window → Type 0
IsPart kind all to c = (c.from ≤ c.to) × (c.to ≤ to) × Ordered kind (window all c)

parts : (kind : Kind) (all : Pairs) (d from to : ℕ) (cs : List Window) → Groups all d from to cs → Ordered kind (cut all from to d) → EachW (IsPart kind all to) cs
parts kind all d from to [] g up = tt
parts kind all d from to (c ∷ cs) g up =
    let r = ordered_parts kind (cut all from c.to d) (cut all c.to to d) (subst (Ordered kind) (cut_append all from c.to to d (omega (arith, g.2)) g.3) up) in
    ((omega (arith, g.0, g.2), g.3, ordered_front kind (edge_of all c) (window all c) (subst (Ordered kind) g.4 r.0)), parts kind all d c.to to cs g.5 r.1)

head_of : Pairs → List Pairs → Pairs
head_of d [] = d
head_of d (x ∷ xs) = x

tail_of : List Pairs → List Pairs
tail_of [] = []
tail_of (x ∷ xs) = xs

behinds : (all whole : Pairs) (cs : List Window) → map (λ b. residual b whole) (map (edge_of all) cs) ≡ map (λ p. p) (map (window all) cs) → EachW (λ c. residual (edge_of all c) whole ≡ window all c) cs
unfolding head_of tail_of
behinds all whole [] e = tt
behinds all whole (c ∷ cs) e = (ap (head_of whole) e, behinds all whole cs (ap tail_of e))

-- no target is longer than all together
smalls : (kind : Kind) (all : Pairs) (most : ℕ) (cs : List Window) → total (map (size_of kind) (map (window all) cs)) ≤ most → EachW (λ c. size_of kind (window all c) ≤ most) cs
smalls kind all most [] h = tt
smalls kind all most (c ∷ cs) h =
    let s = sum_by-cons (λ n. n) (size_of kind (window all c)) (map (size_of kind) (map (window all) cs)) in
    (omega arith, smalls kind all most cs (omega arith))

placed_each : (kind : Kind) (all : Pairs) (w : Window) (cs : List Window) → w.to ≤ length all → IsBehindFront all w → EachW (IsPart kind all w.to) cs → EachW (λ c. residual (edge_of all c) (window all w) ≡ window all c) cs → EachW (λ c. size_of kind (window all c) ≤ size_of kind all) cs
    → EachW (IsPlaced kind all) cs
placed_each kind all w [] within at a b s = tt
placed_each kind all w (c ∷ cs) within at a b s = (
  record { order = a.0.0; within = omega (arith, a.0.1); ordered = a.0.2; behind = behind_byte all w c (edge_of all c) b.0 at; small = s.0 },
  placed_each kind all w cs within at a.1 b.1 s.1,
)

-- more windows of the branch that stands first in w
parts_more : (kind : Kind) (all : Pairs) (w rest : Window) (added cs : List Window) → step_of kind all w ≡ Branch → w.to ≤ length all → Ordered kind (window all w) → rest.depth ≡ w.depth → rest.to ≡ w.to → w.from ≤ rest.from
    → ((more : List Window) → Groups all w.depth rest.from w.to more → Groups all w.depth w.from w.to (added ++ more)) → Rising kind all rest.from rest.to rest.depth added → TargetWindows all rest cs
    → Groups all w.depth w.from w.to (added ++ cs) × Rises kind (map (edge_of all) (added ++ cs))
parts_more kind all w rest added [] branch within up depth to from goes rising p =
    (goes [] (p ∙ to), subst (λ x. Rises kind (map (edge_of all) x)) (sym (append-nil added)) rising.up)
parts_more kind all w rest added (c ∷ cs) branch within up depth to from goes rising p =
    let g : IsGroup all rest c.to = p.2 in
    let some = g.some in let most = g.within in
    let byte = branch_byte kind all w rest.from branch within up from (omega arith) in
    let first = subst (λ d. byte_of all rest.from d ≡ Some byte.0) (sym depth) byte.1 in
    let ordered = subst (λ d. Ordered kind (cut all w.from rest.to d)) (sym depth) (subst (λ x. Ordered kind (cut all w.from x w.depth)) (sym to) up) in
    let r = parts_more kind all w (record rest { from = c.to }) (added ++ c ∷ []) cs branch within up depth to (omega arith)
    (group_more all w.depth w.from w.to rest c added depth to within g p.0 p.1 byte.0 first goes)
    (rising_more kind all w.from rest c added from (omega arith) ordered g p.0 p.1 byte.0 first rising) p.3 in
    subst (λ x. Groups all w.depth w.from w.to x × Rises kind (map (edge_of all) x)) (append_assoc added (c ∷ []) cs) r

-- What the windows of the targets of a branch say of its text, and what is known of each.
pub record Targets (kind : Kind) (all : Pairs) (w : Window) (cs : List Window) : Type 0 where
  pub groups : Groups all w.depth w.from w.to cs
  pub rises : Rises kind (map (edge_of all) cs)
  pub branching : Branching kind all w cs
  pub placed : EachW (IsPlaced kind all) cs

pub targets : (kind : Kind) (all : Pairs) (w behind : Window) (n : ℕ) (cs : List Window) → IsPlaced kind all w → AreKeys kind all → Passes kind all w behind n → step_of kind all behind ≡ Branch → TargetWindows all behind cs → Targets kind all behind cs
targets kind all w behind n cs placed keys run branch parts_are =
    let a = along run placed.within keys placed.ordered in
    let to = a.to_is in
    let within = placed.within in
    let order = a.order placed.order in
    let size = a.size in
    let small = placed.small in
    let r = parts_more kind all behind behind [] cs branch (omega arith) a.ordered refl refl (omega arith) (λ more g. g) (rising_none kind all behind.from behind.to behind.depth) parts_are in
    let b = branching kind all behind cs (omega arith) keys (step_branch kind all behind branch) r.0 r.1 in
    let whole = b.sized.size in
    record {
      groups = r.0;
      rises = r.1;
      branching = b;
      placed = placed_each kind all behind cs (omega arith) (a.at placed.behind) (parts kind all behind.depth behind.from behind.to cs r.0 a.ordered)
          (behinds all (window all behind) cs b.behind) (smalls kind all (size_of kind all) cs (omega arith));
    }

-- one of them
pub eachw_middle : (P : Window → Type 0) (xs : List Window) (c : Window) (ys : List Window) → EachW P (xs ++ c ∷ ys) → P c
eachw_middle P [] c ys each = each.0
eachw_middle P (x ∷ xs) c ys each = eachw_middle P xs c ys each.1

-- the whole is placed
pub whole_placed : (kind : Kind) (all : Pairs) → Ordered kind all → IsPlaced kind all (record { from = 0; to = length all; depth = 0 })
whole_placed kind all up =
    let is = cut_whole all in
    record {
      order = omega arith;
      within = omega arith;
      ordered = subst (Ordered kind) (sym is) up;
      behind = ([], λ b. ap (residual b) (sym is));
      small = (let s = ap (size_of kind) is in omega arith);
    }
