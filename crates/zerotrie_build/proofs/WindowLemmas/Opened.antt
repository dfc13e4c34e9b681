-- The windows that are opened for the branch of a window.
use Rattle.std.proofs.Common.{◌≡◌, ℕ, zero, suc, ◌+◌, ◌-◌, ◌<◌, ◌≤◌, ◌⊎◌, inl, inr, List, [], ◌∷◌, ◌++◌, length, refl, sym, ◌∙◌, ap, subst, arith, get_or, drop, map, Some, slice_get, append_assoc, All, true, false, eqb, Bool}
use Rattle.std.specs.Prelude.{◌||◌}
use Rattle.std.proofs.lemmas.Bool.Decides.{eqb_tells}
use Rattle.std.proofs.lemmas.Option.{get_or_from_slice_get}
use Rattle.std.proofs.lemmas.List.{length-map}
use Rattle.zerotrie_base.specs.Kind.{Kind, fold_byte, edge_limit, ordered as in_order}
use Rattle.zerotrie_base.specs.Maps.{Pairs, with_front, residual, edges}
use Rattle.zerotrie_base.specs.Canonical.{size_of}
use Rattle.zerotrie_base.proofs.CallerLemmas.{Rises, AllAbove, member, edge_limit_to}
use Rattle.zerotrie_build.specs.Order.{Before, Ordered, AreKeys}
use Rattle.zerotrie_build.specs.declared.windows.Window.{Window}
use Rattle.zerotrie_build.specs.declared.windows.Step.TheVariants.{Branch}
use Rattle.zerotrie_build.specs.passes.Windows.{cut, window, item_no, byte_of, edge_of, step_of, IsGroup}
use Rattle.zerotrie_build.specs.passes.Measured.{Groups}
use Rattle.zerotrie_build.proofs.WindowLemmas.Windows.{cut_first, cut_none, cut_append, last_key, last_cut, key_cut}
use Rattle.zerotrie_build.proofs.WindowLemmas.Spans.{rest_byte}
use Rattle.zerotrie_build.proofs.WindowLemmas.NodeRuns.{IsParting, step_branch, follows_cut, all_long, some_items}
use Rattle.zerotrie_build.proofs.WindowLemmas.Groups.{grouped, SomeEach, edges_grouped, sizes_grouped, Sized, size_grouped}

-- items that have one byte have it in front
group_front : (n : ℕ) (all : Pairs) (from to d b : ℕ) → to - from ≡ n → to ≤ length all → ((i : ℕ) → from ≤ i → i < to → byte_of all i d ≡ Some b) → cut all from to d ≡ with_front b (cut all from to (d + 1))
group_front zero all from to d b e within same = cut_none all from to d (omega arith) ∙ ap (with_front b) (sym (cut_none all from to (d + 1) (omega arith)))
group_front (suc n) all from to d b e within same =
    let key = (item_no all from).0 in
    let v = (item_no all from).1 in
    let h = same from (omega arith) (omega arith) in
    let s : suc d ≡ d + 1 = omega arith in
    let k : drop d key ≡ b ∷ drop (d + 1) key = key_cut key d b h ∙ ap (λ x. b ∷ drop x key) s in
    cut_first all from to d (omega arith) within ∙ ap (λ x. (x, v) ∷ cut all (from + 1) to d) k
    ∙ ap (λ r. (b ∷ drop (d + 1) key, v) ∷ r) (group_front n all (from + 1) to d b (omega arith) within (λ i a z. same i (omega arith) z))
    ∙ ap (with_front b) (sym (cut_first all from to (d + 1) (omega arith) within))

-- the byte in front of a window that begins where another does, a byte deeper
pub edge_is : (all : Pairs) (w c : Window) (b : ℕ) → c.from ≡ w.from → c.depth ≡ w.depth + 1 → byte_of all w.from w.depth ≡ Some b → edge_of all c ≡ b
edge_is all w c b from_is down first =
    let z : w.depth + 1 - 1 ≡ w.depth = omega arith in
    ap (λ i. get_or (item_no all i).0 (c.depth - 1) 0) from_is ∙ ap (λ j. get_or (item_no all w.from).0 (j - 1) 0) down
    ∙ ap (λ j. get_or (item_no all w.from).0 j 0) z ∙ get_or_from_slice_get (item_no all w.from).0 w.depth b 0 first

-- a window more
pub group_more : (all : Pairs) (d start to : ℕ) (w c : Window) (added : List Window) → w.depth ≡ d → w.to ≡ to → to ≤ length all
    → IsGroup all w c.to → c.from ≡ w.from → c.depth ≡ w.depth + 1 → (b : ℕ) → byte_of all w.from w.depth ≡ Some b
    → ((more : List Window) → Groups all d w.from to more → Groups all d start to (added ++ more))
    → (more : List Window) → Groups all d c.to to more → Groups all d start to ((added ++ c ∷ []) ++ more)
group_more all d start to w c added depth_is to_is within g from_is down b first goes more rest =
    let some = g.some in let most = g.within in
    let e = edge_is all w c b from_is down first in
    let k = group_front (c.to - w.from) all w.from c.to w.depth b refl (omega arith) (λ i a l. g.same i a l ∙ first) in
    let front : cut all w.from c.to d ≡ with_front (edge_of all c) (window all c) =
    ap (cut all w.from c.to) (sym depth_is) ∙ k ∙ ap (λ x. with_front x (cut all w.from c.to (w.depth + 1))) (sym e) ∙ ap (λ x. with_front (edge_of all c) (cut all x c.to (w.depth + 1))) (sym from_is)
    ∙ ap (λ x. with_front (edge_of all c) (cut all c.from c.to x)) (sym down) in
    subst (Groups all d start to) (sym (append_assoc added (c ∷ []) more)) (goes (c ∷ more) (from_is, (let a = depth_is in omega arith), some, (let a = to_is in omega arith), front, rest))

-- each fold is below x
abbrev pub AllBelow : Kind → ℕ → List ℕ → Type 0
AllBelow kind x [] = Unit {0}
AllBelow kind x (e ∷ es) = (fold_byte kind e < x) × AllBelow kind x es

below_more : (kind : Kind) (x y : ℕ) (es : List ℕ) → x < y → AllBelow kind x es → AllBelow kind y es
below_more kind x y [] h all = tt
below_more kind x y (e ∷ es) h all = (omega (arith, all.0), below_more kind x y es h all.1)

-- an edge more, above the others
below_snoc : (kind : Kind) (x b : ℕ) (es : List ℕ) → AllBelow kind x es → fold_byte kind b < x → AllBelow kind x (es ++ b ∷ [])
below_snoc kind x b [] all h = (h, tt)
below_snoc kind x b (e ∷ es) all h = (all.0, below_snoc kind x b es all.1 h)

above_snoc : (kind : Kind) (x b : ℕ) (es : List ℕ) → AllAbove kind x es → x < fold_byte kind b → AllAbove kind x (es ++ b ∷ [])
above_snoc kind x b [] all h = (h, tt)
above_snoc kind x b (e ∷ es) all h = (all.0, above_snoc kind x b es all.1 h)

rises_snoc : (kind : Kind) (b : ℕ) (es : List ℕ) → Rises kind es → AllBelow kind (fold_byte kind b) es → Rises kind (es ++ b ∷ [])
rises_snoc kind b [] up all = (tt, tt)
rises_snoc kind b (e ∷ es) up all = (above_snoc kind (fold_byte kind e) b es up.0 all.0, rises_snoc kind b es up.1 all.1)

edges_snoc : (all : Pairs) (c : Window) (cs : List Window) → map (edge_of all) (cs ++ c ∷ []) ≡ map (edge_of all) cs ++ edge_of all c ∷ []
edges_snoc all c [] = refl
edges_snoc all c (x ∷ cs) = ap (λ r. edge_of all x ∷ r) (edges_snoc all c cs)

-- the folds of the edges so far rise, and are below that of the next first byte
pub record Rising (kind : Kind) (all : Pairs) (from to d : ℕ) (cs : List Window) : Type 0 where
  pub up : Rises kind (map (edge_of all) cs)
  pub below : from < to → (b : ℕ) → byte_of all from d ≡ Some b → AllBelow kind (fold_byte kind b) (map (edge_of all) cs)

parts_rise : (kind : Kind) (b c : ℕ) (k l : List ℕ) → (b ≡ c → ⊥) → Before kind (b ∷ k) (c ∷ l) → fold_byte kind b < fold_byte kind c
parts_rise kind b c k l apart (inl less) = less
parts_rise kind b c k l apart (inr same) = absurd (apart same.0)

-- the next group has a higher byte
next_higher : (kind : Kind) (all : Pairs) (start : ℕ) (w : Window) (end b c : ℕ) → start ≤ w.from → w.to ≤ length all → Ordered kind (cut all start w.to w.depth) → IsGroup all w end → end < w.to → byte_of all w.from w.depth ≡ Some b → byte_of all end w.depth ≡ Some c
    → fold_byte kind b < fold_byte kind c
next_higher kind all start w end b c from within up g more first next =
    let some = g.some in
    let d = w.depth in
    let n = end - 1 - start in
    let a : start + n ≡ end - 1 = omega arith in
    let e : start + suc n ≡ end = omega arith in
    let before = subst (λ i. Before kind (drop d (item_no all (end - 1)).0) (drop d (item_no all i).0)) e
    (subst (λ i. Before kind (drop d (item_no all i).0) (drop d (item_no all (start + suc n)).0)) a (follows_cut n kind all start w.to d (omega arith) within up)) in
    let last : byte_of all (end - 1) d ≡ Some b = g.same (end - 1) (omega arith) (omega arith) ∙ first in
    let k = key_cut (item_no all (end - 1)).0 d b last in
    let l = key_cut (item_no all end).0 d c next in
    let parted = subst (λ x. Before kind x (c ∷ drop (suc d) (item_no all end).0)) k (subst (Before kind (drop d (item_no all (end - 1)).0)) l before) in
    parts_rise kind b c _ _ (λ same. g.other more (next ∙ ap Some (sym same) ∙ sym first)) parted

pub rising_more : (kind : Kind) (all : Pairs) (start : ℕ) (w c : Window) (cs : List Window) → start ≤ w.from → w.to ≤ length all → Ordered kind (cut all start w.to w.depth) → IsGroup all w c.to → c.from ≡ w.from → c.depth ≡ w.depth + 1
    → (b : ℕ) → byte_of all w.from w.depth ≡ Some b → Rising kind all w.from w.to w.depth cs → Rising kind all c.to w.to w.depth (cs ++ c ∷ [])
rising_more kind all start w c cs from within up g from_is down b first r =
    let e = edge_is all w c b from_is down first in
    let some = g.some in
    let most = g.within in
    let es = map (edge_of all) cs in
    let is : es ++ b ∷ [] ≡ map (edge_of all) (cs ++ c ∷ []) = ap (λ x. es ++ x ∷ []) (sym e) ∙ sym (edges_snoc all c cs) in
    let below = r.below (omega arith) b first in
    record {
      up = subst (Rises kind) is (rises_snoc kind b es r.up below);
      below = λ more x next.
          let higher = next_higher kind all start w c.to b x from within up g more first next in
          subst (AllBelow kind (fold_byte kind x)) is (below_snoc kind (fold_byte kind x) b es (below_more kind (fold_byte kind b) (fold_byte kind x) es higher below) higher);
    }

-- the windows as groups of pairs
pub groups_grouped : (all : Pairs) (d from to : ℕ) (cs : List Window) → from ≤ to → Groups all d from to cs → cut all from to d ≡ grouped (map (edge_of all) cs) (map (window all) cs)
groups_grouped all d from to [] le g = cut_none all from to d (omega arith)
groups_grouped all d from to (c ∷ cs) le g =
    cut_append all from c.to to d (omega (arith, g.2)) g.3 ∙ ap (λ x. x ++ cut all c.to to d) g.4 ∙ ap (λ x. with_front (edge_of all c) (window all c) ++ x) (groups_grouped all d c.to to cs g.3 g.5)

pub some_each : (all : Pairs) (d from to : ℕ) (cs : List Window) → to ≤ length all → Groups all d from to cs → SomeEach (map (edge_of all) cs) (map (window all) cs)
some_each all d from to [] within g = tt
some_each all d from to (c ∷ cs) within g =
    (some_items all c (omega (arith, g.0, g.2)) (omega (arith, g.3)), some_each all d c.to to cs within g.5)

abbrev first_key : Pairs → List ℕ
first_key [] = []
first_key (e ∷ pairs) = e.0

-- the edge of a group is the byte of its first key
first_edge : (all : Pairs) (d from to : ℕ) (c : Window) (cs : List Window) → to ≤ length all → Groups all d from to (c ∷ cs) → (k : List ℕ) × (drop d (item_no all from).0 ≡ edge_of all c ∷ k)
first_edge all d from to c cs within g =
    let start = cut_first all from c.to d g.2 (omega (arith, g.3)) in
    let inner = cut_first all c.from c.to c.depth (omega (arith, g.0, g.2)) (omega (arith, g.3)) in
    (drop c.depth (item_no all c.from).0, ap first_key (sym start ∙ g.4 ∙ ap (with_front (edge_of all c)) inner))

-- each of these
abbrev pub EachOf : (ℕ → Type 0) → List ℕ → Type 0
EachOf P [] = Unit {0}
EachOf P (e ∷ es) = P e × EachOf P es

low_each : (kind : Kind) (all : Pairs) (d from to : ℕ) (cs : List Window) → to ≤ length all → AreKeys kind all → Groups all d from to cs → EachOf (λ b. b < edge_limit kind) (map (edge_of all) cs)
low_each kind all d from to [] within keys g = tt
low_each kind all d from to (c ∷ cs) within keys g =
    let f = first_edge all d from to c cs within g in
    (rest_byte kind all from d (edge_of all c) f.0 keys (omega (arith, g.2, g.3)) f.1, low_each kind all d c.to to cs within keys g.5)

each_all : (P : ℕ → Type 0) (es : List ℕ) → EachOf P es → (i d : ℕ) → i < length es → P (get_or es i d)
each_all P [] each i d h = absurd (omega arith)
each_all P (e ∷ es) each zero d h = each.0
each_all P (e ∷ es) each (suc i) d h = each_all P es each.1 i d (omega arith)

-- the edges of groups are bytes of the kind
pub groups_low : (kind : Kind) (all : Pairs) (d from to : ℕ) (cs : List Window) → to ≤ length all → AreKeys kind all → Groups all d from to cs → All (λ b. b < edge_limit kind) (map (edge_of all) cs)
groups_low kind all d from to cs within keys g i e h = each_all (λ b. b < edge_limit kind) (map (edge_of all) cs) (low_each kind all d from to cs within keys g) i e h

or_cases : (x y : Bool) → (x || y) ≡ true → (x ≡ true) ⊎ (y ≡ true)
or_cases true y e = inl refl
or_cases false y e = inr e

differ : (x : Bool) → x ≡ true → x ≡ false → ⊥
differ x t f = cc

each_member : (P : ℕ → Type 0) (es : List ℕ) → EachOf P es → (b : ℕ) → member b es ≡ true → P b
each_member P [] each b m = absurd (cc)
each_member P (e ∷ es) each b m = elim (or_cases (eqb e b) (member b es) m) [
  | inl here ↦ elim (eqb_tells e b) [ inl same ↦ subst P same.1 each.0 | inr other ↦ absurd (differ (eqb e b) here other.0) ]
  | inr later ↦ each_member P es each.1 b later
]

last_front : (b : ℕ) (pairs : Pairs) → (pairs ≡ [] → ⊥) → (k : List ℕ) × (last_key (with_front b pairs) ≡ b ∷ k)
last_front b [] some = absurd (some refl)
last_front b (e ∷ []) some = (e.0, refl)
last_front b (e ∷ f ∷ pairs) some = last_front b (f ∷ pairs) (λ none. cc)

pub byte_here : (d : ℕ) (key : List ℕ) (b : ℕ) (k : List ℕ) → drop d key ≡ b ∷ k → slice_get key d ≡ Some b
byte_here zero key b k e = ap (λ x. slice_get x 0) e
byte_here (suc d) [] b k e = absurd (cc)
byte_here (suc d) (x ∷ key) b k e = byte_here d key b k e

first_same : (a b : ℕ) → Some a ≡ Some b → a ≡ b
first_same a b e = cc

-- if the keys part, there are two groups
two_groups : (all : Pairs) (w : Window) (cs : List Window) → w.to ≤ length all → IsParting all w → Groups all w.depth w.from w.to cs → 2 ≤ length cs
two_groups all w [] within p g = absurd (let inside = p.inside in omega arith)
two_groups all w (c ∷ []) within p g =
    let d = w.depth in
    let e = edge_of all c in
    let end : c.to ≡ w.to = g.5 in
    let f = first_edge all d w.from w.to c [] within g in
    let some = some_items all c (omega (arith, g.0, g.2)) (omega (arith, g.3)) in
    let l = last_front e (window all c) some in
    let last : drop d (item_no all (w.to - 1)).0 ≡ e ∷ l.0 = sym (last_cut all w.from w.to d p.inside within) ∙ ap (λ t. last_key (cut all w.from t d)) (sym end) ∙ ap last_key g.4 ∙ l.1 in
    let first : p.byte ≡ e = first_same p.byte e (sym p.first ∙ byte_here d (item_no all w.from).0 e f.0 f.1) in
    absurd (p.other (byte_here d (item_no all (w.to - 1)).0 e l.0 last ∙ ap Some (sym first)))
two_groups all w (c ∷ x ∷ cs) within p g = omega arith

-- What the groups of a branch say of its text.
pub record Branching (kind : Kind) (all : Pairs) (w : Window) (cs : List Window) : Type 0 where
  pub two : 2 ≤ length cs
  pub edges_are : in_order kind (edges (window all w)) ≡ map (edge_of all) cs
  pub sized : Sized kind (window all w) (map (size_of kind) (map (window all) cs))
  pub behind : map (λ b. residual b (window all w)) (map (edge_of all) cs) ≡ map (λ p. p) (map (window all) cs)

pub branching : (kind : Kind) (all : Pairs) (w : Window) (cs : List Window) → w.to ≤ length all → AreKeys kind all → IsParting all w → Groups all w.depth w.from w.to cs → Rises kind (map (edge_of all) cs) → Branching kind all w cs
branching kind all w cs within keys p g rises =
    let inside = p.inside in
    let es = map (edge_of all) cs in
    let ps = map (window all) cs in
    let is : window all w ≡ grouped es ps = groups_grouped all w.depth w.from w.to cs (omega arith) g in
    let some = some_each all w.depth w.from w.to cs within g in
    let low = low_each kind all w.depth w.from w.to cs within keys g in
    let limit = edge_limit_to kind in
    let bytes : (b : ℕ) → member b es ≡ true → b < 256 = λ b m. (let l = each_member (λ x. x < edge_limit kind) es low b m in omega arith) in
    let two = two_groups all w cs within p g in
    let many = length-map cs (edge_of all) in
    record {
      two = two;
      edges_are = ap (λ x. in_order kind (edges x)) is ∙ edges_grouped kind es ps some rises bytes;
      sized = subst (λ x. Sized kind x (map (size_of kind) ps)) (sym is) (size_grouped kind es ps some rises bytes (omega arith));
      behind = sizes_grouped kind (λ p. p) es ps (window all w) some rises (λ b m. ap (residual b) is);
    }

-- the first byte of each item of a branch
pub branch_byte : (kind : Kind) (all : Pairs) (w : Window) (i : ℕ) → step_of kind all w ≡ Branch → w.to ≤ length all → Ordered kind (window all w) → w.from ≤ i → i < w.to → (b : ℕ) × (byte_of all i w.depth ≡ Some b)
branch_byte kind all w i is within up from below =
    let p = step_branch kind all w is in
    let r = all_long (i - w.from) kind all w.from w.to w.depth p.byte (omega arith) within up p.first in
    let at : w.from + (i - w.from) ≡ i = omega arith in
    (r.0, subst (λ j. byte_of all j w.depth ≡ Some r.0) at r.1)

pub rising_none : (kind : Kind) (all : Pairs) (from to d : ℕ) → Rising kind all from to d []
rising_none kind all from to d = record { up = tt; below = λ h b is. tt }
