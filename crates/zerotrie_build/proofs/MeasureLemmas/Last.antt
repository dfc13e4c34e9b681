-- The last target of a branch, and a branch that is opened.
use Rattle.std.proofs.Common.{◌≡◌, ℕ, zero, suc, ◌+◌, ◌-◌, ◌*◌, ◌^◌, ◌<◌, ◌≤◌, ◌⊎◌, inl, inr, Bool, true, false, List, [], ◌∷◌, ◌++◌, length, refl, sym, ◌∙◌, ap, subst, arith, map, take, drop, replicate, reverse, append_assoc, length-append}
use Rattle.std.proofs.lemmas.List.{append-nil, length-map, length-set, take_all}
use Rattle.std.specs.Prelude.{slice_set, slice_index, if◌then◌else◌}
use Rattle.std.specs.List.{concat}
use Rattle.zerotrie_base.specs.Kind.{Kind, greatest_width, is_hashed}
use Rattle.zerotrie_base.specs.Maps.{Pairs, map_of, behind_all, edges}
use Rattle.zerotrie_base.specs.Branches.{total}
use Rattle.zerotrie_base.specs.Canonical.{size_of, branch_size}
use Rattle.zerotrie_base.specs.Fits.{ExceedsCapacity}
use Rattle.zerotrie_base.proofs.CallerLemmas.{rises_increasing, length-ordered}
use Rattle.zerotrie_build.specs.Order.{AreKeys}
use Rattle.zerotrie_build.specs.declared.windows.Window.{Window}
use Rattle.zerotrie_build.specs.declared.windows.Step.TheVariants.{Branch}
use Rattle.zerotrie_build.specs.declared.measure.OpenBranch.{OpenBranch}
use Rattle.zerotrie_build.specs.passes.Windows.{window, edge_of, step_of}
use Rattle.zerotrie_build.specs.passes.Measured.{Passes, TargetWindows, sizes_of, ends_from, slots_of, HasFirstTargets, AreSlotsOfEach}
use Rattle.zerotrie_build.specs.passes.Measured.AreSlotsOf.{kept}
use Rattle.zerotrie_build.specs.passes.Measured.AreSlotsOfEach.{none as kept_none}
use Rattle.zerotrie_build.specs.passes.Walking.{IsPlaced, item_ends, spare_len, slots_so_far, with_len, MeasuresTarget, IsInside, Closing, IsOpened, left_open}
use Rattle.zerotrie_build.specs.passes.Walking.IsInside.{inside}
use Rattle.zerotrie_build.proofs.Stacks.{popped}
use Rattle.zerotrie_build.proofs.Overflow.{same_edges, same_targets_size, exceeds}
use Rattle.zerotrie_build.proofs.WindowLemmas.NodeRuns.{along}
use Rattle.zerotrie_build.proofs.WindowLemmas.Opened.{groups_low}
use Rattle.zerotrie_build.proofs.WindowLemmas.Placed.{Targets}
use Rattle.zerotrie_build.proofs.MeasureLemmas.Slots.{rises_count, exceeds_size, not_branch, edges_behind}
use Rattle.zerotrie_build.proofs.MeasureLemmas.Inner.{Inner, counted, kept_snoc, length-sizes, inner_slots, get_at}

so_far_all : (kind : Kind) (lens : List ℕ) (below : List (List ℕ)) → slots_so_far kind lens [] below ≡ slots_of kind lens below
so_far_all kind lens below =
    ap (λ x. x ++ ((if is_hashed kind (length x) then ends_from 0 (map length below) ++ [] else []) ++ concat below)) (append-nil lens)
    ∙ ap (λ x. lens ++ ((if is_hashed kind (length lens) then x else []) ++ concat below)) (append-nil (ends_from 0 (map length below)))

-- What is known when the last target of a branch is measured.
pub record Last (kind : Kind) (all : Pairs) (f : OpenBranch) (w : Window) (before slots : List ℕ) : Type 0 where
  pub behind : Window
  pub run : Passes kind all w behind f.len
  pub is : step_of kind all behind ≡ Branch
  pub placed : IsPlaced kind all w
  pub cs : List Window
  pub parts : TargetWindows all behind cs
  pub known : Targets kind all behind cs
  pub below : List (List ℕ)
  pub kept : AreSlotsOfEach kind all cs below
  pub slots_are : slots ≡ before ++ slots_of kind (sizes_of kind all cs) below
  pub first : f.first ≡ length before
  pub end : f.end ≡ f.first + length cs

pub last : {kind : Kind} {all : Pairs} {f : OpenBranch} {fs : List OpenBranch} {slots : List ℕ} {len : ℕ} (i : Inner kind all f fs slots len) (slots' : List ℕ) → AreKeys kind all → slots' ≡ with_len kind f len slots → f.end ≤ f.next + 1 → Last kind all f i.w i.before slots'
last {kind = kind} {all = all} {f = f} i slots' keys is past = by i.counting.more refl
  where
    k : MeasuresTarget kind all i.w i.c f i.before i.own
    k = i.counting

    by : (more : List Window) → k.more ≡ more → Last kind all f i.w i.before slots'
    by (d ∷ more) some = absurd (let n = ap length some in let end = k.end in omega arith)
    by [] none =
        let cs = k.done ++ i.c ∷ [] in
        let m = length-append k.done (i.c ∷ []) in
        let next = k.next in let end = k.end in let count = ap length none in
        record {
          behind = k.behind;
          run = k.run;
          is = k.is;
          placed = k.placed;
          cs = cs;
          parts = subst (λ x. TargetWindows all k.behind (k.done ++ i.c ∷ x)) none k.parts;
          known = subst (λ x. Targets kind all k.behind (k.done ++ i.c ∷ x)) none (counted k keys);
          below = k.below ++ i.below ∷ [];
          kept = kept_snoc k.kept i.kept;
          slots_are = is ∙ inner_slots i ∙ ap (λ x. i.before ++ slots_so_far kind (sizes_of kind all cs) (item_ends x) (k.below ++ i.below ∷ [])) none
              ∙ ap (λ x. i.before ++ x) (so_far_all kind (sizes_of kind all cs) (k.below ++ i.below ∷ []));
          first = k.first;
          end = omega arith;
        }

take_front : (xs ys : List ℕ) (n : ℕ) → n ≡ length xs → take n (xs ++ ys) ≡ xs
take_front [] ys n is = ap (λ k. take k ys) is
take_front (x ∷ xs) ys zero is = absurd (omega arith)
take_front (x ∷ xs) ys (suc n) is = ap (λ r. x ∷ r) (take_front xs ys n (omega arith))

drop_front : (xs ys : List ℕ) (n : ℕ) → n ≡ length xs → drop n (xs ++ ys) ≡ ys
drop_front [] ys n is = ap (λ k. drop k ys) is
drop_front (x ∷ xs) ys zero is = absurd (omega arith)
drop_front (x ∷ xs) ys (suc n) is = drop_front xs ys n (omega arith)

-- the slots of the targets hold their lengths
pub last_lens : {kind : Kind} {all : Pairs} {f : OpenBranch} {w : Window} {before slots : List ℕ} (l : Last kind all f w before slots) → take (f.end - f.first) (drop f.first slots) ≡ sizes_of kind all l.cs
last_lens {kind = kind} {all = all} {f = f} {before = before} {slots = slots} l =
    let lens = sizes_of kind all l.cs in
    let n = length-sizes kind all l.cs in
    let end = l.end in
    ap (λ x. take (f.end - f.first) (drop f.first x)) l.slots_are ∙ ap (take (f.end - f.first)) (drop_front before (slots_of kind lens l.below) f.first l.first)
    ∙ take_front lens _ (f.end - f.first) (omega arith)

pub last_count : {kind : Kind} {all : Pairs} {f : OpenBranch} {w : Window} {before slots : List ℕ} (l : Last kind all f w before slots) → AreKeys kind all → (2 ≤ length (sizes_of kind all l.cs)) × (length (sizes_of kind all l.cs) ≤ 256)
last_count {kind = kind} {all = all} l keys =
    let n = length-sizes kind all l.cs in
    let edges_many = length-map l.cs (edge_of all) in
    let a = along l.run l.placed.within keys l.placed.ordered in
    let low = groups_low kind all l.behind.depth l.behind.from l.behind.to l.cs (let to = a.to_is in let in_all = l.placed.within in omega arith) keys l.known.groups in
    let few = rises_count kind (map (edge_of all) l.cs) l.known.rises (λ i d h. low i d h) in
    let two = l.known.branching.two in
    (omega arith, omega arith)

-- the branch is counted
pub last_closing : {kind : Kind} {all : Pairs} {f : OpenBranch} {fs : List OpenBranch} {slots : List ℕ} {len : ℕ} (i : Inner kind all f fs slots len) (slots' : List ℕ) (l : Last kind all f i.w i.before slots') (n : ℕ) → AreKeys kind all
    → n ≡ f.len + (branch_size kind (sizes_of kind all l.cs) + total (sizes_of kind all l.cs)) → total (sizes_of kind all l.cs) < 256 ^ (greatest_width kind + 1) → Closing kind all fs slots' n
last_closing {kind = kind} {all = all} {f = f} i slots' l n keys len narrow =
    let cs = l.cs in
    let a = along l.run l.placed.within keys l.placed.ordered in
    let b = l.known.branching in
    let at = a.at l.placed.behind in
    let size = a.size in
    let sized : size_of kind (window all l.behind) ≡ branch_size kind (sizes_of kind all cs) + total (sizes_of kind all cs) = b.sized.size in
    let o : HasFirstTargets kind all i.w cs = record {
      within = l.placed.within;
      ordered = l.placed.ordered;
      behind = l.behind;
      bytes = f.len;
      run = l.run;
      stops = inr l.is;
      parts = l.parts;
      groups = l.known.groups;
      rises = rises_increasing kind (map (edge_of all) cs) l.known.rises;
      low = groups_low kind all l.behind.depth l.behind.from l.behind.to cs (let to = a.to_is in let in_all = l.placed.within in omega arith) keys l.known.groups;
      front = at.0;
      edges_are = edges_behind kind all l.behind at (map (edge_of all) cs) b.edges_are;
      none = λ e. absurd (not_branch kind all l.behind e l.is);
      some = λ e. (b.two, omega arith);
      narrow = narrow;
    } in
    record {
      w = i.w;
      before = i.before;
      own = slots_of kind (sizes_of kind all cs) l.below;
      waits = i.waits;
      kept = kept o l.kept;
      slots_are = l.slots_are;
      len_is = omega arith;
    }

-- what is refused when the branch is counted
pub last_refused : {kind : Kind} {all : Pairs} {f : OpenBranch} {w : Window} {before slots : List ℕ} (l : Last kind all f w before slots) → AreKeys kind all
    → (256 ^ (greatest_width kind + 1) ≤ total (sizes_of kind all l.cs)) ⊎ (2 ^ 64 ≤ f.len + (branch_size kind (sizes_of kind all l.cs) + total (sizes_of kind all l.cs))) → ExceedsCapacity kind (map_of all)
last_refused {kind = kind} {all = all} {f = f} l keys (inl wide) =
    let a = along l.run l.placed.within keys l.placed.ordered in
    let b = l.known.branching in
    let at = a.at l.placed.behind in
    let count : length (edges (behind_all at.0 all)) ≡ length (edges (window all l.behind)) = ap length (same_edges (behind_all at.0 all) (window all l.behind) at.1) in
    let edges_many = sym (length-ordered kind (edges (window all l.behind))) ∙ ap length b.edges_are ∙ length-map l.cs (edge_of all) in
    let two = b.two in
    let sum = same_targets_size kind (behind_all at.0 all) (window all l.behind) at.1 ∙ b.sized.targets in
    exceeds kind at.0 all (omega arith, omega arith)
last_refused {kind = kind} {all = all} {f = f} l keys (inr long) =
    let a = along l.run l.placed.within keys l.placed.ordered in
    let size = a.size in
    let small = l.placed.small in
    let sized : size_of kind (window all l.behind) ≡ branch_size kind (sizes_of kind all l.cs) + total (sizes_of kind all l.cs) = l.known.branching.sized.size in
    exceeds_size kind all (omega arith)

opened_slots : (kind : Kind) (ends : List ℕ) (n : ℕ) → length ends ≡ n → ends ++ replicate (spare_len kind n) 0 ≡ slots_so_far kind [] ends []
opened_slots kind ends n is = ap (λ m. ends ++ replicate (spare_len kind m) 0) (sym is) ∙ by (is_hashed kind (length ends)) refl
  where
    by : (b : Bool) → is_hashed kind (length ends) ≡ b → ends ++ replicate (spare_len kind (length ends)) 0 ≡ slots_so_far kind [] ends []
    by true wide = rw wide (ap (λ x. ends ++ x) (sym (append-nil (replicate (length ends) 0))))
    by false plain = rw plain refl

-- a branch is opened
pub waits_opened : {kind : Kind} {all : Pairs} {w rest c : Window} {fs : List OpenBranch} {slots : List ℕ} {n : ℕ} {branches slots' branches' : _} → IsInside kind all w fs slots → IsPlaced kind all w → Passes kind all w rest n → step_of kind all rest ≡ Branch
    → rest.from < rest.to → rest.depth + 1 < 2 ^ 64 → (o : IsOpened kind all rest n c slots branches slots' branches') → IsInside kind all c (record { from = rest.from; depth = rest.depth; len = n; first = length slots; next = length slots; end = o.end } ∷ fs) slots'
waits_opened {kind = kind} {all = all} {w = w} {rest = rest} {c = c} {fs = fs} {slots = slots} {n = n} {slots' = slots'} waits placed run is some room o = by o.targets refl
  where
    by : (targets : List Window) → o.targets ≡ targets → IsInside kind all c (record { from = rest.from; depth = rest.depth; len = n; first = length slots; next = length slots; end = o.end } ∷ fs) slots'
    by [] none = absurd (let p = subst (TargetWindows all rest) none o.parts in omega arith)
    by (t ∷ more) e =
        let p = subst (TargetWindows all rest) e o.parts in
        let count = ap length e in
        let end = o.end_is in
        let own : List ℕ = slots_so_far kind [] (item_ends (t ∷ more)) [] in
        let slots_are : slots' ≡ slots ++ own = o.slots_are ∙ ap (λ x. slots ++ (item_ends x ++ replicate (spare_len kind (length x)) 0)) e ∙ ap (λ x. slots ++ x) (opened_slots kind (item_ends (t ∷ more)) (length (t ∷ more)) (length-map (t ∷ more) (λ c. c.to))) in
        let same : t ≡ c = rw (p.0 ∙ sym o.from, sym (o.to t more e), p.1 ∙ sym o.depth) refl in
        let counting : MeasuresTarget kind all w t (record { from = rest.from; depth = rest.depth; len = n; first = length slots; next = length slots; end = o.end }) slots own = record {
          placed = placed;
          behind = rest;
          run = run;
          is = is;
          done = [];
          more = more;
          parts = p;
          below = [];
          kept = kept_none;
          from = sym p.0;
          depth = refl;
          room = room;
          first = refl;
          next = omega arith;
          end = omega arith;
          own_is = refl;
        } in
        subst (λ x. IsInside kind all x (record { from = rest.from; depth = rest.depth; len = n; first = length slots; next = length slots; end = o.end } ∷ fs) slots') same
        (subst (IsInside kind all t (_ ∷ fs)) (sym slots_are) (inside waits counting))

-- as many slots as before
pub with_len_long : (kind : Kind) (f : OpenBranch) (len : ℕ) (slots : List ℕ) → length (with_len kind f len slots) ≡ length slots
with_len_long kind f len slots = by (is_hashed kind (f.end - f.first)) refl
  where
    by : (b : Bool) → is_hashed kind (f.end - f.first) ≡ b → length (with_len kind f len slots) ≡ length slots
    by true wide = rw wide (length-set (slice_set slots f.next len) (f.next + (f.end - f.first)) (length slots - (f.end + (f.end - f.first))) ∙ length-set slots f.next len)
    by false plain = rw plain (length-set slots f.next len)

-- the slots of a branch that is opened
pub wide_slots : (kind : Kind) (xs xs' xs'' : List ℕ) (cs : List Window) (first end : ℕ) → xs' ≡ xs ++ item_ends cs → first ≡ length xs → end ≡ length xs' → is_hashed kind (end - first) ≡ true
    → xs'' ≡ take (end + (end - first)) xs' ++ replicate (end + (end - first) - length xs') 0 → xs'' ≡ xs ++ (item_ends cs ++ replicate (spare_len kind (length cs)) 0)
wide_slots kind xs xs' xs'' cs first end is at till wide filled =
    let n = ap length is ∙ length-append xs (item_ends cs) in
    let m = length-map cs (λ c. c.to) in
    let count : end - first ≡ length cs = omega arith in
    let spare : end + (end - first) - length xs' ≡ spare_len kind (length cs) = (let e : end + (end - first) - length xs' ≡ length cs = omega arith in e ∙ sym (rw (ap (is_hashed kind) (sym count) ∙ wide) refl)) in
    filled ∙ ap (λ x. x ++ replicate (end + (end - first) - length xs') 0) (take_all (end + (end - first)) xs' (omega arith)) ∙ ap (λ k. xs' ++ replicate k 0) spare
    ∙ ap (λ x. x ++ replicate (spare_len kind (length cs)) 0) is ∙ append_assoc xs (item_ends cs) (replicate (spare_len kind (length cs)) 0)

pub plain_slots : (kind : Kind) (xs xs' : List ℕ) (cs : List Window) (first end : ℕ) → xs' ≡ xs ++ item_ends cs → first ≡ length xs → end ≡ length xs' → is_hashed kind (end - first) ≡ false
    → xs' ≡ xs ++ (item_ends cs ++ replicate (spare_len kind (length cs)) 0)
plain_slots kind xs xs' cs first end is at till plain =
    let n = ap length is ∙ length-append xs (item_ends cs) in
    let m = length-map cs (λ c. c.to) in
    let count : end - first ≡ length cs = omega arith in
    let spare : spare_len kind (length cs) ≡ 0 = rw (ap (is_hashed kind) (sym count) ∙ plain) refl in
    is ∙ ap (λ x. xs ++ x) (sym (append-nil (item_ends cs)) ∙ ap (λ k. item_ends cs ++ replicate k 0) (sym spare))

-- where the items of the first target end
pub first_to : (slots slots' : List ℕ) (n : ℕ) (cs : List Window) (t : Window) (more : List Window) (rest : List ℕ) → slots' ≡ slots ++ (item_ends cs ++ rest) → n ≡ length slots → cs ≡ t ∷ more → slice_index slots' n ≡ t.to
first_to slots slots' n cs t more rest is at e = get_at slots' slots t.to (item_ends more ++ rest) n (is ∙ ap (λ x. slots ++ (item_ends x ++ rest)) e) at

-- fewer slots are left for what is to be measured, once a branch is opened
pub opened_less : {kind : Kind} {all : Pairs} {w c : Window} {n : ℕ} {slots slots' : List ℕ} {branches branches' : List OpenBranch} → IsOpened kind all w n c slots branches slots' branches' → w.from < w.to → length slots' < 2 ^ 64
    → 2 * (2 ^ 64 - length slots') + left_open (reverse branches') < 2 * (2 ^ 64 - length slots) + left_open (reverse branches)
opened_less {kind = kind} {all = all} {w = w} {slots = slots} {branches = branches} {branches' = branches'} o some few =
    let back = ap left_open (popped branches' branches _ o.branches_are) in
    let a = ap length o.slots_are ∙ length-append slots (item_ends o.targets ++ replicate (spare_len kind (length o.targets)) 0) in
    let b = length-append (item_ends o.targets) (replicate (spare_len kind (length o.targets)) 0) in
    let m = length-map o.targets (λ c. c.to) in
    let end = o.end_is in
    let one = at_least o.targets o.parts in
    omega arith
  where
    at_least : (cs : List Window) → TargetWindows all w cs → 1 ≤ length cs
    at_least [] p = absurd (omega arith)
    at_least (c ∷ cs) p = omega arith
