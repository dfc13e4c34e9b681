-- The innermost branch that a window stands in.
use Rattle.std.proofs.Common.{◌≡◌, ℕ, suc, ◌+◌, ◌-◌, ◌<◌, ◌≤◌, Bool, true, false, List, [], ◌∷◌, ◌++◌, length, refl, sym, ◌∙◌, ap, subst, arith, get_or, map, replicate, append_assoc, length-append}
use Rattle.std.proofs.lemmas.List.{append-nil, map-append, length-map}
use Rattle.std.specs.Prelude.{slice_index, if◌then◌else◌}
use Rattle.std.specs.List.{concat}
use Rattle.zerotrie_base.specs.Kind.{Kind, is_hashed}
use Rattle.zerotrie_base.specs.Maps.{Pairs}
use Rattle.zerotrie_base.specs.Canonical.{size_of}
use Rattle.zerotrie_build.specs.Order.{Ordered, AreKeys}
use Rattle.zerotrie_build.specs.declared.windows.Window.{Window}
use Rattle.zerotrie_build.specs.declared.measure.OpenBranch.{OpenBranch}
use Rattle.zerotrie_build.specs.passes.Windows.{window}
use Rattle.zerotrie_build.specs.passes.Measured.{TargetWindows, sizes_of, ends_from, AreSlotsOf, AreSlotsOfEach, whole_window}
use Rattle.zerotrie_build.specs.passes.Measured.AreSlotsOfEach.{none as kept_none, more as kept_more}
use Rattle.zerotrie_build.specs.passes.Walking.{IsPlaced, item_ends, spare_len, slots_so_far, with_len, MeasuresTarget, IsInside, Closing}
use Rattle.zerotrie_build.specs.passes.Walking.IsInside.{outside, inside}
use Rattle.zerotrie_build.proofs.WindowLemmas.Placed.{Targets, targets, eachw_middle, whole_placed}
use Rattle.zerotrie_build.proofs.MeasureLemmas.Slots.{get_middle, length-ends_from, length-zeros, so_far_at, with_len_is}

-- What the innermost branch is, in which a window was measured.
pub record Inner (kind : Kind) (all : Pairs) (f : OpenBranch) (fs : List OpenBranch) (slots : List ℕ) (len : ℕ) : Type 0 where
  pub w : Window
  pub c : Window
  pub before : List ℕ
  pub own : List ℕ
  pub below : List ℕ
  pub waits : IsInside kind all w fs before
  pub counting : MeasuresTarget kind all w c f before own
  pub kept : AreSlotsOf kind all c below
  pub slots_are : slots ≡ (before ++ own) ++ below
  pub len_is : len ≡ size_of kind (window all c)

inner_at : {kind : Kind} {all : Pairs} {w : Window} {branches : List OpenBranch} {front : List ℕ} (f : OpenBranch) (fs : List OpenBranch) (slots own : List ℕ) (len : ℕ)
    → IsInside kind all w branches front → branches ≡ f ∷ fs → AreSlotsOf kind all w own → slots ≡ front ++ own → len ≡ size_of kind (window all w) → Inner kind all f fs slots len
inner_at f fs slots own len outside e kept_own is len_is = absurd (cc)
inner_at {kind = kind} {all = all} f fs slots own len (inside {w = w} {c = c} {f = f'} {fs = fs'} {before = before} {own = before_own} waits counting) e kept_own is len_is =
    let same : f' ≡ f = cc in
    let others : fs' ≡ fs = cc in record {
      w = w;
      c = c;
      before = before;
      own = before_own;
      below = own;
      waits = subst (λ x. IsInside kind all w x before) others waits;
      counting = subst (λ x. MeasuresTarget kind all w c x before before_own) same counting;
      kept = kept_own;
      slots_are = is;
      len_is = len_is;
    }

pub inner : {kind : Kind} {all : Pairs} {branches : List OpenBranch} {slots : List ℕ} {len : ℕ} (f : OpenBranch) (fs : List OpenBranch) → Closing kind all branches slots len → branches ≡ f ∷ fs → Inner kind all f fs slots len
inner {slots = slots} {len = len} f fs closing e = inner_at f fs slots closing.own len closing.waits e closing.kept closing.slots_are closing.len_is

-- no branch is open any more
pub all_closed : {kind : Kind} {all : Pairs} {branches : List OpenBranch} {slots : List ℕ} {len : ℕ} → Closing kind all branches slots len → branches ≡ [] → AreSlotsOf kind all (whole_window all) slots × (len ≡ size_of kind (window all (whole_window all)))
all_closed {slots = slots} {len = len} closing e = by closing.waits e closing.kept closing.slots_are closing.len_is
  where
    by : {kind : Kind} {all : Pairs} {w : Window} {bs : List OpenBranch} {front own : List ℕ} → IsInside kind all w bs front → bs ≡ [] → AreSlotsOf kind all w own → slots ≡ front ++ own → len ≡ size_of kind (window all w)
        → AreSlotsOf kind all (whole_window all) slots × (len ≡ size_of kind (window all (whole_window all)))
    by {kind = kind} {all = all} outside e k is n = (subst (AreSlotsOf kind all (whole_window all)) (sym is) k, n)
    by (inside waits counting) e k is n = absurd (cc)

-- what is known of all targets of the branch
pub counted : {kind : Kind} {all : Pairs} {w c : Window} {f : OpenBranch} {before own : List ℕ} (i : MeasuresTarget kind all w c f before own) → AreKeys kind all → Targets kind all i.behind (i.done ++ c ∷ i.more)
counted {kind = kind} {all = all} {w = w} {c = c} {f = f} i keys = targets kind all w i.behind f.len (i.done ++ c ∷ i.more) i.placed keys i.run i.is i.parts

-- the window that is measured is placed
pub waits_placed : {kind : Kind} {all : Pairs} {w : Window} {branches : List OpenBranch} {slots : List ℕ} → IsInside kind all w branches slots → AreKeys kind all → Ordered kind all → IsPlaced kind all w
waits_placed {kind = kind} {all = all} outside keys up = whole_placed kind all up
waits_placed {kind = kind} {all = all} (inside {c = c} waits counting) keys up = eachw_middle (IsPlaced kind all) counting.done c counting.more (counted counting keys).placed

-- the lengths of what is measured and kept
pub kept_snoc : {kind : Kind} {all : Pairs} {cs : List Window} {below : List (List ℕ)} {c : Window} {own : List ℕ} → AreSlotsOfEach kind all cs below → AreSlotsOf kind all c own → AreSlotsOfEach kind all (cs ++ c ∷ []) (below ++ own ∷ [])
kept_snoc kept_none k = kept_more k kept_none
kept_snoc (kept_more k' each) k = kept_more k' (kept_snoc each k)

kept_count : {kind : Kind} {all : Pairs} {cs : List Window} {below : List (List ℕ)} → AreSlotsOfEach kind all cs below → length below ≡ length cs
kept_count kept_none = refl
kept_count (kept_more k each) = ap suc (kept_count each)

sizes_snoc : (kind : Kind) (all : Pairs) (cs : List Window) (c : Window) → sizes_of kind all (cs ++ c ∷ []) ≡ sizes_of kind all cs ++ size_of kind (window all c) ∷ []
sizes_snoc kind all cs c = ap (map (size_of kind)) (map-append (window all) cs (c ∷ [])) ∙ map-append (size_of kind) (map (window all) cs) (window all c ∷ [])

pub length-sizes : (kind : Kind) (all : Pairs) (cs : List Window) → length (sizes_of kind all cs) ≡ length cs
length-sizes kind all cs = length-map (map (window all) cs) (size_of kind) ∙ length-map cs (window all)

-- the slots, when the window is measured
pub inner_slots : {kind : Kind} {all : Pairs} {f : OpenBranch} {fs : List OpenBranch} {slots : List ℕ} {len : ℕ} (i : Inner kind all f fs slots len)
    → with_len kind f len slots ≡ i.before ++ slots_so_far kind (sizes_of kind all (i.counting.done ++ i.c ∷ [])) (item_ends i.counting.more) (i.counting.below ++ i.below ∷ [])
inner_slots {kind = kind} {all = all} {f = f} {slots = slots} {len = len} i =
    let k = i.counting in
    let lens = sizes_of kind all k.done in
    let n = length-sizes kind all k.done in
    let m = kept_count k.kept in
    let ends = length-map k.more (λ c. c.to) in
    let next = k.next in let end = k.end in
    ap (with_len kind f len) (i.slots_are ∙ ap (λ x. (i.before ++ x) ++ i.below) k.own_is)
    ∙ with_len_is kind f i.before lens i.c.to (item_ends k.more) k.below i.below len k.first (omega arith) (omega arith) (omega arith)
    ∙ ap (λ x. i.before ++ slots_so_far kind x (item_ends k.more) (k.below ++ i.below ∷ [])) (ap (λ x. lens ++ x ∷ []) i.len_is ∙ sym (sizes_snoc kind all k.done i.c))

zeros_some : (kind : Kind) (n : ℕ) (xs ys : List ℕ) → length xs + length ys ≡ n → spare_len kind n ≤ length (if is_hashed kind n then xs ++ ys else [])
zeros_some kind n xs ys is = by (is_hashed kind n) refl
  where
    by : (b : Bool) → is_hashed kind n ≡ b → spare_len kind n ≤ length (if is_hashed kind n then xs ++ ys else [])
    by true wide = rw wide (let l = length-append xs ys in omega arith)
    by false plain = rw plain (omega arith)

so_far_long : (kind : Kind) (lens : List ℕ) (e : ℕ) (ends : List ℕ) (below : List (List ℕ)) (before more : List ℕ) → length below ≡ length lens
    → length before + (length (lens ++ e ∷ ends) + spare_len kind (length (lens ++ e ∷ ends))) ≤ length ((before ++ slots_so_far kind lens (e ∷ ends) below) ++ more)
so_far_long kind lens e ends below before more same =
    let es = ends_from 0 (map length below) in
    let zs : List ℕ = replicate (length (e ∷ ends)) 0 in
    let spare = if is_hashed kind (length (lens ++ e ∷ ends)) then es ++ zs else [] in
    let l1 = length-append (before ++ slots_so_far kind lens (e ∷ ends) below) more in
    let l2 = length-append before (slots_so_far kind lens (e ∷ ends) below) in
    let l3 = length-append (lens ++ e ∷ ends) (spare ++ concat below) in
    let l4 = length-append spare (concat below) in
    let l5 = length-append lens (e ∷ ends) in
    let l6 = length-ends_from 0 (map length below) in let l7 = length-map below length in let l8 = length-zeros (length (e ∷ ends)) in
    let s = zeros_some kind (length (lens ++ e ∷ ends)) es zs (omega arith) in
    omega arith

-- how many slots there are
pub inner_within : {kind : Kind} {all : Pairs} {f : OpenBranch} {fs : List OpenBranch} {slots : List ℕ} {len : ℕ} (i : Inner kind all f fs slots len)
    → (f.first ≤ f.next) × (f.next < f.end) × (f.end + spare_len kind (f.end - f.first) ≤ length slots)
inner_within {kind = kind} {all = all} {f = f} {slots = slots} i =
    let k = i.counting in
    let lens = sizes_of kind all k.done in
    let n = length-sizes kind all k.done in
    let m = kept_count k.kept in
    let ends = length-map k.more (λ c. c.to) in
    let l = length-append lens (i.c.to ∷ item_ends k.more) in
    let next = k.next in let first = k.first in let end = k.end in
    let count : length (lens ++ i.c.to ∷ item_ends k.more) ≡ f.end - f.first = omega arith in
    let long = so_far_long kind lens i.c.to (item_ends k.more) k.below i.before i.below (omega arith) in
    let is = ap length (i.slots_are ∙ ap (λ x. (i.before ++ x) ++ i.below) k.own_is) in
    let spare = ap (spare_len kind) count in
    (omega arith, omega arith, omega arith)

pub get_at : (slots front : List ℕ) (y : ℕ) (rest : List ℕ) (n : ℕ) → slots ≡ front ++ y ∷ rest → n ≡ length front → slice_index slots n ≡ y
get_at slots front y rest n is at = ap (λ x. get_or x n 0) is ∙ ap (λ j. get_or (front ++ y ∷ rest) j 0) at ∙ get_middle front y 0 rest

so_far_next : (kind : Kind) (slots before lens : List ℕ) (e : ℕ) (ends : List ℕ) (below : List (List ℕ)) (more : List ℕ) (n : ℕ) → slots ≡ (before ++ slots_so_far kind lens (e ∷ ends) below) ++ more → n ≡ length before + length lens → slice_index slots n ≡ e
so_far_next kind slots before lens e ends below more n is at =
    get_at slots (before ++ lens) e _ n (is ∙ so_far_at kind lens e ends below before more) (let l = length-append before lens in omega arith)

-- where the items of the target end that is measured
pub inner_to : {kind : Kind} {all : Pairs} {f : OpenBranch} {fs : List OpenBranch} {slots : List ℕ} {len : ℕ} (i : Inner kind all f fs slots len) → slice_index slots f.next ≡ i.c.to
inner_to {kind = kind} {all = all} {f = f} {slots = slots} i =
    let k = i.counting in
    let n = length-sizes kind all k.done in
    let next = k.next in let first = k.first in
    so_far_next kind slots i.before (sizes_of kind all k.done) i.c.to (item_ends k.more) k.below i.below f.next (i.slots_are ∙ ap (λ x. (i.before ++ x) ++ i.below) k.own_is) (omega arith)

-- the windows of targets lie side by side
parts_next : (all : Pairs) (w : Window) (done : List Window) (c d : Window) (more : List Window) → TargetWindows all w (done ++ c ∷ d ∷ more) → (d.from ≡ c.to) × (d.depth ≡ w.depth + 1)
parts_next all w [] c d more p = (p.3.0, p.3.1)
parts_next all w (x ∷ done) c d more p = parts_next all (record w { from = x.to }) done c d more p.3

-- one target more is measured, and another is next
pub waits_next : {kind : Kind} {all : Pairs} {f : OpenBranch} {fs : List OpenBranch} {slots : List ℕ} {len : ℕ} (i : Inner kind all f fs slots len) (slots' : List ℕ) (from : ℕ) → slots' ≡ with_len kind f len slots → from ≡ slice_index slots f.next
    → f.next + 1 < f.end → (f' : OpenBranch) → f' ≡ record { from = from; depth = f.depth; len = f.len; first = f.first; next = f.next + 1; end = f.end }
    → IsInside kind all (record { from = from; to = slice_index slots' (f.next + 1); depth = f.depth + 1 }) (f' ∷ fs) slots'
waits_next {kind = kind} {all = all} {f = f} {fs = fs} {slots = slots} {len = len} i slots' from is from_is more_left f' f_is = by i.counting.more refl
  where
    k : MeasuresTarget kind all i.w i.c f i.before i.own
    k = i.counting

    slots_is : slots' ≡ i.before ++ slots_so_far kind (sizes_of kind all (k.done ++ i.c ∷ [])) (item_ends k.more) (k.below ++ i.below ∷ [])
    slots_is = is ∙ inner_slots i

    by : (more : List Window) → k.more ≡ more → IsInside kind all (record { from = from; to = slice_index slots' (f.next + 1); depth = f.depth + 1 }) (f' ∷ fs) slots'
    by [] none = absurd (let n = ap length none in let end = k.end in omega arith)
    by (d ∷ more) some =
        let done = k.done ++ i.c ∷ [] in
        let parts : TargetWindows all k.behind (done ++ d ∷ more) = subst (TargetWindows all k.behind) (ap (λ x. k.done ++ i.c ∷ x) some ∙ sym (append_assoc k.done (i.c ∷ []) (d ∷ more))) k.parts in
        let side = parts_next all k.behind k.done i.c d more (subst (λ x. TargetWindows all k.behind (k.done ++ i.c ∷ x)) some k.parts) in
        let own : List ℕ = slots_so_far kind (sizes_of kind all done) (item_ends (d ∷ more)) (k.below ++ i.below ∷ []) in
        let slots_are : slots' ≡ i.before ++ own = slots_is ∙ ap (λ x. i.before ++ slots_so_far kind (sizes_of kind all done) (item_ends x) (k.below ++ i.below ∷ [])) some in
        let n = length-sizes kind all done in
        let m = length-append k.done (i.c ∷ []) in
        let next = k.next in let first = k.first in let end = k.end in let down = k.depth in let below_is = side.1 in
        let count = ap length some in
        let to : slice_index slots' (f.next + 1) ≡ d.to = so_far_next kind slots' i.before (sizes_of kind all done) d.to (item_ends more) (k.below ++ i.below ∷ []) [] (f.next + 1) (slots_are ∙ sym (append-nil (i.before ++ own))) (omega arith) in
        let from_to : from ≡ d.from = from_is ∙ inner_to i ∙ sym side.0 in
        let depth_to : f.depth + 1 ≡ d.depth = omega arith in
        let window_is : d ≡ record { from = from; to = slice_index slots' (f.next + 1); depth = f.depth + 1 } = rw (from_to, to, depth_to) refl in
        let counting : MeasuresTarget kind all i.w d (record { from = from; depth = f.depth; len = f.len; first = f.first; next = f.next + 1; end = f.end }) i.before own = record {
          placed = k.placed;
          behind = k.behind;
          run = k.run;
          is = k.is;
          done = done;
          more = more;
          parts = parts;
          below = k.below ++ i.below ∷ [];
          kept = kept_snoc k.kept i.kept;
          from = from_to;
          depth = k.depth;
          room = k.room;
          first = k.first;
          next = omega arith;
          end = omega arith;
          own_is = refl;
        } in
        subst (λ x. IsInside kind all x (f' ∷ fs) slots') window_is (subst (λ x. IsInside kind all d (x ∷ fs) slots') (sym f_is) (subst (IsInside kind all d (_ ∷ fs)) (sym slots_are) (inside i.waits counting)))
