-- The slots of a branch, and what they lead to.
use Rattle.std.proofs.Common.{◌≡◌, ℕ, zero, suc, ◌+◌, ◌-◌, ◌*◌, ◌<◌, ◌≤◌, inl, inr, List, [], ◌∷◌, ◌++◌, length, refl, sym, ◌∙◌, ap, subst, arith, get_or, take, drop, map, append_assoc, length-append, length-drop, true, false, cond, Bool, All}
use Rattle.std.specs.List.{concat, AllByRecursion}
use Rattle.std.specs.List.Sorted.{IsStrictlyIncreasing}
use Rattle.std.proofs.lemmas.Bool.{cases_lt}
use Rattle.std.proofs.lemmas.List.{drop-drop, drop_at, take_at}
use Rattle.zerotrie_base.specs.Kind.{Kind, fold_byte, is_hashed}
use Rattle.zerotrie_base.specs.Maps.{Pairs}
use Rattle.zerotrie_base.specs.Canonical.{size_of}
use Rattle.zerotrie_build.specs.declared.windows.Window.{Window}
use Rattle.zerotrie_build.specs.declared.branch.Position.{Position}
use Rattle.zerotrie_build.specs.declared.branch.Next.{Next}
use Rattle.zerotrie_build.specs.declared.branch.Next.TheVariants.{Go}
use Rattle.zerotrie_build.specs.passes.Windows.{window, edge_of, IsGroup}
use Rattle.zerotrie_build.specs.passes.Measured.{Passes, TargetWindows, HasFirstTargets, AreSlotsOf, AreSlotsOfEach, sizes_of, slots_of, ends_from}
use Rattle.zerotrie_build.specs.passes.Measured.Passes.{here, value, literal, span}
use Rattle.zerotrie_build.specs.passes.Measured.AreSlotsOf.{kept}
use Rattle.zerotrie_build.specs.passes.Measured.AreSlotsOfEach.{none as none_kept, more as more_kept}
use Rattle.zerotrie_build.specs.passes.Writing.{window_at, position_at, text_of, placed_next, next_of, HasSlots, HasSlotsTo, IsPending}
use Rattle.zerotrie_build.specs.passes.Writing.IsPending.{go as to_go, text as to_text}
use Rattle.zerotrie_build.proofs.WriteLemmas.Puts.{count_map}

-- the first items with one byte end at one place
group_same : {all : Pairs} {w : Window} {m n : ℕ} → IsGroup all w m → IsGroup all w n → m ≡ n
group_same {m = m} {n = n} p q = elim (cases_lt m n) [
  | inl less ↦ absurd (p.other (let a = q.within in omega arith) (q.same m (let a = p.some in omega arith) less))
  | inr from ↦ elim (cases_lt n m) [
    | inl less ↦ absurd (q.other (let a = p.within in omega arith) (p.same n (let a = q.some in omega arith) less))
    | inr to ↦ omega arith
  ]
]

pub window_same : (c d : Window) → c.from ≡ d.from → c.to ≡ d.to → c.depth ≡ d.depth → c ≡ d
window_same c d f t e =
    ap (λ x. record { from = x; to = c.to; depth = c.depth }) f ∙ ap (λ x. record { from = d.from; to = x; depth = c.depth }) t
    ∙ ap (λ x. record { from = d.from; to = d.to; depth = x }) e

-- the windows of the targets of a branch are known
pub parts_same : (all : Pairs) (w : Window) (cs ds : List Window) → TargetWindows all w cs → TargetWindows all w ds → cs ≡ ds
parts_same all w [] [] p q = refl
parts_same all w [] (d ∷ ds) p q = let a = q.2.some in let b = q.2.within in absurd (omega arith)
parts_same all w (c ∷ cs) [] p q = let a = p.2.some in let b = p.2.within in absurd (omega arith)
parts_same all w (c ∷ cs) (d ∷ ds) p q =
    let to = group_same p.2 q.2 in
    ap (λ x. x ∷ cs) (window_same c d (p.0 ∙ sym q.0) to (p.1 ∙ sym q.1))
    ∙ ap (λ x. d ∷ x) (parts_same all (record w { from = d.to }) cs ds (subst (λ x. TargetWindows all (record w { from = x }) cs) to p.3) q.3)

length-ends_from : (n : ℕ) (ms : List ℕ) → length (ends_from n ms) ≡ length ms
length-ends_from n [] = refl
length-ends_from n (m ∷ ms) = ap suc (length-ends_from (n + m) ms)

ends_most : (n most : ℕ) (below : List (List ℕ)) → n + length (concat below) ≤ most → (k d : ℕ) → k < length (ends_from n (map length below)) → get_or (ends_from n (map length below)) k d ≤ most
ends_most n most [] h k d l = absurd (omega arith)
ends_most n most (s ∷ below) h zero d l = let a = length-append s (concat below) in omega arith
ends_most n most (s ∷ below) h (suc k) d l = let a = length-append s (concat below) in ends_most (n + length s) most below (omega arith) k d (omega arith)

ends_last : (n : ℕ) (below : List (List ℕ)) → 0 < length below → get_or (ends_from n (map length below)) (length below - 1) 0 ≡ n + length (concat below)
ends_last n [] h = absurd (omega arith)
ends_last n (s ∷ []) h = let a = length-append s [] in omega arith
ends_last n (s ∷ t ∷ below) h =
    let next : suc (suc (length below)) - 1 ≡ suc (suc (length below) - 1) = omega arith in
    let a = length-append s (concat (t ∷ below)) in
    let r = ends_last (n + length s) (t ∷ below) (omega arith) in
    ap (λ i. get_or (ends_from n (map length (s ∷ t ∷ below))) i 0) next ∙ r ∙ (let e : (n + length s) + length (concat (t ∷ below)) ≡ n + length (concat (s ∷ t ∷ below)) = omega arith in e)

-- the slots of a branch
slots_hashed : (kind : Kind) (lens : List ℕ) (below : List (List ℕ)) → is_hashed kind (length lens) ≡ true → slots_of kind lens below ≡ lens ++ (ends_from 0 (map length below) ++ concat below)
slots_hashed kind lens below h = ap (λ is. lens ++ (cond is (ends_from 0 (map length below)) [] ++ concat below)) h

slots_plain : (kind : Kind) (lens : List ℕ) (below : List (List ℕ)) → is_hashed kind (length lens) ≡ false → slots_of kind lens below ≡ lens ++ concat below
slots_plain kind lens below h = ap (λ is. lens ++ (cond is (ends_from 0 (map length below)) [] ++ concat below)) h

-- What is at the slots of a branch with a hashed table.
pub record HashedAt (slots : List ℕ) (slot count : ℕ) (below : List (List ℕ)) (more : List ℕ) : Type 0 where
  pub ends_are : take count (drop (slot + count) slots) ≡ ends_from 0 (map length below)
  pub behind : drop (slot + 2 * count) slots ≡ concat below ++ more
  pub room : slot + 2 * count + length (concat below) ≤ length slots

hashed_at : (kind : Kind) (slots : List ℕ) (slot count : ℕ) (lens : List ℕ) (below : List (List ℕ)) (more : List ℕ) → is_hashed kind count ≡ true → length lens ≡ count → length below ≡ count → 0 < count
    → drop slot slots ≡ slots_of kind lens below ++ more → HashedAt slots slot count below more
hashed_at kind slots slot count lens below more h lens_each below_each some is =
    let ends = ends_from 0 (map length below) in
    let all_below = concat below in
    let whole : drop slot slots ≡ lens ++ (ends ++ (all_below ++ more)) =
    is ∙ ap (λ x. x ++ more) (slots_hashed kind lens below (ap (is_hashed kind) lens_each ∙ h)) ∙ append_assoc lens (ends ++ all_below) more ∙ ap (λ x. lens ++ x) (append_assoc ends all_below more) in
    let many = length-ends_from 0 (map length below) ∙ count_map length below ∙ below_each in
    let first : drop (slot + count) slots ≡ ends ++ (all_below ++ more) = sym (drop-drop count slot slots) ∙ ap (drop count) whole ∙ drop_at lens (ends ++ (all_below ++ more)) count lens_each in
    let twice : slot + count + count ≡ slot + 2 * count = omega arith in
    record {
      ends_are = ap (take count) first ∙ take_at ends (all_below ++ more) count many;
      behind = ap (λ n. drop n slots) (sym twice) ∙ sym (drop-drop count (slot + count) slots) ∙ ap (drop count) first ∙ drop_at ends (all_below ++ more) count many;
      room = (let a = ap length whole in let b = length-drop slot slots in let c = length-append lens (ends ++ (all_below ++ more)) in let d = length-append ends (all_below ++ more) in let e = length-append all_below more in omega arith);
    }

pub ends_room : {slots : List ℕ} {slot count : ℕ} {below : List (List ℕ)} {more : List ℕ} → HashedAt slots slot count below more → (limit : ℕ) → length slots < limit → (ends : List ℕ) → ends ≡ take count (drop (slot + count) slots)
    → All (λ e. slot + 2 * count + e < limit) ends
ends_room {slots = slots} {slot = slot} {count = count} {below = below} h limit small ends is =
    subst (λ x. (k d : ℕ) → k < length x → slot + 2 * count + get_or x k d < limit) (sym (is ∙ h.ends_are)) (λ k d l.
    let m = ends_most 0 (length (concat below)) below (omega arith) k d l in let r = h.room in omega arith)

-- the first slots of a branch
pub slots_lens : (kind : Kind) (slots : List ℕ) (slot count : ℕ) (lens : List ℕ) (below : List (List ℕ)) (more : List ℕ) → length lens ≡ count → 0 < count
    → drop slot slots ≡ slots_of kind lens below ++ more → (take count (drop slot slots) ≡ lens) × (slot + count ≤ length slots)
slots_lens kind slots slot count lens below more lens_each some is =
    let rest = cond (is_hashed kind (length lens)) (ends_from 0 (map length below)) [] ++ concat below in
    let whole : drop slot slots ≡ lens ++ (rest ++ more) = is ∙ append_assoc lens rest more in (
      ap (take count) whole ∙ take_at lens (rest ++ more) count lens_each,
      (let a = ap length whole in let b = length-drop slot slots in let c = length-append lens (rest ++ more) in omega arith),
    )

-- what is known of the branch that is laid out
pub branch_known : {kind : Kind} {all : Pairs} {w : Window} {slots : List ℕ} {slot : ℕ} (h : HasSlots kind all w slots slot) (ws : List Window) (n : ℕ) → TargetWindows all w ws → n ≡ length ws
    → (length h.lens ≡ n) × (length h.below ≡ n) × (0 < n) × IsStrictlyIncreasing (map (fold_byte kind) (map (edge_of all) ws))
branch_known {kind = kind} {all = all} {w = w} h ws n parts count =
    let same = parts_same all w h.windows ws h.parts parts in
    let long = ap length same ∙ sym count in
    (h.lens_each ∙ long, h.below_each ∙ long, (let s = h.some in omega arith), subst (λ x. IsStrictlyIncreasing (map (fold_byte kind) (map (edge_of all) x))) same h.rises)

pub branch_hashed : {kind : Kind} {all : Pairs} {w : Window} {slots : List ℕ} {slot : ℕ} (h : HasSlots kind all w slots slot) (ws : List Window) (n : ℕ) → TargetWindows all w ws → n ≡ length ws → is_hashed kind n ≡ true
    → HashedAt slots slot n h.below h.more
branch_hashed {kind = kind} {slots = slots} {slot = slot} h ws n parts count is =
    let k = branch_known h ws n parts count in
    hashed_at kind slots slot n h.lens h.below h.more is k.0 k.1 k.2 h.slots_are

pub branch_within : {kind : Kind} {all : Pairs} {w : Window} {slots : List ℕ} {slot : ℕ} (h : HasSlots kind all w slots slot) (ws : List Window) (n : ℕ) → TargetWindows all w ws → n ≡ length ws → slot + n ≤ length slots
branch_within {kind = kind} {slots = slots} {slot = slot} h ws n parts count =
    let k = branch_known h ws n parts count in
    (slots_lens kind slots slot n h.lens h.below h.more k.0 k.2 h.slots_are).1

-- what is after the lengths of another branch
plain_at : (kind : Kind) (slots : List ℕ) (slot count : ℕ) (lens : List ℕ) (below : List (List ℕ)) (more : List ℕ) → is_hashed kind count ≡ false → length lens ≡ count
    → drop slot slots ≡ slots_of kind lens below ++ more → drop (slot + count) slots ≡ concat below ++ more
plain_at kind slots slot count lens below more h lens_each is =
    let all_below = concat below in
    let whole : drop slot slots ≡ lens ++ (all_below ++ more) =
    is ∙ ap (λ x. x ++ more) (slots_plain kind lens below (ap (is_hashed kind) lens_each ∙ h)) ∙ append_assoc lens all_below more in
    sym (drop-drop count slot slots) ∙ ap (drop count) whole ∙ drop_at lens (all_below ++ more) count lens_each

-- What is known of a window whose slots are these.
pub record Opened (kind : Kind) (all : Pairs) (slots : List ℕ) (slot end : ℕ) (w : Window) : Type 0 where
  pub cs : List Window
  pub below : List (List ℕ)
  pub more : List ℕ
  pub known : HasFirstTargets kind all w cs
  pub each : AreSlotsOfEach kind all cs below
  pub slots_are : drop slot slots ≡ slots_of kind (sizes_of kind all cs) below ++ more
  pub end_is : end ≡ slot + length (slots_of kind (sizes_of kind all cs) below)

pub opened : {kind : Kind} {all : Pairs} {slots : List ℕ} {slot end : ℕ} {w : Window} → HasSlotsTo kind all slots slot end w → Opened kind all slots slot end w
opened {kind = kind} {all = all} {slots = slots} {slot = slot} {end = end} {w = w} k = by_kept k.kept k.slots_are k.end_is
  where
    by_kept : {s : List ℕ} → AreSlotsOf kind all w s → drop slot slots ≡ s ++ k.more → end ≡ slot + length s → Opened kind all slots slot end w
    by_kept (kept {cs = cs} {below = below} o each) is to = record { cs = cs; below = below; more = k.more; known = o; each = each; slots_are = is; end_is = to }

pub each_count : {kind : Kind} {all : Pairs} {cs : List Window} {below : List (List ℕ)} → AreSlotsOfEach kind all cs below → length below ≡ length cs
each_count none_kept = refl
each_count (more_kept k each) = ap suc (each_count each)

-- the slots of the window of a number
kept_at : {kind : Kind} {all : Pairs} {cs : List Window} {below : List (List ℕ)} (slots : List ℕ) (from n : ℕ) (more : List ℕ) → AreSlotsOfEach kind all cs below → drop (from + n) slots ≡ concat below ++ more
    → (i : ℕ) → i < length cs → (end : ℕ) × HasSlotsTo kind all slots (from + get_or (n ∷ ends_from n (map length below)) i 0) end (window_at cs i)
kept_at slots from n more none_kept is i h = absurd (omega arith)
kept_at slots from n more (more_kept {slots = s} {below = below} k each) is zero h =
    (from + n + length s, record { below = s; more = concat below ++ more; kept = k; slots_are = is ∙ append_assoc s (concat below) more; end_is = refl })
kept_at slots from n more (more_kept {slots = s} {below = below} k each) is (suc i) h =
    let next : from + n + length s ≡ from + (n + length s) = omega arith in
    kept_at slots from (n + length s) more each
    (ap (λ x. drop x slots) (sym next) ∙ sym (drop-drop (length s) (from + n) slots) ∙ ap (drop (length s)) (is ∙ append_assoc s (concat below) more) ∙ drop_at s (concat below ++ more) (length s) refl) i (omega arith)

leads_placed : {kind : Kind} {all : Pairs} (slots : List ℕ) (from : ℕ) (cs : List Window) (ends : List ℕ) → ((i : ℕ) → i < length cs → (end : ℕ) × HasSlotsTo kind all slots (from + get_or (0 ∷ ends) i 0) end (window_at cs i))
    → (numbers : List ℕ) → AllByRecursion (λ i. i < length cs) numbers → (next : List Next) (ws : List Window) → ((at : Position) → IsPending kind all slots at next ws)
    → (at : Position) → IsPending kind all slots at (placed_next ends from cs numbers ++ next) (map (window_at cs) numbers ++ ws)
leads_placed slots from cs ends each [] within next ws then at = then at
leads_placed slots from cs ends each (i ∷ numbers) within next ws then at =
    let here = each i within.0 in
    to_go (to_text here.1 (leads_placed slots from cs ends each numbers within.1 next ws then (position_at (window_at cs i).to here.0)))

leads_sorted : {kind : Kind} {all : Pairs} {cs : List Window} {below : List (List ℕ)} (slots : List ℕ) (v : Window) (at : ℕ) (more : List ℕ) → TargetWindows all v cs → AreSlotsOfEach kind all cs below → drop at slots ≡ concat below ++ more
    → (next : List Next) (ws : List Window) → IsPending kind all slots (position_at v.to (at + length (concat below))) next ws → IsPending kind all slots (position_at v.from at) (map text_of cs ++ next) (cs ++ ws)
leads_sorted {kind = kind} {all = all} slots v at more parts none_kept is next ws then =
    subst (λ f. IsPending kind all slots (position_at f at) next ws) (sym parts) (subst (λ n. IsPending kind all slots (position_at v.to n) next ws) (let e : at + 0 ≡ at = omega arith in e) then)
leads_sorted {kind = kind} {all = all} {cs = c ∷ cs} slots v at more parts (more_kept {slots = s} {below = below} k each) is next ws then =
    let whole = is ∙ append_assoc s (concat below) more in
    let long : at + length (s ++ concat below) ≡ at + length s + length (concat below) = (let a = length-append s (concat below) in omega arith) in
    subst (λ f. IsPending kind all slots (position_at f at) (map text_of (c ∷ cs) ++ next) (c ∷ cs ++ ws)) parts.0
    (to_text (record { below = s; more = concat below ++ more; kept = k; slots_are = whole; end_is = refl })
    (leads_sorted slots (record v { from = c.to }) (at + length s) more parts.3 each (sym (drop-drop (length s) at slots) ∙ ap (drop (length s)) whole ∙ drop_at s (concat below ++ more) (length s) refl) next ws
    (subst (λ n. IsPending kind all slots (position_at v.to n) next ws) long then)))

-- the first window begins where the branch does, and the last one ends there too
parts_first : (all : Pairs) (w : Window) (cs : List Window) → TargetWindows all w cs → 0 < length cs → (window_at cs 0).from ≡ w.from
parts_first all w [] parts some = absurd (omega arith)
parts_first all w (c ∷ cs) parts some = parts.0

parts_last : (all : Pairs) (w : Window) (cs : List Window) → TargetWindows all w cs → 0 < length cs → (window_at cs (length cs - 1)).to ≡ w.to
parts_last all w [] parts some = absurd (omega arith)
parts_last all w (c ∷ []) parts some = parts.3
parts_last all w (c ∷ d ∷ cs) parts some =
    let next : suc (suc (length cs)) - 1 ≡ suc (suc (length cs) - 1) = omega arith in
    ap (λ i. (window_at (c ∷ d ∷ cs) i).to) next ∙ parts_last all (record w { from = c.to }) (d ∷ cs) parts.3 (omega arith)

-- a run ends where its window does
run_to : {kind : Kind} {all : Pairs} {w behind : Window} {n : ℕ} → Passes kind all w behind n → behind.to ≡ w.to
run_to here = refl
run_to (value v is run) = run_to run
run_to (literal b is run) = run_to run
run_to (span m is run) = run_to run

next_hashed : (kind : Kind) (slots : List ℕ) (slot : ℕ) (cs : List Window) (numbers : List ℕ) → is_hashed kind (length cs) ≡ true
    → next_of kind slots slot cs numbers ≡ placed_next (take (length cs) (drop (slot + length cs) slots)) (slot + 2 * length cs) cs numbers
    ++ Go (position_at (window_at cs (length cs - 1)).to (slot + 2 * length cs + get_or (take (length cs) (drop (slot + length cs) slots)) (length cs - 1) 0)) ∷ []
next_hashed kind slots slot cs numbers h =
    let ends = take (length cs) (drop (slot + length cs) slots) in
    ap (λ is. cond is (placed_next ends (slot + 2 * length cs) cs numbers ++ Go (position_at (window_at cs (length cs - 1)).to (slot + 2 * length cs + get_or ends (length cs - 1) 0)) ∷ [])
    (Go (position_at (window_at cs 0).from (slot + length cs)) ∷ map text_of cs)) h

next_plain : (kind : Kind) (slots : List ℕ) (slot : ℕ) (cs : List Window) (numbers : List ℕ) → is_hashed kind (length cs) ≡ false → next_of kind slots slot cs numbers ≡ Go (position_at (window_at cs 0).from (slot + length cs)) ∷ map text_of cs
next_plain kind slots slot cs numbers h =
    let ends = take (length cs) (drop (slot + length cs) slots) in
    ap (λ is. cond is (placed_next ends (slot + 2 * length cs) cs numbers ++ Go (position_at (window_at cs (length cs - 1)).to (slot + 2 * length cs + get_or ends (length cs - 1) 0)) ∷ [])
    (Go (position_at (window_at cs 0).from (slot + length cs)) ∷ map text_of cs)) h

-- the targets of a branch, in the order of its table
pub next_leads : {kind : Kind} {all : Pairs} {slots : List ℕ} {slot end : ℕ} {w : Window} (k : Opened kind all slots slot end w) (numbers : List ℕ) → 0 < length k.cs
    → AllByRecursion (λ j. j < length k.cs) numbers → (is_hashed kind (length k.cs) ≡ false → map (window_at k.cs) numbers ≡ k.cs)
    → (next : List Next) (ws : List Window) → IsPending kind all slots (position_at w.to end) next ws → (at : Position) → IsPending kind all slots at (next_of kind slots slot k.cs numbers ++ next) (map (window_at k.cs) numbers ++ ws)
next_leads {kind = kind} {all = all} {slots = slots} {slot = slot} {end = end} {w = w} k numbers some within sorted next ws then at = either (is_hashed kind (length k.cs)) refl
  where
    count : ℕ
    count = length k.cs

    lens : List ℕ
    lens = sizes_of kind all k.cs

    lens_each : length lens ≡ count
    lens_each = count_map (size_of kind) (map (window all) k.cs) ∙ count_map (window all) k.cs

    either : (b : Bool) → is_hashed kind count ≡ b → IsPending kind all slots at (next_of kind slots slot k.cs numbers ++ next) (map (window_at k.cs) numbers ++ ws)
    either true is =
        let h = hashed_at kind slots slot count lens k.below k.more is lens_each (each_count k.each) some k.slots_are in
        let ends = ends_from 0 (map length k.below) in
        let from = slot + 2 * count in
        let last : from + get_or ends (count - 1) 0 ≡ end =
        (let m = each_count k.each in
        let l = ends_last 0 k.below (omega arith) in
        let same = ap (λ n. get_or ends (n - 1) 0) m in
        let e = k.end_is in
        let long = ap length (slots_hashed kind lens k.below (ap (is_hashed kind) lens_each ∙ is)) in
        let a = length-append lens (ends ++ concat k.below) in
        let b = length-append ends (concat k.below) in
        let n = length-ends_from 0 (map length k.below) ∙ count_map length k.below in
        omega (arith, lens_each)) in
        let start : from + 0 ≡ from = omega arith in
        let each = kept_at slots from 0 k.more k.each (ap (λ n. drop n slots) start ∙ h.behind) in
        let to = (window_at k.cs (count - 1)).to in
        let to_is : to ≡ w.to = parts_last all k.known.behind k.cs k.known.parts some ∙ run_to k.known.run in
        let past = Go (position_at to (from + get_or ends (count - 1) 0)) in
        let tail : IsPending kind all slots (position_at to (from + get_or ends (count - 1) 0)) next ws =
        subst (λ n. IsPending kind all slots (position_at to n) next ws) (sym last) (subst (λ f. IsPending kind all slots (position_at f end) next ws) (sym to_is) then) in
        let there = leads_placed slots from k.cs ends each numbers within (past ∷ next) ws (λ n. to_go tail) at in
        let items : next_of kind slots slot k.cs numbers ++ next ≡ placed_next ends from k.cs numbers ++ (past ∷ next) =
        ap (λ x. x ++ next) (next_hashed kind slots slot k.cs numbers is ∙ ap (λ es. placed_next es from k.cs numbers ++ Go (position_at to (from + get_or es (count - 1) 0)) ∷ []) h.ends_are)
        ∙ append_assoc (placed_next ends from k.cs numbers) (past ∷ []) next in
        subst (λ x. IsPending kind all slots at x (map (window_at k.cs) numbers ++ ws)) (sym items) there
    either false is =
        let p = plain_at kind slots slot count lens k.below k.more is lens_each k.slots_are in
        let last : end ≡ slot + count + length (concat k.below) =
        (let e = k.end_is in
        let long = ap length (slots_plain kind lens k.below (ap (is_hashed kind) lens_each ∙ is)) in
        let a = length-append lens (concat k.below) in
        omega (arith, lens_each)) in
        let behind = k.known.behind in
        let tail : IsPending kind all slots (position_at behind.to (slot + count + length (concat k.below))) next ws =
        subst (λ n. IsPending kind all slots (position_at behind.to n) next ws) last (subst (λ f. IsPending kind all slots (position_at f end) next ws) (sym (run_to k.known.run)) then) in
        let first : (window_at k.cs 0).from ≡ behind.from = parts_first all behind k.cs k.known.parts some in
        let there : IsPending kind all slots at (Go (position_at (window_at k.cs 0).from (slot + count)) ∷ map text_of k.cs ++ next) (k.cs ++ ws) =
        to_go (subst (λ f. IsPending kind all slots (position_at f (slot + count)) (map text_of k.cs ++ next) (k.cs ++ ws)) (sym first) (leads_sorted slots behind (slot + count) k.more k.known.parts k.each p next ws tail)) in
        subst (λ x. IsPending kind all slots at (x ++ next) (map (window_at k.cs) numbers ++ ws)) (sym (next_plain kind slots slot k.cs numbers is))
        (subst (λ x. IsPending kind all slots at (Go (position_at (window_at k.cs 0).from (slot + count)) ∷ map text_of k.cs ++ next) (x ++ ws)) (sym (sorted is)) there)

-- no branch has no slots
pub none_ends : {kind : Kind} {all : Pairs} {slots : List ℕ} {slot end : ℕ} {w : Window} (k : Opened kind all slots slot end w) → k.cs ≡ [] → end ≡ slot
none_ends {kind = kind} {all = all} {slot = slot} {end = end} k e = by_none k.cs k.below k.each e k.end_is
  where
    nothing : (b : Bool) → length (cond b (ends_from 0 []) []) ≡ 0
    nothing true = refl
    nothing false = refl

    by_none : (cs : List Window) (below : List (List ℕ)) → AreSlotsOfEach kind all cs below → cs ≡ [] → end ≡ slot + length (slots_of kind (sizes_of kind all cs) below) → end ≡ slot
    by_none [] [] each e is =
        let n = nothing (is_hashed kind 0) in
        let a = length-append (cond (is_hashed kind 0) (ends_from 0 []) []) [] in
        omega (arith, is)
    by_none (c ∷ cs) below each e is = absurd (let n = ap length e in omega arith)
    by_none [] (s ∷ below) each e is = absurd (let n = each_count each in omega arith)
