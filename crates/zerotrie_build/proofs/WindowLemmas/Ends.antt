-- Items of an ordered window that have one byte at its depth stand together.
use Rattle.std.proofs.Common.{◌≡◌, ℕ, zero, suc, ◌+◌, ◌-◌, ◌<◌, ◌≤◌, inl, inr, List, [], ◌∷◌, length, sym, ◌∙◌, ap, subst, arith, drop, Some}
use Rattle.std.proofs.lemmas.Option.{slice_get_cases}
use Rattle.std.proofs.lemmas.List.{drop_all}
use Rattle.zerotrie_base.specs.Kind.{Kind}
use Rattle.zerotrie_base.specs.Maps.{Pairs, with_front}
use Rattle.zerotrie_build.specs.Order.{Before, Ordered}
use Rattle.zerotrie_build.specs.declared.windows.Window.{Window}
use Rattle.zerotrie_build.specs.passes.Windows.{cut, window, item_no, byte_of}
use Rattle.zerotrie_build.proofs.WindowLemmas.Windows.{cut_first, cut_append, cut_shared, key_cut}
use Rattle.zerotrie_build.proofs.WindowLemmas.NodeRuns.{follows_cut}
use Rattle.zerotrie_build.proofs.WindowLemmas.Opened.{byte_here}
use Rattle.zerotrie_build.proofs.WindowLemmas.Placed.{ordered_parts}

abbrev head_key : Pairs → List ℕ
head_key [] = []
head_key (e ∷ pairs) = e.0

abbrev tail_of : Pairs → Pairs
tail_of [] = []
tail_of (e ∷ pairs) = pairs

-- parts of an ordered window are ordered
pub ordered_front_of : (kind : Kind) (all : Pairs) (from mid to d : ℕ) → from ≤ mid → mid ≤ to → Ordered kind (cut all from to d) → Ordered kind (cut all from mid d)
ordered_front_of kind all from mid to d le most up = (ordered_parts kind (cut all from mid d) (cut all mid to d) (subst (Ordered kind) (cut_append all from mid to d le most) up)).0

pub ordered_rest : (kind : Kind) (all : Pairs) (from mid to d : ℕ) → from ≤ mid → mid ≤ to → Ordered kind (cut all from to d) → Ordered kind (cut all mid to d)
ordered_rest kind all from mid to d le most up = (ordered_parts kind (cut all from mid d) (cut all mid to d) (subst (Ordered kind) (cut_append all from mid to d le most) up)).1

-- a byte that stands in front of all items of a window is the byte of each
front_byte : (n : ℕ) (all : Pairs) (from to d b : ℕ) → from + n < to → to ≤ length all → cut all from to d ≡ with_front b (cut all from to (d + 1)) → byte_of all (from + n) d ≡ Some b
front_byte zero all from to d b h within is =
    let z : from ≡ from + 0 = omega arith in
    let both = sym (cut_first all from to d (omega arith) within) ∙ is ∙ ap (with_front b) (cut_first all from to (d + 1) (omega arith) within) in
    subst (λ i. byte_of all i d ≡ Some b) z (byte_here d (item_no all from).0 b (drop (d + 1) (item_no all from).0) (ap head_key both))
front_byte (suc n) all from to d b h within is =
    let s : from + 1 + n ≡ from + suc n = omega arith in
    let both = sym (cut_first all from to d (omega arith) within) ∙ is ∙ ap (with_front b) (cut_first all from to (d + 1) (omega arith) within) in
    subst (λ i. byte_of all i d ≡ Some b) s (front_byte n all (from + 1) to d b (omega arith) within (ap tail_of both))

-- no key follows one that has ended
past_end : (kind : Kind) (all : Pairs) (w : Window) (place : ℕ) → w.from < place → place < w.to → w.to ≤ length all → Ordered kind (window all w) → length (item_no all place).0 ≤ w.depth → ⊥
past_end kind all w place after below within up short =
    let n = place - 1 - w.from in
    let s : w.from + suc n ≡ place = omega arith in
    let before = follows_cut n kind all w.from w.to w.depth (omega arith) within up in
    let here = subst (λ i. Before kind (drop w.depth (item_no all (w.from + n)).0) (drop w.depth (item_no all i).0)) s before in
    subst (Before kind (drop w.depth (item_no all (w.from + n)).0)) (drop_all w.depth (item_no all place).0 short) here

-- what stands between the first item and another with its byte has the byte too
pub same_between : (kind : Kind) (all : Pairs) (w : Window) (place : ℕ) → w.from < place → place < w.to → w.to ≤ length all → Ordered kind (window all w) → byte_of all place w.depth ≡ byte_of all w.from w.depth
    → (i : ℕ) → w.from ≤ i → i ≤ place → byte_of all i w.depth ≡ byte_of all w.from w.depth
same_between kind all w place after below within up same i from most = elim (slice_get_cases (item_no all place).0 w.depth).1 [
  | inl here ↦
      let d = w.depth in
      let b = here.0 in
      let is : byte_of all place d ≡ Some b = here.2 in
      let e : place + 1 - 1 ≡ place = omega arith in
      let last = ap (λ j. drop d (item_no all j).0) e ∙ key_cut (item_no all place).0 d b is in
      let first = key_cut (item_no all w.from).0 d b (sym same ∙ is) in
      let front = cut_shared kind all w.from (place + 1) d b _ _ (omega arith) (omega arith) (ordered_front_of kind all w.from (place + 1) w.to d (omega arith) (omega arith) up) first last in
      let a : w.from + (i - w.from) ≡ i = omega arith in
      subst (λ j. byte_of all j d ≡ Some b) a (front_byte (i - w.from) all w.from (place + 1) d b (omega arith) (omega arith) front) ∙ sym is ∙ same
  | inr past ↦ absurd (past_end kind all w place after below within up past.0)
]
