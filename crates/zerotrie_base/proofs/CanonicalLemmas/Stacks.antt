-- The stack need of pairs, by their edges in the order of the kind.
use Rattle.std.proofs.Common.{◌≡◌, ℕ, zero, suc, ◌+◌, ◌<◌, ◌≤◌, List, [], ◌∷◌, length, refl, sym, ◌∙◌, ap, subst, arith, inl, inr, Bool, true, false, cond, ltb, eqb}
use Rattle.std.specs.Prelude.{max}
use Rattle.std.proofs.lemmas.Bool.{lt-ltb, le-ltb, eqb-true, or_cases, cond_both, cases_lt}
use Rattle.std.proofs.lemmas.Bool.Decides.{eqb_tells}
use Rattle.zerotrie_base.specs.Kind.{Kind, simple_ascii, ignore_case, perfect_hash, extended_capacity, fold_byte, ordered, sorted_by, put_by}
use Rattle.zerotrie_base.specs.Maps.{Pairs, with_front, edges, residual, longest}
use Rattle.zerotrie_base.specs.Stack.{branch_need, need_by, stack_to, stack_of}
use Rattle.zerotrie_base.proofs.NodeLemmas.Tables.{Each, Each-more, Rises}
use Rattle.zerotrie_base.proofs.MapLemmas.Alike.{Same, same-edges, same-longest, same-residual}
use Rattle.zerotrie_base.proofs.MapLemmas.Edges.{member, member_head, member_later, member_other, edges_value, residual-front}
use Rattle.zerotrie_base.proofs.MapLemmas.Ordered.{edges_rise, Each-put_by, length-ordered, member-ordered, rise_rises}
use Rattle.zerotrie_base.proofs.CanonicalLemmas.Canonical.{Shorter, shorter_none, no_edge_ordered, ordered_front}
use Rattle.zerotrie_base.proofs.CanonicalLemmas.Sizes.{longest_shorter, Shorter-residual}

-- the need of a branch goes by what is after its edges
pub branch_agree : (f g : Pairs → ℕ) (p q : Pairs) (es : List ℕ) → ((b : ℕ) → member b es ≡ true → f (residual b p) ≡ g (residual b q)) → branch_need f p es ≡ branch_need g q es
branch_agree f g p q [] same = refl
branch_agree f g p q (b ∷ es) same =
    ap (λ x. max (1 + length es) (max (length es + x) (branch_need f p es))) (same b (member_head b es))
    ∙ ap (λ y. max (1 + length es) (max (length es + g (residual b q)) y)) (branch_agree f g p q es (λ c h. same c (member_later c b es h)))

need_agree : (f g : Pairs → ℕ) (p q : Pairs) (es : List ℕ) → ((b : ℕ) → f (residual b p) ≡ g (residual b q)) → need_by f p es ≡ need_by g q es
need_agree f g p q [] same = refl
need_agree f g p q (b ∷ []) same = same b
need_agree f g p q (b ∷ c ∷ more) same = branch_agree f g p q (b ∷ c ∷ more) (λ e h. same e)

stack_to_none : (d : ℕ) (kind : Kind) → stack_to d kind [] ≡ 0
stack_to_none zero kind = refl
stack_to_none (suc d) kind = ap (need_by (stack_to d kind) []) (no_edge_ordered kind)

-- the need does not depend on how much longer than the keys the bound is
stack_any : (d e : ℕ) (kind : Kind) (pairs : Pairs) → Shorter d pairs → Shorter e pairs → stack_to d kind pairs ≡ stack_to e kind pairs
stack_any zero e kind pairs s t = ap (stack_to zero kind) (shorter_none pairs s) ∙ sym (stack_to_none e kind) ∙ ap (stack_to e kind) (sym (shorter_none pairs s))
stack_any (suc d) zero kind pairs s t = ap (stack_to (suc d) kind) (shorter_none pairs t) ∙ stack_to_none (suc d) kind ∙ ap (stack_to zero kind) (sym (shorter_none pairs t))
stack_any (suc d) (suc e) kind pairs s t =
    need_agree (stack_to d kind) (stack_to e kind) pairs pairs (ordered kind (edges pairs))
    (λ b. stack_any d e kind (residual b pairs) (Shorter-residual d b pairs s) (Shorter-residual e b pairs t))

stack_of_to : (d : ℕ) (kind : Kind) (pairs : Pairs) → Shorter d pairs → stack_of kind pairs ≡ stack_to d kind pairs
unfolding stack_of
stack_of_to d kind pairs s = stack_any (suc (longest pairs)) d kind pairs (longest_shorter pairs (suc (longest pairs)) (omega arith)) s

-- by the edges
stack_by : (kind : Kind) (pairs : Pairs) → stack_of kind pairs ≡ need_by (stack_of kind) pairs (ordered kind (edges pairs))
stack_by kind pairs =
    let d = longest pairs in
    let short = longest_shorter pairs (suc d) (omega arith) in
    stack_of_to (suc d) kind pairs short
    ∙ need_agree (stack_to d kind) (stack_of kind) pairs pairs (ordered kind (edges pairs)) (λ b. sym (stack_of_to d kind (residual b pairs) (Shorter-residual d b pairs short)))

-- no pairs
pub stack_none : (kind : Kind) → stack_of kind [] ≡ 0
stack_none kind = stack_by kind [] ∙ ap (need_by (stack_of kind) []) (no_edge_ordered kind)

-- a value in front
pub stack_value : (kind : Kind) (v : ℕ) (pairs : Pairs) → stack_of kind (([], v) ∷ pairs) ≡ stack_of kind pairs
stack_value kind v pairs =
    stack_by kind (([], v) ∷ pairs)
    ∙ ap (λ es. need_by (stack_of kind) (([], v) ∷ pairs) (ordered kind es)) (edges_value v pairs)
    ∙ need_agree (stack_of kind) (stack_of kind) (([], v) ∷ pairs) pairs (ordered kind (edges pairs)) (λ b. refl)
    ∙ sym (stack_by kind pairs)

-- a literal in front
pub stack_literal : (kind : Kind) (b : ℕ) (pairs : Pairs) → b < 256 → (pairs ≡ [] → ⊥) → stack_of kind (with_front b pairs) ≡ stack_of kind pairs
stack_literal kind b pairs low some =
    stack_by kind (with_front b pairs) ∙ ap (need_by (stack_of kind) (with_front b pairs)) (ordered_front kind b pairs low some) ∙ ap (stack_of kind) (residual-front b pairs)

many : (f : Pairs → ℕ) (pairs : Pairs) (es : List ℕ) → 2 ≤ length es → need_by f pairs es ≡ branch_need f pairs es
many f pairs [] two = absurd (omega arith)
many f pairs (b ∷ []) two = absurd (omega arith)
many f pairs (b ∷ c ∷ more) two = refl

-- a branch
pub stack_branch : (kind : Kind) (pairs : Pairs) (es : List ℕ) → ordered kind (edges pairs) ≡ es → 2 ≤ length es → stack_of kind pairs ≡ branch_need (stack_of kind) pairs es
stack_branch kind pairs es is two = stack_by kind pairs ∙ ap (need_by (stack_of kind) pairs) is ∙ many (stack_of kind) pairs es two

-- pairs that answer alike have one need
same-stack : (d : ℕ) (kind : Kind) (p q : Pairs) → Same p q → stack_to d kind p ≡ stack_to d kind q
same-stack zero kind p q s = refl
same-stack (suc d) kind p q s =
    ap (λ es. need_by (stack_to d kind) p (ordered kind es)) (same-edges p q s)
    ∙ need_agree (stack_to d kind) (stack_to d kind) p q (ordered kind (edges q)) (λ b. same-stack d kind (residual b p) (residual b q) (same-residual b p q s))

pub same-stack_of : (kind : Kind) (p q : Pairs) → Same p q → stack_of kind p ≡ stack_of kind q
unfolding stack_of
same-stack_of kind p q s = ap (λ n. stack_to (suc n) kind p) (same-longest p q s) ∙ same-stack (suc (longest q)) kind p q s

-- how many of the edges are above b to the kind
abbrev pub above : Kind → ℕ → List ℕ → ℕ
above kind b [] = 0
above kind b (e ∷ es) = cond (ltb (fold_byte kind b) (fold_byte kind e)) (1 + above kind b es) (above kind b es)

above_most : (kind : Kind) (b : ℕ) (es : List ℕ) → above kind b es ≤ length es
above_most kind b [] = omega arith
above_most kind b (e ∷ es) =
    let rest = above_most kind b es in
    cond_both (ltb (fold_byte kind b) (fold_byte kind e)) (1 + above kind b es) (above kind b es) (λ n. n ≤ suc (length es)) (λ h. omega arith) (λ h. omega arith)

-- an edge that is not above b is not counted
above_other : (kind : Kind) (b e : ℕ) (es : List ℕ) → fold_byte kind e ≤ fold_byte kind b → above kind b (e ∷ es) ≡ above kind b es
above_other kind b e es low = rw (le-ltb (fold_byte kind b) (fold_byte kind e) low) refl

-- the order of the edges does not matter
swap_above : (kind : Kind) (b a c : ℕ) (es : List ℕ) → above kind b (c ∷ a ∷ es) ≡ above kind b (a ∷ c ∷ es)
swap_above kind b a c es = by (ltb (fold_byte kind b) (fold_byte kind a)) (ltb (fold_byte kind b) (fold_byte kind c)) (above kind b es)
  where
    by : (x y : Bool) (n : ℕ) → cond y (1 + cond x (1 + n) n) (cond x (1 + n) n) ≡ cond x (1 + cond y (1 + n) n) (cond y (1 + n) n)
    by true true n = refl
    by true false n = refl
    by false true n = refl
    by false false n = refl

above-put_by : (kind : Kind) (b a : ℕ) (es : List ℕ) → above kind b (put_by (fold_byte kind) a es) ≡ above kind b (a ∷ es)
above-put_by kind b a [] = refl
above-put_by kind b a (c ∷ es) =
    cond_both (ltb (fold_byte kind c) (fold_byte kind a)) (c ∷ put_by (fold_byte kind) a es) (a ∷ c ∷ es) (λ x. above kind b x ≡ above kind b (a ∷ c ∷ es))
    (λ h. ap (λ n. cond (ltb (fold_byte kind b) (fold_byte kind c)) (1 + n) n) (above-put_by kind b a es) ∙ swap_above kind b a c es)
    (λ h. refl)

above-sorted_by : (kind : Kind) (b : ℕ) (es : List ℕ) → above kind b (sorted_by (fold_byte kind) es) ≡ above kind b es
above-sorted_by kind b [] = refl
above-sorted_by kind b (e ∷ es) =
    above-put_by kind b e (sorted_by (fold_byte kind) es) ∙ ap (λ n. cond (ltb (fold_byte kind b) (fold_byte kind e)) (1 + n) n) (above-sorted_by kind b es)

above-ordered : (kind : Kind) (b : ℕ) (es : List ℕ) → above kind b (ordered kind es) ≡ above kind b es
above-ordered simple_ascii b es = refl
above-ordered ignore_case b es = above-sorted_by ignore_case b es
above-ordered perfect_hash b es = refl
above-ordered extended_capacity b es = refl

-- the folds of the edges do not fall
abbrev Climbs : Kind → List ℕ → Type 0
Climbs kind [] = Unit {0}
Climbs kind (e ∷ es) = Each (λ c. fold_byte kind e ≤ fold_byte kind c) es × Climbs kind es

climbs_put : (kind : Kind) (a : ℕ) (es : List ℕ) → Climbs kind es → Climbs kind (put_by (fold_byte kind) a es)
climbs_put kind a [] up = (tt, tt)
climbs_put kind a (c ∷ es) up = elim (cases_lt (fold_byte kind c) (fold_byte kind a)) [
  | inl less ↦
      rw (lt-ltb (fold_byte kind c) (fold_byte kind a) less)
      (Each-put_by (λ e. fold_byte kind c ≤ fold_byte kind e) (fold_byte kind) a es (omega arith) up.0, climbs_put kind a es up.1)
  | inr more ↦
      rw (le-ltb (fold_byte kind c) (fold_byte kind a) more)
      ((more, Each-more _ _ es (λ e h. omega arith) up.0), up)
]

climbs_sorted : (kind : Kind) (es : List ℕ) → Climbs kind (sorted_by (fold_byte kind) es)
climbs_sorted kind [] = tt
climbs_sorted kind (e ∷ es) = climbs_put kind e (sorted_by (fold_byte kind) es) (climbs_sorted kind es)

rises_climb : (kind : Kind) (es : List ℕ) → Rises kind es → Climbs kind es
rises_climb kind [] up = tt
rises_climb kind (e ∷ es) up = (Each-more _ _ es (λ c h. omega arith) up.0, rises_climb kind es up.1)

climbs_ordered : (kind : Kind) (pairs : Pairs) → Climbs kind (ordered kind (edges pairs))
climbs_ordered simple_ascii pairs = rises_climb simple_ascii (edges pairs) (rise_rises simple_ascii (λ b. refl) 0 256 (edges pairs) (edges_rise pairs))
climbs_ordered ignore_case pairs = climbs_sorted ignore_case (edges pairs)
climbs_ordered perfect_hash pairs = rises_climb perfect_hash (edges pairs) (rise_rises perfect_hash (λ b. refl) 0 256 (edges pairs) (edges_rise pairs))
climbs_ordered extended_capacity pairs = rises_climb extended_capacity (edges pairs) (rise_rises extended_capacity (λ b. refl) 0 256 (edges pairs) (edges_rise pairs))

each_at : (P : ℕ → Type 0) (b : ℕ) (es : List ℕ) → Each P es → member b es ≡ true → P b
each_at P b [] each m = absurd (cc)
each_at P b (e ∷ es) each m = elim (or_cases (eqb e b) (member b es) m) [
  | inl here ↦ subst P (eqb-true e b here) each.0
  | inr later ↦ each_at P b es each.1 later
]

-- what is needed after one edge while those above it wait
branch_member : (f : Pairs → ℕ) (kind : Kind) (pairs : Pairs) (b : ℕ) (es : List ℕ) → Climbs kind es → member b es ≡ true → above kind b es + f (residual b pairs) ≤ branch_need f pairs es
branch_member f kind pairs b [] up m = absurd (cc)
branch_member f kind pairs b (e ∷ es) up m = elim (eqb_tells e b) [
  | inl same ↦
      let s = ap (fold_byte kind) same.1 in
      let here = above_other kind b e es (omega arith) in
      let most = above_most kind b es in
      let same_need = ap (λ c. f (residual c pairs)) same.1 in
      omega arith
  | inr other ↦
      let later : member b es ≡ true = sym (member_other b e es other.1) ∙ m in
      let from = each_at (λ c. fold_byte kind e ≤ fold_byte kind c) b es up.0 later in
      let here = above_other kind b e es from in
      let rest = branch_member f kind pairs b es up.1 later in
      omega arith
]

pub branch_count : (f : Pairs → ℕ) (pairs : Pairs) (es : List ℕ) → length es ≤ branch_need f pairs es
branch_count f pairs [] = omega arith
branch_count f pairs (e ∷ es) = omega arith

by_edges : (kind : Kind) (pairs : Pairs) (b : ℕ) (es : List ℕ) → ordered kind (edges pairs) ≡ es → Climbs kind es → member b es ≡ true → above kind b es + stack_of kind (residual b pairs) ≤ stack_of kind pairs
by_edges kind pairs b [] is up m = absurd (cc)
by_edges kind pairs b (e ∷ []) is up m = elim (eqb_tells e b) [
  | inl same ↦
      let s = ap (fold_byte kind) same.1 in
      let here = above_other kind b e [] (omega arith) in
      let whole = stack_by kind pairs ∙ ap (need_by (stack_of kind) pairs) is ∙ ap (λ c. stack_of kind (residual c pairs)) same.1 in
      omega arith
  | inr other ↦ absurd (let none = sym (member_other b e [] other.1) ∙ m in cc)
]
by_edges kind pairs b (e ∷ c ∷ more) is up m =
    let whole = stack_branch kind pairs (e ∷ c ∷ more) is (omega arith) in
    let h = branch_member (stack_of kind) kind pairs b (e ∷ c ∷ more) up m in
    omega arith

-- While an edge is gone along, those above it wait.
pub stack_behind : (kind : Kind) (pairs : Pairs) (b : ℕ) → member b (edges pairs) ≡ true → above kind b (edges pairs) + stack_of kind (residual b pairs) ≤ stack_of kind pairs
stack_behind kind pairs b m =
    let count = above-ordered kind b (edges pairs) in
    let h = by_edges kind pairs b (ordered kind (edges pairs)) refl (climbs_ordered kind pairs) (member-ordered kind b (edges pairs) ∙ m) in
    omega arith

-- each of two edges or more waits in turn
pub stack_edges : (kind : Kind) (pairs : Pairs) → 2 ≤ length (edges pairs) → length (edges pairs) ≤ stack_of kind pairs
stack_edges kind pairs two =
    let same = length-ordered kind (edges pairs) in
    let whole = stack_branch kind pairs (ordered kind (edges pairs)) refl (omega arith) in
    let h = branch_count (stack_of kind) pairs (ordered kind (edges pairs)) in
    omega arith

-- what is above a higher edge is above b
above_less : (kind : Kind) (b c : ℕ) (es : List ℕ) → fold_byte kind b ≤ fold_byte kind c → above kind c es ≤ above kind b es
above_less kind b c [] h = omega arith
above_less kind b c (e ∷ es) h = elim (cases_lt (fold_byte kind c) (fold_byte kind e)) [
  | inl less ↦
      let rest = above_less kind b c es h in
      rw (lt-ltb (fold_byte kind c) (fold_byte kind e) less, lt-ltb (fold_byte kind b) (fold_byte kind e) (omega arith)) (omega arith)
  | inr more ↦
      let rest = above_less kind b c es h in
      let none = above_other kind c e es more in
      let some : above kind b es ≤ above kind b (e ∷ es) =
      cond_both (ltb (fold_byte kind b) (fold_byte kind e)) (1 + above kind b es) (above kind b es) (λ n. above kind b es ≤ n) (λ h. omega arith) (λ h. omega arith) in
      omega arith
]

-- an edge above b is counted
above_member : (kind : Kind) (b c : ℕ) (es : List ℕ) → fold_byte kind b < fold_byte kind c → member c es ≡ true → 1 + above kind c es ≤ above kind b es
above_member kind b c [] h m = absurd (cc)
above_member kind b c (e ∷ es) h m = elim (eqb_tells e c) [
  | inl same ↦
      let s = ap (fold_byte kind) same.1 in
      let none = above_other kind c e es (omega arith) in
      let rest = above_less kind b c es (omega arith) in
      rw (lt-ltb (fold_byte kind b) (fold_byte kind e) (omega arith)) (omega arith)
  | inr other ↦
      let later : member c es ≡ true = sym (member_other c e es other.1) ∙ m in
      let rest = above_member kind b c es h later in
      elim (cases_lt (fold_byte kind c) (fold_byte kind e)) [
        | inl less ↦ rw (lt-ltb (fold_byte kind c) (fold_byte kind e) less, lt-ltb (fold_byte kind b) (fold_byte kind e) (omega arith)) (omega arith)
        | inr more ↦
            let none = above_other kind c e es more in
            cond_both (ltb (fold_byte kind b) (fold_byte kind e)) (1 + above kind b es) (above kind b es) (λ n. 1 + above kind c (e ∷ es) ≤ n) (λ h. omega arith) (λ h. omega arith)
      ]
]

pub above_edge : (kind : Kind) (pairs : Pairs) (b c : ℕ) → fold_byte kind b < fold_byte kind c → member c (edges pairs) ≡ true → 1 + above kind c (edges pairs) ≤ above kind b (edges pairs)
above_edge kind pairs b c h m = above_member kind b c (edges pairs) h m

-- an edge is not above itself
above_within : (kind : Kind) (b : ℕ) (es : List ℕ) → member b es ≡ true → 1 + above kind b es ≤ length es
above_within kind b [] m = absurd (cc)
above_within kind b (e ∷ es) m = elim (eqb_tells e b) [
  | inl same ↦
      let s = ap (fold_byte kind) same.1 in
      let none = above_other kind b e es (omega arith) in
      let most = above_most kind b es in
      omega arith
  | inr other ↦
      let later : member b es ≡ true = sym (member_other b e es other.1) ∙ m in
      let rest = above_within kind b es later in
      cond_both (ltb (fold_byte kind b) (fold_byte kind e)) (1 + above kind b es) (above kind b es) (λ n. 1 + n ≤ suc (length es)) (λ h. omega arith) (λ h. omega arith)
]

pub above_edges : (kind : Kind) (pairs : Pairs) (b : ℕ) → member b (edges pairs) ≡ true → 1 + above kind b (edges pairs) ≤ length (edges pairs)
above_edges kind pairs b m = above_within kind b (edges pairs) m
