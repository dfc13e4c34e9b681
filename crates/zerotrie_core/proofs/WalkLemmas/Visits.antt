-- The nodes that are left of a walk, by the part that comes next.
use Rattle.std.proofs.Common.{◌≡◌, ℕ, zero, suc, ◌+◌, ◌-◌, ◌<◌, ◌≤◌, List, [], ◌∷◌, ◌++◌, length, map, reverse, refl, sym, ◌∙◌, ap, subst, arith, Option, Some, None, Bool, true, false, drop, take, append_assoc, length-append, inl, inr, ◌⊎◌}
use Rattle.std.specs.Prelude.{slice_index, if◌then◌else◌}
use Rattle.std.specs.Borrow.{Bor}
use Rattle.std.proofs.lemmas.List.{length-take, length-drop, length-take-le, reverse-append, reverse-reverse, map-append, length-map, take-map, drop-map, take_at, drop_at}
use Rattle.zerotrie_base.specs.Kind.{Kind}
use Rattle.zerotrie_base.specs.Nodes.{Shape, targets_behind, begin_of, end_of, IsTargetResult}
use Rattle.zerotrie_base.specs.Nodes as shapes
use Rattle.zerotrie_core.specs.listing.Listed.{node_of, is_in_order, target_of}
use Rattle.zerotrie_core.specs.walk.Visits.{Part, Visit, visits, visits_to, of_first, of_parts, parts_behind, after_node, target_parts, below_edge, target_part, targets_place}
use Rattle.zerotrie_core.specs.walk.Seen.{part_of, visits_left}
use Rattle.zerotrie_core.specs.declared.walk.part.Part as parts
use Rattle.zerotrie_core.proofs.NodeLemmas.Read.{InSome, Within, node_within, by_test}
use Rattle.zerotrie_core.proofs.ListingLemmas.Nodes.{order_is, is_order, next_begin}

length-target : (n w : ℕ) (behind : List ℕ) (i : ℕ) → length (target_of n w behind i) ≤ length (targets_behind n w behind)
length-target n w behind i =
    let all = targets_behind n w behind in
    let from = begin_of n w behind i in
    let a = length-take (end_of n w behind i - from) (drop from all) in
    let b = length-drop from all in
    omega arith

-- walks that agree on parts of fewer bytes
targets_agree : (f g : Part → List Visit) (at : Part) (n w : ℕ) (behind : List ℕ) (k m : ℕ) → length (targets_behind n w behind) < m → ((p : Part) → length p.bytes < m → f p ≡ g p)
    → of_parts f (target_parts at n w behind k) ≡ of_parts g (target_parts at n w behind k)
targets_agree f g at n w behind zero m h same = refl
targets_agree f g at n w behind (suc k) m h same =
    let t = target_part at n w behind (n - suc k) in
    let len = length-target n w behind (n - suc k) in
    by_order t (same t (omega arith)) (targets_agree f g at n w behind k m h same) (is_in_order n w behind (n - suc k))
  where
    by_order : (t : Part) → f t ≡ g t → of_parts f (target_parts at n w behind k) ≡ of_parts g (target_parts at n w behind k)
        → (b : Bool) → of_parts f (if b then t ∷ target_parts at n w behind k else []) ≡ of_parts g (if b then t ∷ target_parts at n w behind k else [])
    by_order t one more false = refl
    by_order t one more true = ap (λ vs. vs ++ of_parts f (target_parts at n w behind k)) one ∙ ap (λ vs. g t ++ vs) more

one_agrees : (f g : Part → List Visit) (at : Part) (m : ℕ) (rest : List ℕ) → length rest < m → ((p : Part) → length p.bytes < m → f p ≡ g p) → (v : Visit) → v ∷ of_parts f (after_node at rest ∷ []) ≡ v ∷ of_parts g (after_node at rest ∷ [])
one_agrees f g at m rest h same v = ap (λ vs. v ∷ (vs ++ [])) (same (after_node at rest) h)

first_agree : (f g : Part → List Visit) (at : Part) (m : ℕ) (s : Option Shape) → InSome (Within m) s → ((p : Part) → length p.bytes < m → f p ≡ g p) → of_first f at s ≡ of_first g at s
first_agree f g at m None h same = refl
first_agree f g at m (Some (shapes.Shape.value v rest)) h same = one_agrees f g at m rest h same (record { part = at; node = shapes.Shape.value v rest })
first_agree f g at m (Some (shapes.Shape.literal b rest)) h same = one_agrees f g at m rest h same (record { part = at; node = shapes.Shape.literal b rest })
first_agree f g at m (Some (shapes.Shape.span run rest)) h same = one_agrees f g at m rest h same (record { part = at; node = shapes.Shape.span run rest })
first_agree f g at m (Some (shapes.Shape.branch n w table behind)) h same =
    let v : Visit = record { part = at; node = shapes.Shape.branch n w table behind } in
    ap (λ vs. v ∷ vs) (targets_agree f g at n w behind n m (omega arith) same)

no_bytes : (bytes : List ℕ) → length bytes ≤ 0 → bytes ≡ []
no_bytes [] h = refl
no_bytes (b ∷ bytes) h = absurd (omega arith)

-- if there are no bytes, there is no node
nothing_first : (f : Part → List Visit) (kind : Kind) (at : Part) → length at.bytes ≤ 0 → of_first f at (node_of kind at.bytes) ≡ []
nothing_first f kind at h = ap (λ bytes. of_first f at (node_of kind bytes)) (no_bytes at.bytes h)

enough : (d e : ℕ) (kind : Kind) (at : Part) → length at.bytes ≤ d → length at.bytes ≤ e → visits_to d kind at ≡ visits_to e kind at
enough zero zero kind at h g = refl
enough zero (suc e) kind at h g = sym (nothing_first (visits_to e kind) kind at h)
enough (suc d) zero kind at h g = nothing_first (visits_to d kind) kind at g
enough (suc d) (suc e) kind at h g =
    first_agree (visits_to d kind) (visits_to e kind) at (length at.bytes) (node_of kind at.bytes) (node_within kind at.bytes) (λ p l. enough d e kind p (omega arith) (omega arith))

-- by the first node, and what follows it
pub visits_node : (kind : Kind) (at : Part) → visits kind at ≡ of_first (visits kind) at (node_of kind at.bytes)
unfolding visits
visits_node kind at =
    enough (length at.bytes) (suc (length at.bytes)) kind at (omega arith) (omega arith)
    ∙ first_agree (visits_to (length at.bytes) kind) (λ p. visits_to (length p.bytes) kind p) at (length at.bytes) (node_of kind at.bytes) (node_within kind at.bytes)
    (λ p l. enough (length at.bytes) (length p.bytes) kind p (omega arith) (omega arith))

pub of_parts-append : (f : Part → List Visit) (xs ys : List Part) → of_parts f (xs ++ ys) ≡ of_parts f xs ++ of_parts f ys
of_parts-append f [] ys = refl
of_parts-append f (p ∷ xs) ys = ap (λ vs. f p ++ vs) (of_parts-append f xs ys) ∙ sym (append_assoc (f p) (of_parts f xs) (of_parts f ys))

-- the last of the parts comes first
pub left_last : (kind : Kind) (stack rest : List parts.Part) (p : parts.Part) → stack ≡ rest ++ p ∷ [] → visits_left kind stack ≡ visits kind (part_of p) ++ visits_left kind rest
left_last kind stack rest p is = ap (visits_left kind) is ∙ ap (λ ps. of_parts (visits kind) (map part_of ps)) (reverse-append rest (p ∷ []))

-- a part in which no node begins has none
pub left_none : (kind : Kind) (stack rest : List parts.Part) (p : parts.Part) → stack ≡ rest ++ p ∷ [] → node_of kind p.bytes.now ≡ None → visits_left kind stack ≡ visits_left kind rest
left_none kind stack rest p is none =
    left_last kind stack rest p is
    ∙ ap (λ vs. vs ++ visits_left kind rest) (visits_node kind (part_of p) ∙ ap (of_first (visits kind) (part_of p)) none)

-- a node, and then what follows it
pub left_node : (kind : Kind) (stack rest more : List parts.Part) (p : parts.Part) (s : Shape) → stack ≡ rest ++ p ∷ [] → node_of kind p.bytes.now ≡ Some s
    → map part_of (reverse more) ≡ parts_behind (part_of p) s ++ map part_of (reverse rest) → visits_left kind stack ≡ record { part = part_of p; node = s } ∷ visits_left kind more
left_node kind stack rest more p s is some pushed =
    left_last kind stack rest p is
    ∙ ap (λ vs. vs ++ visits_left kind rest) (visits_node kind (part_of p) ∙ ap (of_first (visits kind) (part_of p)) some)
    ∙ ap (λ vs. record { part = part_of p; node = s } ∷ vs) (sym (of_parts-append (visits kind) (parts_behind (part_of p) s) (map part_of (reverse rest))) ∙ ap (of_parts (visits kind)) (sym pushed))

map-reverse : {A B : Type 0} (f : A → B) (xs : List A) → map f (reverse xs) ≡ reverse (map f xs)
map-reverse f [] = refl
map-reverse f (x ∷ xs) = ap (map f) (reverse-append (x ∷ []) xs) ∙ map-append f (reverse xs) (x ∷ []) ∙ ap (λ ys. ys ++ f x ∷ []) (map-reverse f xs) ∙ sym (reverse-append (f x ∷ []) (map f xs))

-- what was added, turned round, comes first
pub turned : {A B : Type 0} (f : A → B) (old new turn : List A) (more : List B) (len : ℕ) → map f new ≡ map f old ++ more → len ≡ length old → turn ≡ take len new ++ reverse (drop len new)
    → map f (reverse turn) ≡ more ++ map f (reverse old)
turned f old new turn more len added is turns =
    let mapped : len ≡ length (map f old) = is ∙ sym (length-map old f) in
    let last : map f (drop len new) ≡ more = sym (drop-map f len new) ∙ ap (drop len) added ∙ drop_at (map f old) more len (sym mapped) in
    let front : map f (take len new) ≡ map f old = sym (take-map f len new) ∙ ap (take len) added ∙ take_at (map f old) more len (sym mapped) in
    ap (λ t. map f (reverse t)) turns
    ∙ ap (map f) (reverse-append (take len new) (reverse (drop len new)) ∙ ap (λ x. x ++ reverse (take len new)) (reverse-reverse (drop len new)))
    ∙ map-append f (drop len new) (reverse (take len new))
    ∙ ap (λ x. x ++ map f (reverse (take len new))) last
    ∙ ap (λ x. more ++ x) (map-reverse f (take len new) ∙ ap reverse front ∙ sym (map-reverse f old))

-- what a node has after it is no longer than its bytes
pub behind_within : (kind : Kind) (bytes : List ℕ) (s : Shape) → node_of kind bytes ≡ Some s → Within (length bytes) s
behind_within kind bytes s e = subst (InSome (Within (length bytes))) e (node_within kind bytes)

one_more : (n i : ℕ) → i < n → n - i ≡ suc (n - (i + 1))
one_more n i h = omega arith

back_at : (n i : ℕ) → i < n → n - suc (n - (i + 1)) ≡ i
back_at n i h = omega arith

-- the targets from number i on
pub parts_at : (at : Part) (n w : ℕ) (behind : List ℕ) (i : ℕ) → i < n
    → target_parts at n w behind (n - i) ≡ (if is_in_order n w behind i then target_part at n w behind i ∷ target_parts at n w behind (n - (i + 1)) else [])
parts_at at n w behind i h =
    ap (target_parts at n w behind) (one_more n i h)
    ∙ ap (λ j. if is_in_order n w behind j then target_part at n w behind j ∷ target_parts at n w behind (n - (i + 1)) else []) (back_at n i h)

not_true : (b : Bool) → (b ≡ true → ⊥) → b ≡ false
not_true true h = absurd (h refl)
not_true false h = refl

fallen : (from to len : ℕ) → (to < from) ⊎ (len < to) → from ≤ to → to ≤ len → ⊥
fallen from to len (inl h) low high = omega arith
fallen from to len (inr h) low high = omega arith

-- if the offsets of a target fall, there is no more
pub parts_fall : (at : Part) (n w : ℕ) (behind : List ℕ) (i : ℕ) → i < n → IsTargetResult n w behind i None → target_parts at n w behind (n - i) ≡ []
parts_fall at n w behind i h g =
    let out : is_in_order n w behind i ≡ false = not_true (is_in_order n w behind i) (λ e. let bounds = order_is n w behind i e in fallen _ _ _ g.0 bounds.0 bounds.1) in
    parts_at at n w behind i h ∙ rw out refl

-- A target that was read: where it ends, and that it is the next part.
pub record TargetRead (at : Part) (n w : ℕ) (behind : List ℕ) (i : ℕ) (t : List ℕ) : Type 0 where
  pub ends : begin_of n w behind i + length t ≡ end_of n w behind i
  pub within : begin_of n w behind i + length t ≤ length (targets_behind n w behind)
  pub is : t ≡ target_of n w behind i
  pub first : target_parts at n w behind (n - i) ≡ target_part at n w behind i ∷ target_parts at n w behind (n - (i + 1))

pub target_read : (at : Part) (n w : ℕ) (behind : List ℕ) (i : ℕ) (t : Bor (List ℕ)) → i < n → IsTargetResult n w behind i (Some t) → TargetRead at n w behind i t.now
target_read at n w behind i t h g =
    let from = begin_of n w behind i in
    let to = end_of n w behind i in
    let targets = targets_behind n w behind in
    let low = g.0.0 in
    let high = g.0.1 in
    let past = length-drop from targets in
    let len : length t.now ≡ to - from = ap length g.0.2 ∙ length-take-le (to - from) (drop from targets) (omega arith) in
    record {
      ends = omega arith;
      within = omega arith;
      is = g.0.2;
      first = parts_at at n w behind i h ∙ rw (is_order n w behind i low high) refl;
    }

-- and the part after it begins there
pub next_target : (n w : ℕ) (behind : List ℕ) (i j begin len : ℕ) → j ≡ i + 1 → j < n → begin ≡ begin_of n w behind i → begin_of n w behind i + len ≡ end_of n w behind i → begin + len ≡ begin_of n w behind j
next_target n w behind i j begin len next h is ends =
    let sum : begin + len ≡ begin_of n w behind i + len = ap (λ b. b + len) is in
    sum ∙ ends ∙ sym (next_begin n w behind i (omega arith)) ∙ ap (begin_of n w behind) (suc_is i j next)
  where
    suc_is : (i j : ℕ) → j ≡ i + 1 → suc i ≡ j
    suc_is i j next = omega arith

-- a part was added, and comes in front of those that are still to be added
pub part_added : {B : Type 0} (old new first more all : List B) (p : B) → first ≡ p ∷ more → new ≡ old ++ p ∷ [] → old ++ first ≡ all → new ++ more ≡ all
part_added old new first more all p is added same =
    ap (λ x. x ++ more) added ∙ append_assoc old (p ∷ []) more ∙ ap (λ x. old ++ x) (sym is) ∙ same

-- a target, by its place, its edge and its bytes
pub part_is : (at : Part) (n w : ℕ) (behind : List ℕ) (i place edge : ℕ) (bytes : List ℕ) → place ≡ targets_place at n w behind + begin_of n w behind i → edge ≡ slice_index behind i → bytes ≡ target_of n w behind i
    → below_edge at place edge bytes ≡ target_part at n w behind i
part_is at n w behind i place edge bytes p e b =
    ap (λ x. below_edge at x edge bytes) p ∙ ap (λ x. below_edge at (targets_place at n w behind + begin_of n w behind i) x bytes) e
    ∙ ap (λ x. below_edge at (targets_place at n w behind + begin_of n w behind i) (slice_index behind i) x) b

-- Of n bytes at most n nodes.
module _ (f : Part → List Visit) (most : (p : Part) → length (f p) ≤ length p.bytes) (at : Part) (n w : ℕ) (behind : List ℕ) where
  abbrev nodes_from : ℕ → ℕ
  nodes_from k = length (of_parts f (target_parts at n w behind k))

  -- after target number n - suc k the next one begins, if there is one
  later_most : (k : ℕ) → suc k ≤ n → nodes_from k ≤ length (targets_behind n w behind) - begin_of n w behind (n - k) → nodes_from k ≤ length (targets_behind n w behind) - end_of n w behind (n - suc k)
  later_most zero h more = omega arith
  later_most (suc k) h more =
      let i = n - suc (suc k) in
      let same : n - suc k ≡ suc i = omega arith in
      let next = next_begin n w behind i (omega arith) in
      subst (λ x. length (of_parts f (target_parts at n w behind (suc k))) ≤ length (targets_behind n w behind) - x) (ap (begin_of n w behind) same ∙ next) more

  targets_most : (k : ℕ) → k ≤ n → nodes_from k ≤ length (targets_behind n w behind) - begin_of n w behind (n - k)
  targets_most zero h = omega arith
  targets_most (suc k) h =
      let i = n - suc k in
      let all = length (targets_behind n w behind) in
      let t = target_part at n w behind i in
      let more = later_most k h (targets_most k (omega arith)) in
      by_test (λ ps. length (of_parts f ps) ≤ all - begin_of n w behind i) (is_in_order n w behind i) (t ∷ target_parts at n w behind k) []
      (λ ordered.
      let bounds = order_is n w behind i ordered in
      let len = length-append (f t) (of_parts f (target_parts at n w behind k)) in
      let own = most t in
      let a = length-take (end_of n w behind i - begin_of n w behind i) (drop (begin_of n w behind i) (targets_behind n w behind)) in
      omega arith)
      (λ _. omega arith)

first_most : (f : Part → List Visit) → ((p : Part) → length (f p) ≤ length p.bytes) → (at : Part) (m : ℕ) (s : Option Shape) → InSome (Within m) s → length (of_first f at s) ≤ m
first_most f most at m None h = omega arith
first_most f most at m (Some (shapes.Shape.value v rest)) h = let l = most (after_node at rest) in let len = length-append (f (after_node at rest)) [] in omega arith
first_most f most at m (Some (shapes.Shape.literal b rest)) h = let l = most (after_node at rest) in let len = length-append (f (after_node at rest)) [] in omega arith
first_most f most at m (Some (shapes.Shape.span run rest)) h = let l = most (after_node at rest) in let len = length-append (f (after_node at rest)) [] in omega arith
first_most f most at m (Some (shapes.Shape.branch n w table behind)) h = let l = targets_most f most at n w behind n (omega arith) in omega arith

most_to : (d : ℕ) (kind : Kind) (at : Part) → length (visits_to d kind at) ≤ length at.bytes
most_to zero kind at = omega arith
most_to (suc d) kind at = first_most (visits_to d kind) (most_to d kind) at (length at.bytes) (node_of kind at.bytes) (node_within kind at.bytes)

pub visits_most : (kind : Kind) (at : Part) → length (visits kind at) ≤ length at.bytes
unfolding visits
visits_most kind at = most_to (length at.bytes) kind at
