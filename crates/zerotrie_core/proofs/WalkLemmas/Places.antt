-- Each node of a walk lies at its place in the bytes.
use Rattle.std.proofs.Common.{◌≡◌, ℕ, zero, suc, ◌+◌, ◌-◌, ◌*◌, ◌<◌, ◌≤◌, List, [], ◌∷◌, length, refl, sym, ◌∙◌, ap, subst, arith, Option, Some, None, true, get_or, take, drop, inl, inr}
use Rattle.std.specs.Prelude.{All}
use Rattle.std.proofs.lemmas.List.{length-drop, length-take-le, drop-drop, take_all, get_or-take, get_or-drop, get_or_past}
use Rattle.std.proofs.lemmas.List.Elements.{All-nil, All-cons, All-head, All-tail, All-append}
use Rattle.std.proofs.lemmas.Bool.{cases_lt}
use Rattle.zerotrie_base.specs.Kind.{Kind}
use Rattle.zerotrie_base.specs.Nodes.{Shape, Begins, targets_behind, begin_of, end_of}
use Rattle.zerotrie_base.specs.Nodes as shapes
use Rattle.zerotrie_core.specs.listing.Listed.{node_of, is_in_order, target_of}
use Rattle.zerotrie_core.specs.listing.Runs.{EndsWith}
use Rattle.zerotrie_core.specs.walk.Visits.{Part, Visit, visits, visits_to, nodes_of, whole, of_first, of_parts, parts_behind, after_node, target_parts, target_part}
use Rattle.zerotrie_core.specs.walk.Seen.{LiesIn}
use Rattle.zerotrie_base.proofs.NumberLemmas.Numbers.{IsBytes}
use Rattle.zerotrie_core.proofs.NodeLemmas.Read.{InSome, node_found, by_test}
use Rattle.zerotrie_core.proofs.ListingLemmas.Nodes.{order_is}
use Rattle.zerotrie_core.proofs.ListingLemmas.Left.{value_end, span_end, branch_end, ends_drop, ends_len, lies_behind, lies_part}

-- A part stands at its place in the bytes.
record IsPartOf (all : List ℕ) (at : Part) : Type 0 where
  within : at.place + length at.bytes ≤ length all
  there : at.bytes ≡ take (length at.bytes) (drop at.place all)

part_bytes : (all : List ℕ) (at : Part) → IsBytes all → IsPartOf all at → IsBytes at.bytes
part_bytes all at bytes here i = elim (cases_lt i (length at.bytes)) [
  | inl inside ↦
      subst (λ b. b < 256)
      (sym (ap (λ xs. get_or xs i 0) here.there ∙ get_or-take (length at.bytes) (drop at.place all) i 0 inside ∙ get_or-drop at.place all i 0)) (bytes (at.place + i))
  | inr past ↦ subst (λ b. b < 256) (sym (get_or_past at.bytes i 0 past)) (omega arith)
]

-- what ends a part stands after it
after_there : (all : List ℕ) (at : Part) (rest : List ℕ) → IsPartOf all at → EndsWith at.bytes rest → IsPartOf all (after_node at rest)
after_there all at rest here ends =
    let len = ends_len at.bytes rest ends in
    let within = here.within in
    record {
      within = omega arith;
      there = lies_behind (drop at.place all) at.bytes rest here.there ends ∙ ap (take (length rest)) (drop-drop (length at.bytes - length rest) at.place all);
    }

-- a target stands among the targets
target_there : (all : List ℕ) (at : Part) (n w : ℕ) (behind : List ℕ) (i : ℕ) → IsPartOf all (after_node at (targets_behind n w behind)) → is_in_order n w behind i ≡ true → IsPartOf all (target_part at n w behind i)
target_there all at n w behind i here ordered =
    let bounds = order_is n w behind i ordered in
    let from = begin_of n w behind i in
    let to = end_of n w behind i in
    let targets = targets_behind n w behind in
    let low = bounds.0 in
    let high = bounds.1 in
    let past = length-drop from targets in
    let len : length (target_of n w behind i) ≡ to - from = length-take-le (to - from) (drop from targets) (omega arith) in
    let within = here.within in
    let base = at.place + (length at.bytes - length targets) in
    record {
      within = omega arith;
      there = lies_part (drop base all) targets (target_of n w behind i) from to here.there low high refl ∙ ap (take (length (target_of n w behind i))) (drop-drop from base all);
    }

targets_there : (all : List ℕ) (at : Part) (n w : ℕ) (behind : List ℕ) (k : ℕ) → IsPartOf all (after_node at (targets_behind n w behind)) → All (IsPartOf all) (target_parts at n w behind k)
targets_there all at n w behind zero here = All-nil (IsPartOf all)
targets_there all at n w behind (suc k) here =
    by_test (All (IsPartOf all)) (is_in_order n w behind (n - suc k)) (target_part at n w behind (n - suc k) ∷ target_parts at n w behind k) []
    (λ ordered. All-cons (IsPartOf all) (target_part at n w behind (n - suc k)) (target_parts at n w behind k) (target_there all at n w behind (n - suc k) here ordered) (targets_there all at n w behind k here))
    (λ _. All-nil (IsPartOf all))

one_there : (all : List ℕ) (at : Part) (rest : List ℕ) → IsPartOf all at → EndsWith at.bytes rest → All (IsPartOf all) (after_node at rest ∷ [])
one_there all at rest here ends = All-cons (IsPartOf all) (after_node at rest) [] (after_there all at rest here ends) (All-nil (IsPartOf all))

-- what follows a node stands after it
behind_there : (kind : Kind) (all : List ℕ) (at : Part) (s : Shape) → IsPartOf all at → Begins kind at.bytes s → All (IsPartOf all) (parts_behind at s)
behind_there kind all at (shapes.Shape.value v rest) here b = one_there all at rest here (value_end kind at.bytes rest v b)
behind_there kind all at (shapes.Shape.literal c rest) here b = one_there all at rest here (c ∷ [], b.1)
behind_there kind all at (shapes.Shape.span run rest) here b = one_there all at rest here (span_end kind at.bytes run rest b)
behind_there kind all at (shapes.Shape.branch n w table behind) here b =
    targets_there all at n w behind n (after_there all at (targets_behind n w behind) here
    (ends_drop at.bytes (drop n behind) (w * (n - 1)) (ends_drop at.bytes behind n (branch_end kind at.bytes n w table behind b))))

parts_lie : (kind : Kind) (all : List ℕ) (f : Part → List Visit) → ((p : Part) → IsPartOf all p → All (LiesIn kind all) (f p)) → (ps : List Part) → All (IsPartOf all) ps → All (LiesIn kind all) (of_parts f ps)
parts_lie kind all f each [] there = All-nil (LiesIn kind all)
parts_lie kind all f each (p ∷ ps) there =
    All-append (LiesIn kind all) (f p) (of_parts f ps) (each p (All-head (IsPartOf all) p ps there)) (parts_lie kind all f each ps (All-tail (IsPartOf all) p ps there))

first_lies : (kind : Kind) (all : List ℕ) (f : Part → List Visit) → ((p : Part) → IsPartOf all p → All (LiesIn kind all) (f p)) → (at : Part) → IsPartOf all at → (s : Option Shape) → InSome (Begins kind at.bytes) s
    → All (LiesIn kind all) (of_first f at s)
first_lies kind all f each at here None b = All-nil (LiesIn kind all)
first_lies kind all f each at here (Some s) b =
    All-cons (LiesIn kind all) (record { part = at; node = s }) (of_parts f (parts_behind at s)) (record { begins = b; within = here.within; there = here.there })
    (parts_lie kind all f each (parts_behind at s) (behind_there kind all at s here b))

lie_to : (d : ℕ) (kind : Kind) (all : List ℕ) → IsBytes all → (at : Part) → IsPartOf all at → All (LiesIn kind all) (visits_to d kind at)
lie_to zero kind all bytes at here = All-nil (LiesIn kind all)
lie_to (suc d) kind all bytes at here =
    first_lies kind all (visits_to d kind) (lie_to d kind all bytes) at here (node_of kind at.bytes) (node_found kind at.bytes (part_bytes all at bytes here))

-- the nodes of bytes lie in them
pub nodes_lie : (kind : Kind) (all : List ℕ) → IsBytes all → All (LiesIn kind all) (nodes_of kind all)
unfolding visits
nodes_lie kind all bytes = lie_to (length all) kind all bytes (whole all) (record { within = omega arith; there = sym (take_all (length all) all (omega arith)) })
