-- What is left of a listing, as it goes from node to node.
use Rattle.std.proofs.Common.{◌≡◌, ℕ, suc, ◌+◌, ◌-◌, ◌<◌, ◌≤◌, List, [], ◌∷◌, ◌++◌, length, refl, sym, ◌∙◌, ap, subst, arith, Option, Some, None, Bool, true, false, take, drop, inl, inr, ◌⊎◌, length-append, append_assoc}
use Rattle.std.specs.Prelude.{slice_index, nat_lt, if◌then◌else◌}
use Rattle.std.proofs.lemmas.Bool.{cases_lt, ltb-true, ltb-false}
use Rattle.std.specs.Borrow.{Bor}
use Rattle.std.proofs.lemmas.List.{append-nil, take-append-le, take-append-drop, take_all, length-take, length-take-le, length-drop, drop_at, drop-take, take-take, get_or-take}
use Rattle.std.proofs.Math.Seq.{take-append-add}
use Rattle.zerotrie_base.specs.Kind.{Kind}
use Rattle.zerotrie_base.specs.Maps.{Pairs, with_front, with_run}
use Rattle.zerotrie_base.specs.Nodes.{Shape, Begins, targets_behind, begin_of, end_of, IsTargetResult}
use Rattle.zerotrie_base.specs.Nodes as shapes
use Rattle.zerotrie_base.specs.Branches.{before_edges}
use Rattle.zerotrie_core.specs.listing.Listed.{listed, of_node, of_targets, node_of, is_in_order, target_of}
use Rattle.zerotrie_core.specs.listing.Opened.{pairs_behind, pairs_open, pairs_left, IsOpen, Nested, Stands, still_open, work_open, work_left}
use Rattle.zerotrie_core.specs.listing.Runs.{EndsWith, Moves, MovesLiterals, MovesAny}
use Rattle.zerotrie_core.specs.declared.stream.opened.OpenBranch.{OpenBranch}
use Rattle.zerotrie_core.proofs.ListingLemmas.Nodes.{listed_node, listed_read, listed_most, targets_most, length-run, order_is, is_order, next_begin}
use Rattle.zerotrie_core.proofs.NodeLemmas.Read.{InSome, Within, by_test, node_within, node_begun}

-- nothing is after a branch that has no edge left
pub none_behind : (kind : Kind) (o : OpenBranch) → o.edges ≤ o.next → pairs_behind kind o ≡ []
none_behind kind o h = let none : o.edges - o.next ≡ 0 = omega arith in rw none refl

-- runs in front, one after another
pub run_run : (front run : List ℕ) (pairs : Pairs) → with_run front (with_run run pairs) ≡ with_run (front ++ run) pairs
run_run front run [] = refl
run_run front run (e ∷ pairs) = ap (λ k. (k, e.1) ∷ with_run front (with_run run pairs)) (sym (append_assoc front run e.0)) ∙ ap (λ ps. ((front ++ run) ++ e.0, e.1) ∷ ps) (run_run front run pairs)

pub run_front : (front : List ℕ) (b : ℕ) (pairs : Pairs) → with_run front (with_front b pairs) ≡ with_run (front ++ b ∷ []) pairs
run_front front b pairs = ap (with_run front) (sym (one_byte b pairs)) ∙ run_run front (b ∷ []) pairs
  where
    one_byte : (b : ℕ) (pairs : Pairs) → with_run (b ∷ []) pairs ≡ with_front b pairs
    one_byte b [] = refl
    one_byte b (e ∷ pairs) = ap (λ ps. (b ∷ e.0, e.1) ∷ ps) (one_byte b pairs)

pub run_append : (front : List ℕ) (xs ys : Pairs) → with_run front (xs ++ ys) ≡ with_run front xs ++ with_run front ys
run_append front [] ys = refl
run_append front (e ∷ xs) ys = ap (λ ps. (front ++ e.0, e.1) ∷ ps) (run_append front xs ys)

-- the first of the open branches, if there is one, stands after a beginning of at most this many bytes
abbrev pub FirstLow : ℕ → List OpenBranch → Type 0
FirstLow depth [] = Unit {0}
FirstLow depth (o ∷ branches) = o.depth ≤ depth

pub first_low : (depth : ℕ) (branches : List OpenBranch) → Nested depth branches → FirstLow depth branches
first_low depth [] nested = tt
first_low depth (o ∷ branches) nested = nested.0.low

pub first_open : (depth : ℕ) (branches : List OpenBranch) → Stands depth branches → FirstLow depth branches
first_open depth [] stands = tt
first_open depth (o ∷ branches) stands = stands.0.low

first_longer : (d e : ℕ) (branches : List OpenBranch) → d ≤ e → FirstLow d branches → FirstLow e branches
first_longer d e [] h low = tt
first_longer d e (o ∷ branches) h low = omega arith

-- what stands after the beginnings that open branches stand after does not matter to them
pub open_longer : (kind : Kind) (prefix more : List ℕ) (branches : List OpenBranch) → FirstLow (length prefix) branches → pairs_open kind (prefix ++ more) branches ≡ pairs_open kind prefix branches
open_longer kind prefix more [] low = refl
open_longer kind prefix more (o ∷ branches) low = ap (λ front. with_run front (pairs_behind kind o) ++ pairs_open kind front branches) (take-append-le o.depth prefix more low)

pub open_shorter : (kind : Kind) (prefix : List ℕ) (d : ℕ) (branches : List OpenBranch) → d ≤ length prefix → FirstLow d branches → pairs_open kind (take d prefix) branches ≡ pairs_open kind prefix branches
open_shorter kind prefix d branches h low =
    let len : length (take d prefix) ≡ d = length-take-le d prefix h in
    sym (open_longer kind (take d prefix) (drop d prefix) branches (subst (λ n. FirstLow n branches) (sym len) low)) ∙ ap (λ xs. pairs_open kind xs branches) (take-append-drop d prefix)

pub at_value : (kind : Kind) (prefix bytes rest : List ℕ) (v : ℕ) (branches : List OpenBranch) → node_of kind bytes ≡ Some (shapes.Shape.value v rest)
    → pairs_left kind prefix bytes branches ≡ (prefix, v) ∷ pairs_left kind prefix rest branches
at_value kind prefix bytes rest v branches b =
    ap (λ ps. with_run prefix ps ++ pairs_open kind prefix branches) (listed_read kind bytes _ b)
    ∙ ap (λ k. (k, v) ∷ pairs_left kind prefix rest branches) (append-nil prefix)

-- a run goes into the prefix
at_run : (kind : Kind) (prefix run rest : List ℕ) (branches : List OpenBranch) → FirstLow (length prefix) branches
    → with_run prefix (with_run run (listed kind rest)) ++ pairs_open kind prefix branches ≡ pairs_left kind (prefix ++ run) rest branches
at_run kind prefix run rest branches low =
    ap (λ ps. ps ++ pairs_open kind prefix branches) (run_run prefix run (listed kind rest))
    ∙ ap (λ ps. with_run (prefix ++ run) (listed kind rest) ++ ps) (sym (open_longer kind prefix run branches low))

pub at_span : (kind : Kind) (prefix bytes run rest : List ℕ) (branches : List OpenBranch) → FirstLow (length prefix) branches → node_of kind bytes ≡ Some (shapes.Shape.span run rest)
    → pairs_left kind prefix bytes branches ≡ pairs_left kind (prefix ++ run) rest branches
at_span kind prefix bytes run rest branches low b =
    ap (λ ps. with_run prefix ps ++ pairs_open kind prefix branches) (listed_read kind bytes _ b) ∙ at_run kind prefix run rest branches low

pub at_literal : (kind : Kind) (prefix bytes rest : List ℕ) (c : ℕ) (branches : List OpenBranch) → FirstLow (length prefix) branches → node_of kind bytes ≡ Some (shapes.Shape.literal c rest)
    → pairs_left kind prefix bytes branches ≡ pairs_left kind (prefix ++ c ∷ []) rest branches
at_literal kind prefix bytes rest c branches low b =
    ap (λ ps. with_run prefix ps ++ pairs_open kind prefix branches) (listed_read kind bytes _ b)
    ∙ ap (λ ps. ps ++ pairs_open kind prefix branches) (run_front prefix c (listed kind rest))
    ∙ ap (λ ps. with_run (prefix ++ c ∷ []) (listed kind rest) ++ ps) (sym (open_longer kind prefix (c ∷ []) branches low))

literals_left : (kind : Kind) (prefix run rest : List ℕ) (branches : List OpenBranch) → FirstLow (length prefix) branches → ((k : ℕ) → k < length run → slice_index run k < 128)
    → pairs_left kind prefix (run ++ rest) branches ≡ pairs_left kind (prefix ++ run) rest branches
literals_left kind prefix [] rest branches low all = ap (λ p. pairs_left kind p rest branches) (sym (append-nil prefix))
literals_left kind prefix (b ∷ run) rest branches low all =
    let len = length-append prefix (b ∷ []) in
    at_literal kind prefix (b ∷ (run ++ rest)) (run ++ rest) b branches low (node_begun kind (b ∷ (run ++ rest)) (shapes.Shape.literal b (run ++ rest)) (all 0 (omega arith), refl))
    ∙ literals_left kind (prefix ++ b ∷ []) run rest branches (first_longer (length prefix) (length (prefix ++ b ∷ [])) branches (omega arith) low) (λ k h. all (suc k) (omega arith))
    ∙ ap (λ p. pairs_left kind p rest branches) (append_assoc prefix (b ∷ []) run)

-- literals go into the prefix
pub at_literals : (kind : Kind) (prefix rest prefix' rest' : List ℕ) (branches : List OpenBranch) → FirstLow (length prefix) branches → MovesLiterals rest prefix rest' prefix'
    → pairs_left kind prefix rest branches ≡ pairs_left kind prefix' rest' branches
at_literals kind prefix rest prefix' rest' branches low moves =
    ap (λ x. pairs_left kind prefix x branches) moves.rest_is
    ∙ literals_left kind prefix moves.run rest' branches low moves.literal
    ∙ ap (λ p. pairs_left kind p rest' branches) (sym moves.key_is)

pub literals_shorter : (prefix rest prefix' rest' : List ℕ) → MovesLiterals rest prefix rest' prefix' → (length rest' < length rest) × (length prefix ≤ length prefix')
literals_shorter prefix rest prefix' rest' moves =
    let a : length rest ≡ length moves.run + length rest' = ap length moves.rest_is ∙ length-append moves.run rest' in
    let b : length prefix' ≡ length prefix + length moves.run = ap length moves.key_is ∙ length-append prefix moves.run in
    let some = moves.some in
    (omega arith, omega arith)

pub at_end : (kind : Kind) (prefix bytes : List ℕ) (branches : List OpenBranch) → node_of kind bytes ≡ None → pairs_left kind prefix bytes branches ≡ pairs_open kind prefix branches
at_end kind prefix bytes branches e = ap (λ ps. with_run prefix ps ++ pairs_open kind prefix branches) (listed_node kind bytes ∙ ap (of_node (listed kind)) e)

pub at_nothing : (kind : Kind) (prefix : List ℕ) (branches : List OpenBranch) → pairs_left kind prefix [] branches ≡ pairs_open kind prefix branches
at_nothing kind prefix branches = at_end kind prefix [] branches refl

-- a branch that begins is opened
pub at_branch : (kind : Kind) (prefix bytes : List ℕ) (n w : ℕ) (table behind : List ℕ) (branches : List OpenBranch) (o : OpenBranch) → node_of kind bytes ≡ Some (shapes.Shape.branch n w table behind)
    → o.edges ≡ n → o.width ≡ w → o.behind.now ≡ behind → o.next ≡ 0 → o.depth ≡ length prefix
    → pairs_left kind prefix bytes branches ≡ pairs_left kind prefix [] (o ∷ branches)
at_branch kind prefix bytes n w table behind branches o b edges width same next depth =
    let own : pairs_behind kind o ≡ of_targets (listed kind) n w behind n = rw (edges, width, same, next) (ap (of_targets (listed kind) n w behind) (from_first n)) in
    let front : take o.depth prefix ≡ prefix = take_all o.depth prefix (omega arith) in
    ap (λ ps. with_run prefix ps ++ pairs_open kind prefix branches) (listed_read kind bytes _ b)
    ∙ ap (λ ps. with_run prefix ps ++ pairs_open kind prefix branches) (sym own)
    ∙ ap (λ front. with_run front (pairs_behind kind o) ++ pairs_open kind front branches) (sym front)
    ∙ sym (at_nothing kind prefix (o ∷ branches))
  where
    from_first : (n : ℕ) → n - 0 ≡ n
    from_first n = omega arith

-- what target number i, read, says of the pairs after its edge and later ones
abbrev pub TargetSays : Kind → OpenBranch → Option (Bor (List ℕ)) → Type 0
TargetSays kind o None = pairs_behind kind o ≡ []
TargetSays kind o (Some t) =
    pairs_behind kind o ≡ with_front (slice_index o.behind.now o.next) (listed kind t.now) ++ of_targets (listed kind) o.edges o.width o.behind.now (o.edges - suc o.next)

one_more : (n i : ℕ) → i < n → n - i ≡ suc (n - suc i)
one_more n i h = omega arith

back_at : (n i : ℕ) → i < n → n - suc (n - suc i) ≡ i
back_at n i h = omega arith

-- the pairs after the edges from number i on
pub opened : (f : List ℕ → Pairs) (n w : ℕ) (behind : List ℕ) (i : ℕ) → i < n
    → of_targets f n w behind (n - i) ≡ (if is_in_order n w behind i then with_front (slice_index behind i) (f (target_of n w behind i)) ++ of_targets f n w behind (n - suc i) else [])
opened f n w behind i h =
    ap (of_targets f n w behind) (one_more n i h)
    ∙ ap (λ j. if is_in_order n w behind j then with_front (slice_index behind j) (f (target_of n w behind j)) ++ of_targets f n w behind (n - suc i) else []) (back_at n i h)

not_true : (b : Bool) → (b ≡ true → ⊥) → b ≡ false
not_true true h = absurd (h refl)
not_true false h = refl

fallen : (from to len : ℕ) → (to < from) ⊎ (len < to) → from ≤ to → to ≤ len → ⊥
fallen from to len (inl h) low high = omega arith
fallen from to len (inr h) low high = omega arith

pub target_says : (kind : Kind) (o : OpenBranch) (r : Option (Bor (List ℕ))) → o.next < o.edges → IsTargetResult o.edges o.width o.behind.now o.next r → TargetSays kind o r
target_says kind o None h g =
    let out : is_in_order o.edges o.width o.behind.now o.next ≡ false =
    not_true (is_in_order o.edges o.width o.behind.now o.next) (λ e. let bounds = order_is o.edges o.width o.behind.now o.next e in fallen _ _ _ g.0 bounds.0 bounds.1) in
    opened (listed kind) o.edges o.width o.behind.now o.next h ∙ rw out refl
target_says kind o (Some t) h g =
    let ordered = is_order o.edges o.width o.behind.now o.next g.0.0 g.0.1 in
    opened (listed kind) o.edges o.width o.behind.now o.next h
    ∙ rw ordered (ap (λ x. with_front (slice_index o.behind.now o.next) (listed kind x) ++ of_targets (listed kind) o.edges o.width o.behind.now (o.edges - suc o.next)) (sym g.0.2))

-- If the offsets of the next target fall, nothing more of the branch is left.
module _ (prefix : List ℕ) (outer : List OpenBranch) (o p : OpenBranch) (depth : p.depth ≡ o.depth) (over : p.edges ≤ p.next) where
  length-take-most : (d : ℕ) (xs : List ℕ) → length (take d xs) ≤ d
  length-take-most d xs = let n = length-take d xs in omega arith

  pub after_fall : (kind : Kind) → pairs_behind kind o ≡ [] → pairs_left kind (take o.depth prefix) [] (p ∷ outer) ≡ pairs_open kind prefix (o ∷ outer)
  after_fall kind none =
      let front = take o.depth prefix in
      let same : take p.depth front ≡ front = ap (λ d. take d front) depth ∙ take_all o.depth front (length-take-most o.depth prefix) in
      at_nothing kind front (p ∷ outer)
      ∙ ap (λ fs. with_run fs (pairs_behind kind p) ++ pairs_open kind fs outer) same
      ∙ ap (λ ps. with_run front ps ++ pairs_open kind front outer) (none_behind kind p over ∙ sym none)

-- Into the next target, whose edge goes after the front of the branch.
module _ (kind : Kind) (prefix : List ℕ) (outer : List OpenBranch) (o : OpenBranch) (target : List ℕ) (low : o.depth ≤ length prefix)
    (says : pairs_behind kind o ≡ with_front (slice_index o.behind.now o.next) (listed kind target) ++ of_targets (listed kind) o.edges o.width o.behind.now (o.edges - suc o.next)) where
  abbrev front : List ℕ
  front = take o.depth prefix

  abbrev edge : ℕ
  edge = slice_index o.behind.now o.next

  abbrev later : Pairs
  later = of_targets (listed kind) o.edges o.width o.behind.now (o.edges - suc o.next)

  front_len : length front ≡ o.depth
  front_len = length-take-le o.depth prefix low

  -- what was left, with the target in front
  split : pairs_open kind prefix (o ∷ outer) ≡ with_run (front ++ edge ∷ []) (listed kind target) ++ (with_run front later ++ pairs_open kind front outer)
  split =
      ap (λ ps. with_run front ps ++ pairs_open kind front outer) says
      ∙ ap (λ ps. ps ++ pairs_open kind front outer) (run_append front (with_front edge (listed kind target)) later ∙ ap (λ ps. ps ++ with_run front later) (run_front front edge (listed kind target)))
      ∙ append_assoc (with_run (front ++ edge ∷ []) (listed kind target)) (with_run front later) (pairs_open kind front outer)

  -- the branch stays open at the edge after it
  pub at_next : (p : OpenBranch) → p.edges ≡ o.edges → p.width ≡ o.width → p.behind.now ≡ o.behind.now → p.next ≡ suc o.next → p.depth ≡ o.depth
      → pairs_left kind (front ++ edge ∷ []) target (p ∷ outer) ≡ pairs_open kind prefix (o ∷ outer)
  at_next p edges width behind next depth =
      let own : pairs_behind kind p ≡ later = rw (edges, width, behind, next) refl in
      let same : take p.depth (front ++ edge ∷ []) ≡ front =
      ap (λ d. take d (front ++ edge ∷ [])) (depth ∙ sym front_len) ∙ take-append-le (length front) front (edge ∷ []) (omega arith) ∙ take_all (length front) front (omega arith) in
      sym (split
      ∙ ap (λ ps. with_run (front ++ edge ∷ []) (listed kind target) ++ (with_run front ps ++ pairs_open kind front outer)) (sym own)
      ∙ ap (λ fs. with_run (front ++ edge ∷ []) (listed kind target) ++ (with_run fs (pairs_behind kind p) ++ pairs_open kind fs outer)) (sym same))

-- where a target that was read ends
pub target_ends : (o : OpenBranch) (t : Bor (List ℕ)) → o.begin ≡ begin_of o.edges o.width o.behind.now o.next → IsTargetResult o.edges o.width o.behind.now o.next (Some t)
    → (o.begin + length t.now ≡ end_of o.edges o.width o.behind.now o.next) × (o.begin + length t.now ≤ length (targets_behind o.edges o.width o.behind.now))
target_ends o t begin g =
    let targets = targets_behind o.edges o.width o.behind.now in
    let from = begin_of o.edges o.width o.behind.now o.next in
    let to = end_of o.edges o.width o.behind.now o.next in
    let low = g.0.0 in
    let high = g.0.1 in
    let behind = length-drop from targets in
    let len : length t.now ≡ to - from = ap length g.0.2 ∙ length-take-le (to - from) (drop from targets) (omega arith) in
    (omega arith, omega arith)

-- a branch whose next target was gone into
pub entered : (prefix : List ℕ) (outer : List OpenBranch) (o p : OpenBranch) (t : Bor (List ℕ)) (edge : ℕ) → IsOpen (length prefix) o → o.next < o.edges → IsTargetResult o.edges o.width o.behind.now o.next (Some t)
    → p.edges ≡ o.edges → p.width ≡ o.width → p.behind.now ≡ o.behind.now → p.next ≡ suc o.next → p.begin ≡ o.begin + length t.now → p.depth ≡ o.depth
    → Nested o.depth outer → Stands (length (take o.depth prefix ++ edge ∷ [])) (p ∷ outer)
entered prefix outer o p t edge branches some g edges width behind next begin depth nested =
    let len = length-append (take o.depth prefix) (edge ∷ []) in
    let front : length (take o.depth prefix) ≡ o.depth = length-take-le o.depth prefix branches.low in
    let ends = target_ends o t (branches.begins some) g in (
      record {
        low = omega arith;
        inside = omega arith;
        begins = λ h. (
            let more : o.next + 1 < o.edges = omega arith in
            begin ∙ ends.0 ∙ sym (next_begin o.edges o.width o.behind.now o.next more) ∙ rw (edges, width, behind, next) refl
            );
      },
      subst (λ d. Nested d outer) (sym depth) nested,
    )

-- the innermost branch has no target left, and is left
leave : (kind : Kind) (prefix : List ℕ) (outer : List OpenBranch) (o : OpenBranch) → Stands (length prefix) (o ∷ outer) → o.edges ≤ o.next → pairs_open kind prefix outer ≡ pairs_open kind prefix (o ∷ outer)
leave kind prefix outer o stands over =
    let front = take o.depth prefix in
    sym (open_shorter kind prefix o.depth outer stands.0.low (first_low o.depth outer stands.1))
    ∙ ap (λ ps. with_run front ps ++ pairs_open kind front outer) (sym (none_behind kind o over))

nested_longer : (d e : ℕ) (branches : List OpenBranch) → d ≤ e → Nested d branches → Nested e branches
nested_longer d e [] h nested = tt
nested_longer d e (o ∷ branches) h nested = (let low = nested.0.low in record { low = omega arith; inside = nested.0.inside; begins = nested.0.begins }, nested.1, nested.2)

pub stands_longer : (d e : ℕ) (branches : List OpenBranch) → d ≤ e → Stands d branches → Stands e branches
stands_longer d e [] h stands = tt
stands_longer d e (o ∷ branches) h stands = (let low = stands.0.low in record { low = omega arith; inside = stands.0.inside; begins = stands.0.begins }, stands.1)

pub stands_run : (key run : List ℕ) (branches : List OpenBranch) → Stands (length key) branches → Stands (length (key ++ run)) branches
stands_run key run branches stands = let len = length-append key run in stands_longer (length key) (length (key ++ run)) branches (omega arith) stands

-- An innermost branch that has no target left does not matter.
pub still_nested : (depth : ℕ) (branches : List OpenBranch) → Stands depth branches → Nested depth (still_open branches)
still_nested depth [] stands = tt
still_nested depth (o ∷ branches) stands = by_test (Nested depth) (nat_lt o.next o.edges) (o ∷ branches) branches
    (λ some. (stands.0, ltb-true o.next o.edges some, stands.1))
    (λ none. nested_longer o.depth depth branches stands.0.low stands.1)

pub still_pairs : (kind : Kind) (prefix : List ℕ) (branches : List OpenBranch) → Stands (length prefix) branches → pairs_open kind prefix (still_open branches) ≡ pairs_open kind prefix branches
still_pairs kind prefix [] stands = refl
still_pairs kind prefix (o ∷ branches) stands = by_test (λ bs. pairs_open kind prefix bs ≡ pairs_open kind prefix (o ∷ branches)) (nat_lt o.next o.edges) (o ∷ branches) branches
    (λ some. refl)
    (λ none. leave kind prefix branches o stands (ltb-false o.next o.edges none))

pub still_less : (branches : List OpenBranch) → work_open (still_open branches) ≤ work_open branches
still_less [] = omega arith
still_less (o ∷ branches) = by_test (λ bs. work_open bs ≤ work_open (o ∷ branches)) (nat_lt o.next o.edges) (o ∷ branches) branches (λ some. omega arith) (λ none. omega arith)

-- at most as many pairs are left as bytes, edges and branches
behind_most : (kind : Kind) (depth : ℕ) (o : OpenBranch) → IsOpen depth o → length (pairs_behind kind o) ≤ length (targets_behind o.edges o.width o.behind.now) - o.begin
behind_most kind depth o is = elim (cases_lt o.next o.edges) [
  | inl some ↦ (
      let k = o.edges - o.next in
      let back : o.edges - k ≡ o.next = omega arith in
      let begin : begin_of o.edges o.width o.behind.now (o.edges - k) ≡ o.begin = ap (begin_of o.edges o.width o.behind.now) back ∙ sym (is.begins some) in
      subst (λ x. length (pairs_behind kind o) ≤ length (targets_behind o.edges o.width o.behind.now) - x) begin
      (targets_most (listed kind) (listed_most kind) o.edges o.width o.behind.now k (omega arith))
      )
  | inr none ↦ (let zero : length (pairs_behind kind o) ≡ 0 = ap length (none_behind kind o none) in omega (arith, zero))
]

open_most : (kind : Kind) (depth : ℕ) (prefix : List ℕ) (branches : List OpenBranch) → Nested depth branches → length (pairs_open kind prefix branches) ≤ work_open branches
open_most kind depth prefix [] nested = omega arith
open_most kind depth prefix (o ∷ branches) nested =
    let front = take o.depth prefix in
    let own = behind_most kind depth o nested.0 in
    let run = length-run front (pairs_behind kind o) in
    let more = open_most kind o.depth front branches nested.2 in
    let sum = length-append (with_run front (pairs_behind kind o)) (pairs_open kind front branches) in
    omega arith

pub left_most : (kind : Kind) (prefix rest : List ℕ) (branches : List OpenBranch) → Stands (length prefix) branches → length (pairs_left kind prefix rest branches) ≤ work_left rest (still_open branches)
left_most kind prefix rest branches stands =
    let own = listed_most kind rest in
    let run = length-run prefix (listed kind rest) in
    let more = open_most kind (length prefix) prefix (still_open branches) (still_nested (length prefix) branches stands) in
    let same = ap length (still_pairs kind prefix branches stands) in
    let sum = length-append (with_run prefix (listed kind rest)) (pairs_open kind prefix branches) in
    omega arith

-- with no target left anywhere, nothing is left after the bytes
pub fresh_left : (kind : Kind) (prefix bytes : List ℕ) (branches : List OpenBranch) → Stands (length prefix) branches → still_open branches ≡ [] → pairs_left kind prefix bytes branches ≡ with_run prefix (listed kind bytes)
fresh_left kind prefix bytes branches stands none =
    let run = with_run prefix (listed kind bytes) in
    ap (λ ps. run ++ ps) (sym (still_pairs kind prefix branches stands) ∙ ap (pairs_open kind prefix) none) ∙ append-nil run

-- what stands after a node that was read is shorter
pub read_shorter : (kind : Kind) (bytes : List ℕ) (s : Shape) → node_of kind bytes ≡ Some s → Within (length bytes) s
read_shorter kind bytes s e = subst (InSome (Within (length bytes))) e (node_within kind bytes)

-- a branch that was opened is to be gone over in place of its bytes
pub branch_less : (kind : Kind) (bytes : List ℕ) (n w : ℕ) (table behind : List ℕ) (branches more : List OpenBranch) (o : OpenBranch) → node_of kind bytes ≡ Some (shapes.Shape.branch n w table behind)
    → o.edges ≡ n → o.width ≡ w → o.behind.now ≡ behind → o.next ≡ 0 → o.begin ≡ 0 → work_open branches ≤ work_open more → work_left [] (o ∷ branches) < work_left bytes more
branch_less kind bytes n w table behind branches more o e edges width same next begin less =
    let short = read_shorter kind bytes (shapes.Shape.branch n w table behind) e in
    let own : length (targets_behind o.edges o.width o.behind.now) ≡ length (targets_behind n w behind) = rw (edges, width, same) refl in
    omega arith

-- what a node has after it ends its bytes
pub value_end : (kind : Kind) (bytes rest : List ℕ) (v : ℕ) → Begins kind bytes (shapes.Shape.value v rest) → EndsWith bytes rest
value_end kind bytes rest v b = (b.spelling, b.bytes_are)

pub span_end : (kind : Kind) (bytes run rest : List ℕ) → Begins kind bytes (shapes.Shape.span run rest) → EndsWith bytes rest
span_end kind bytes run rest b = (b.1.spelling ++ run, b.1.bytes_are ∙ sym (append_assoc b.1.spelling run rest))

pub branch_end : (kind : Kind) (bytes : List ℕ) (n w : ℕ) (table behind : List ℕ) → Begins kind bytes (shapes.Shape.branch n w table behind) → EndsWith bytes behind
branch_end kind bytes n w table behind b =
    let k = before_edges kind n in
    let front = b.begins.spelling in (
      front ++ take k b.body,
      b.begins.bytes_are ∙ ap (λ x. front ++ x) (sym (take-append-drop k b.body)) ∙ sym (append_assoc front (take k b.body) (drop k b.body))
          ∙ ap (λ x. (front ++ take k b.body) ++ x) (sym b.behind_is),
    )

pub ends_drop : (bytes behind : List ℕ) (n : ℕ) → EndsWith bytes behind → EndsWith bytes (drop n behind)
ends_drop bytes behind n e =
    (e.0 ++ take n behind, e.1 ∙ ap (λ x. e.0 ++ x) (sym (take-append-drop n behind)) ∙ sym (append_assoc e.0 (take n behind) (drop n behind)))

-- Bytes that lie at the front of others.
pub ends_len : (bytes after : List ℕ) → EndsWith bytes after → length after ≤ length bytes
ends_len bytes after e = let n : length bytes ≡ length e.0 + length after = ap length e.1 ∙ length-append e.0 after in omega arith

pub lies_behind : (tail rest after : List ℕ) → rest ≡ take (length rest) tail → EndsWith rest after → after ≡ take (length after) (drop (length rest - length after) tail)
lies_behind tail rest after lies e =
    let sum : length rest ≡ length e.0 + length after = ap length e.1 ∙ length-append e.0 after in
    let passed : length rest - length after ≡ length e.0 = omega arith in
    sym (drop_at e.0 after (length e.0) refl)
    ∙ ap (drop (length e.0)) (sym e.1 ∙ lies ∙ ap (λ n. take n tail) sum)
    ∙ drop-take (length e.0) (length after) tail
    ∙ ap (λ n. take (length after) (drop n tail)) (sym passed)

-- what is cut from the tail is what comes after
pub cut_behind : (tail rest after back head : List ℕ) → rest ≡ take (length rest) tail → EndsWith rest after → back ≡ drop (length rest - length after) tail → head ≡ take (length after) back → head ≡ after
cut_behind tail rest after back head lies e is cut = cut ∙ ap (take (length after)) is ∙ sym (lies_behind tail rest after lies e)

-- a part of bytes that lie at the front of others
pub lies_part : (tail targets target : List ℕ) (from to : ℕ) → targets ≡ take (length targets) tail → from ≤ to → to ≤ length targets → target ≡ take (to - from) (drop from targets)
    → target ≡ take (length target) (drop from tail)
lies_part tail targets target from to lies low high is =
    let rest = drop from tail in
    let more = length targets - from in
    let sum : length targets ≡ from + more = omega arith in
    let behind : drop from targets ≡ take more rest = ap (drop from) (lies ∙ ap (λ n. take n tail) sum) ∙ drop-take from more tail in
    let n = length-drop from targets in
    let len : length target ≡ to - from = ap length is ∙ length-take-le (to - from) (drop from targets) (omega arith) in
    is
    ∙ ap (take (to - from)) behind
    ∙ take-take (to - from) more rest (omega arith)
    ∙ ap (λ m. take m rest) (sym len)

-- sixteen bytes were copied, and cut to a part of the rest
pub copied : (rest tail key key' sixteen : List ℕ) (n : ℕ) → rest ≡ take (length rest) tail → sixteen ≡ take 16 tail → n ≤ 16 → n ≤ length rest → key' ≡ take (length key + n) (key ++ sixteen)
    → key' ≡ key ++ take n rest
copied rest tail key key' sixteen n lies is most within key_is =
    let same : take n sixteen ≡ take n rest = ap (take n) is ∙ take-take n 16 tail most ∙ sym (take-take n (length rest) tail within) ∙ ap (take n) (sym lies) in
    key_is ∙ take-append-add key sixteen n ∙ ap (λ x. key ++ x) same

-- literals went to the end of the key
pub moves_some : (rest key rest' key' : List ℕ) (n : ℕ) → 0 < n → n ≤ length rest → ((k : ℕ) → k < n → slice_index rest k < 128) → Moves n rest key rest' key' → MovesLiterals rest key rest' key'
moves_some rest key rest' key' n some within low moves =
    let len : length (take n rest) ≡ n = length-take-le n rest within in
    record {
      run = take n rest;
      some = omega arith;
      literal = λ k h. subst (λ b. b < 128) (sym (get_or-take n rest k 0 (omega arith))) (low k (omega arith));
      rest_is = sym (take-append-drop n rest) ∙ ap (λ x. take n rest ++ x) (sym moves.0);
      key_is = moves.1;
    }

-- or none did
pub moves_any : (rest key rest' key' : List ℕ) (n : ℕ) → n ≤ length rest → ((k : ℕ) → k < n → slice_index rest k < 128) → Moves n rest key rest' key' → MovesAny rest key rest' key'
moves_any rest key rest' key' n within low moves = elim (cases_lt 0 n) [
  | inl some ↦ inr (moves_some rest key rest' key' n some within low moves)
  | inr none ↦
      let zero : n ≡ 0 = omega (arith, none) in
      inl (moves.0 ∙ ap (λ m. drop m rest) zero, moves.1 ∙ ap (λ m. key ++ take m rest) zero ∙ append-nil key)
]

-- and what is left stays
pub at_any : (kind : Kind) (prefix rest prefix' rest' : List ℕ) (branches : List OpenBranch) → FirstLow (length prefix) branches → MovesAny rest prefix rest' prefix'
    → pairs_left kind prefix' rest' branches ≡ pairs_left kind prefix rest branches
at_any kind prefix rest prefix' rest' branches low moves = elim moves [
  | inl same ↦ rw (same.0, same.1) refl
  | inr some ↦ sym (at_literals kind prefix rest prefix' rest' branches low some)
]

pub any_longer : (prefix rest prefix' rest' : List ℕ) → MovesAny rest prefix rest' prefix' → (length rest' ≤ length rest) × (length prefix ≤ length prefix')
any_longer prefix rest prefix' rest' moves = elim moves [
  | inl same ↦ rw (same.0, same.1) (omega arith, omega arith)
  | inr some ↦ let less = literals_shorter prefix rest prefix' rest' some in (omega (arith, less.0), less.1)
]
