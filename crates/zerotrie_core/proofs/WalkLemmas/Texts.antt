-- On a text the nodes of a walk are those of its grammar.
use Rattle.std.proofs.Common.{◌≡◌, ℕ, suc, ◌+◌, ◌-◌, ◌*◌, ◌<◌, List, [], ◌∷◌, ◌++◌, length, refl, sym, ◌∙◌, ap, arith, Option, Some, None, true, get_or, drop, length-append}
use Rattle.std.specs.Prelude.{slice_index}
use Rattle.std.specs.List.{concat}
use Rattle.std.proofs.lemmas.List.{append-nil, drop_at, length-drop, length-take-le}
use Rattle.zerotrie_base.specs.Kind.{Kind}
use Rattle.zerotrie_base.specs.Maps.{Pairs}
use Rattle.zerotrie_base.specs.Branches.{IsBranch, blocks, offsets}
use Rattle.zerotrie_base.specs.Texts.{Lists, ListEach}
use Rattle.zerotrie_base.specs.Texts.Lists.{nothing, value, literal, span, branch}
use Rattle.zerotrie_base.specs.Texts.ListEach.{no_edge, edge}
use Rattle.zerotrie_base.specs.Nodes.{Shape, targets_behind, begin_of, end_of}
use Rattle.zerotrie_base.specs.Nodes as shapes
use Rattle.zerotrie_core.specs.listing.Listed.{node_of, is_in_order, target_of}
use Rattle.zerotrie_core.specs.walk.Visits.{Part, visits, of_first, of_parts, parts_behind, after_node, target_parts, target_part, targets_place}
use Rattle.zerotrie_core.specs.walk.Texts.{from_edges_on, branch_read, front_size, visit, text_visits, target_visits}
use Rattle.zerotrie_core.proofs.NodeLemmas.Read.{node_begun}
use Rattle.zerotrie_base.proofs.NodeLemmas.Offsets.{target_between, in_order, length-blocks, length-offsets}
use Rattle.zerotrie_base.proofs.NodeLemmas.Opened.{is_begun, is_held, held_edge}
use Rattle.zerotrie_core.proofs.ListingLemmas.Nodes.{order_is, is_order, next_begin}
use Rattle.zerotrie_core.proofs.WalkLemmas.Visits.{visits_node, parts_at, part_is}

-- a part, by where it stands
abbrev part : ℕ → ℕ → Option ℕ → Option ℕ → List ℕ → Part
part place depth above by bytes = record { place = place; depth = depth; above = above; edge = by; bytes = bytes }

-- a node that is no branch, and then what follows it
walked_one : (kind : Kind) (place depth : ℕ) (above by : Option ℕ) (bytes rest : List ℕ) (s : Shape) (k : ℕ) → node_of kind bytes ≡ Some s → length bytes ≡ k + length rest
    → parts_behind (part place depth above by bytes) s ≡ after_node (part place depth above by bytes) rest ∷ []
    → visits kind (part place depth above by bytes) ≡ visit place depth above by bytes s ∷ visits kind (part (place + k) depth (Some place) None rest)
walked_one kind place depth above by bytes rest s k e len behind =
    let at = part place depth above by bytes in
    let on : place + (length bytes - length rest) ≡ place + k = omega arith in
    visits_node kind at
    ∙ ap (of_first (visits kind) at) e
    ∙ ap (λ ps. visit place depth above by bytes s ∷ of_parts (visits kind) ps) behind
    ∙ ap (λ vs. visit place depth above by bytes s ∷ vs) (append-nil (visits kind (after_node at rest)))
    ∙ ap (λ p. visit place depth above by bytes s ∷ visits kind (part p depth (Some place) None rest)) on

-- how many bytes a branch has in front of its targets
front_is : {kind : Kind} {edges : List ℕ} {targets : List (List ℕ)} {bytes : List ℕ} (b : IsBranch kind edges targets bytes)
    → length bytes - length (targets_behind (length edges) (b.width + 1) (from_edges_on b)) ≡ front_size b
front_is {edges = edges} {targets = targets} {bytes = bytes} b =
    let w = b.width + 1 in
    let table = blocks w (offsets targets) in
    let long : length table ≡ w * (length edges - 1) = length-blocks w (offsets targets) ∙ ap (λ n. w * n) (length-offsets targets ∙ ap (λ n. n - 1) b.a_target_each) in
    let behind : targets_behind (length edges) w (from_edges_on b) ≡ concat targets =
    ap (drop (w * (length edges - 1))) (drop_at edges (table ++ concat targets) (length edges) refl) ∙ drop_at table (concat targets) (w * (length edges - 1)) long in
    let some = ap (λ x. length x) behind in
    let all : length bytes ≡ length b.head + (length b.table + (length table + length (concat targets))) =
    ap (λ x. length x) b.bytes_are ∙ length-append b.head _ ∙ ap (λ n. length b.head + n) (length-append b.table _ ∙ ap (λ n. length b.table + n) (length-append table (concat targets))) in
    omega arith

-- Edges with their targets stand from number i on, and the first target at this place.
record StandFrom (at : Part) (n w : ℕ) (behind : List ℕ) (i place : ℕ) (edges : List ℕ) (targets : List (List ℕ)) : Type 0 where
  count : n ≡ i + length edges
  begins : 0 < length edges → place ≡ targets_place at n w behind + begin_of n w behind i
  edge_is : (j : ℕ) → j < length edges → slice_index behind (i + j) ≡ get_or edges j 0
  ordered : (j : ℕ) → j < length edges → is_in_order n w behind (i + j) ≡ true
  target_is : (j : ℕ) → j < length edges → target_of n w behind (i + j) ≡ get_or targets j []

from_none : (j : ℕ) → 0 + j ≡ j
from_none j = omega arith

-- the first of them
first_of_them : (at : Part) (n w : ℕ) (behind : List ℕ) (i : ℕ) (edges : List ℕ) → n ≡ i + suc (length edges) → is_in_order n w behind i ≡ true
    → target_parts at n w behind (suc (length edges)) ≡ target_part at n w behind i ∷ target_parts at n w behind (length edges)
first_of_them at n w behind i edges count ordered =
    let all : suc (length edges) ≡ n - i = omega arith in
    let left : n - (i + 1) ≡ length edges = omega arith in
    ap (target_parts at n w behind) all
    ∙ parts_at at n w behind i (omega arith)
    ∙ rw ordered (ap (λ k. target_part at n w behind i ∷ target_parts at n w behind k) left)

-- where a target ends the next one begins
next_place : (at : Part) (n w : ℕ) (behind : List ℕ) (i place : ℕ) (target : List ℕ) → suc i < n → place ≡ targets_place at n w behind + begin_of n w behind i → is_in_order n w behind i ≡ true
    → target_of n w behind i ≡ target → place + length target ≡ targets_place at n w behind + begin_of n w behind (suc i)
next_place at n w behind i place target more begins ordered is =
    let bounds = order_is n w behind i ordered in
    let from = begin_of n w behind i in
    let to = end_of n w behind i in
    let all = targets_behind n w behind in
    let low = bounds.0 in
    let high = bounds.1 in
    let past = length-drop from all in
    let len : length target ≡ to - from = ap (λ x. length x) (sym is) ∙ length-take-le (to - from) (drop from all) (omega arith) in
    let next : begin_of n w behind (suc i) ≡ to = next_begin n w behind i (omega arith) in
    omega arith

mutual
  -- a text, wherever it stands
  pub text_walked : {kind : Kind} {bytes : List ℕ} {pairs : Pairs} (text : Lists kind bytes pairs) (place depth : ℕ) (above by : Option ℕ)
      → visits kind (part place depth above by bytes) ≡ text_visits text place depth above by
  text_walked {kind = kind} nothing place depth above by = visits_node kind (part place depth above by [])
  text_walked {kind = kind} (value {v = v} {spelling = spelling} {rest = rest} s n text) place depth above by =
      walked_one kind place depth above by (spelling ++ rest) rest (shapes.Shape.value v rest) (length spelling)
      (node_begun kind (spelling ++ rest) (shapes.Shape.value v rest) (record { spelling = spelling; spells = s; bytes_are = refl })) (length-append spelling rest) refl
      ∙ ap (λ vs. visit place depth above by (spelling ++ rest) (shapes.Shape.value v rest) ∷ vs) (text_walked text (place + length spelling) depth (Some place) None)
  text_walked {kind = kind} (literal {b = b} {rest = rest} low n text) place depth above by =
      walked_one kind place depth above by (b ∷ rest) rest (shapes.Shape.literal b rest) 1 (node_begun kind (b ∷ rest) (shapes.Shape.literal b rest) (low, refl)) (omega arith) refl
      ∙ ap (λ vs. visit place depth above by (b ∷ rest) (shapes.Shape.literal b rest) ∷ vs) (text_walked text (place + 1) depth (Some place) None)
  text_walked {kind = kind} (span {spelling = spelling} {rest = rest} run h some high s n f text) place depth above by =
      let all = length-append spelling (run ++ rest) in
      let more = length-append run rest in
      walked_one kind place depth above by (spelling ++ (run ++ rest)) rest (shapes.Shape.span run rest) (length spelling + length run)
      (node_begun kind (spelling ++ (run ++ rest)) (shapes.Shape.span run rest) (h, record { spelling = spelling; spells = s; bytes_are = refl })) (omega arith) refl
      ∙ ap (λ vs. visit place depth above by (spelling ++ (run ++ rest)) (shapes.Shape.span run rest) ∷ vs) (text_walked text (place + (length spelling + length run)) depth (Some place) None)
  text_walked {kind = kind} (branch {edges = edges} {targets = targets} {bytes = bytes} b each) place depth above by =
      let n = length edges in
      let w = b.width + 1 in
      let at = part place depth above by bytes in
      let begun = is_begun b in
      let held = is_held n w _ _ b begun in
      let front = front_is b in
      visits_node kind at
      ∙ ap (of_first (visits kind) at) (node_begun kind bytes (branch_read b) begun)
      ∙ ap (λ vs. visit place depth above by bytes (branch_read b) ∷ vs) (each_walked at n w (from_edges_on b) 0 (place + front_size b) each (record {
        count = omega arith;
        begins = λ h. omega arith;
        edge_is = λ j h. rw (from_none j) (sym (held_edge held j h));
        ordered = λ j h. rw (from_none j) (let o = in_order held.has_targets j h in is_order n w _ j o.0 o.1);
        target_is = λ j h. rw (from_none j) (target_between held.has_targets j h);
      }))

  each_walked : {kind : Kind} {edges : List ℕ} {targets : List (List ℕ)} {pairs : Pairs} (at : Part) (n w : ℕ) (behind : List ℕ) (i place : ℕ) (each : ListEach kind edges targets pairs) → StandFrom at n w behind i place edges targets
      → of_parts (visits kind) (target_parts at n w behind (length edges)) ≡ target_visits each place (at.depth + 1) at.place
  each_walked at n w behind i place no_edge stand = refl
  each_walked {kind = kind} at n w behind i place (edge {e = e} {edges = edges} {target = target} {targets = targets} some text each) stand =
      let here : i + 0 ≡ i = omega arith in
      let ordered : is_in_order n w behind i ≡ true = ap (is_in_order n w behind) (sym here) ∙ stand.ordered 0 (omega arith) in
      let label : e ≡ slice_index behind i = sym (stand.edge_is 0 (omega arith)) ∙ ap (slice_index behind) here in
      let own : target ≡ target_of n w behind i = sym (stand.target_is 0 (omega arith)) ∙ ap (target_of n w behind) here in
      let begins = stand.begins (omega arith) in
      ap (of_parts (visits kind)) (first_of_them at n w behind i edges stand.count ordered)
      ∙ ap (λ p. visits kind p ++ of_parts (visits kind) (target_parts at n w behind (length edges))) (sym (part_is at n w behind i place e target begins label own))
      ∙ ap (λ vs. vs ++ of_parts (visits kind) (target_parts at n w behind (length edges))) (text_walked text place (at.depth + 1) (Some at.place) (Some e))
      ∙ ap (λ vs. text_visits text place (at.depth + 1) (Some at.place) (Some e) ++ vs) (each_walked at n w behind (suc i) (place + length target) each (record {
        count = omega (arith, stand.count);
        begins = λ h. next_place at n w behind i place target (omega (arith, stand.count)) begins ordered (sym own);
        edge_is = λ j h. (let next : suc i + j ≡ i + suc j = omega arith in rw next (stand.edge_is (suc j) (omega arith)));
        ordered = λ j h. (let next : suc i + j ≡ i + suc j = omega arith in rw next (stand.ordered (suc j) (omega arith)));
        target_is = λ j h. (let next : suc i + j ≡ i + suc j = omega arith in rw next (stand.target_is (suc j) (omega arith)));
      }))
