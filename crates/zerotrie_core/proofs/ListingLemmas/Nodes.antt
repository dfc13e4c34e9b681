-- What bytes list, by the node that they begin with.
use Rattle.std.proofs.Common.{◌≡◌, ℕ, zero, suc, ◌+◌, ◌-◌, ◌<◌, ◌≤◌, List, [], ◌∷◌, ◌++◌, length, refl, sym, ◌∙◌, ap, subst, arith, Option, Some, None, Bool, true, false, get_or, drop, length-append}
use Rattle.std.specs.Prelude.{◌&&◌, slice_index, if◌then◌else◌}
use Rattle.std.proofs.lemmas.List.{length-take, length-drop}
use Rattle.std.proofs.lemmas.Bool.{le-leb, leb-true, ne_eqb}
use Rattle.zerotrie_base.specs.Kind.{Kind}
use Rattle.zerotrie_base.specs.Maps.{Pairs, with_front, with_run}
use Rattle.zerotrie_base.specs.Texts.{Lists, ListEach}
use Rattle.zerotrie_base.specs.Texts.Lists.{nothing, value, literal, span, branch}
use Rattle.zerotrie_base.specs.Texts.ListEach.{no_edge, edge}
use Rattle.zerotrie_base.specs.Nodes.{Shape, Begins, targets_behind, begin_of, end_of, offset_in}
use Rattle.zerotrie_base.specs.Nodes as shapes
use Rattle.zerotrie_core.specs.listing.Listed.{listed, listed_to, of_node, of_targets, node_of, is_in_order, target_of}
use Rattle.zerotrie_core.proofs.NodeLemmas.Read.{node_begun, node_within, InSome, Within, by_test}
use Rattle.zerotrie_base.proofs.NodeLemmas.Offsets.{target_between, in_order}
use Rattle.zerotrie_base.proofs.NodeLemmas.Opened.{is_begun, is_held, held_edge}

pub length-target : (n w : ℕ) (behind : List ℕ) (i : ℕ) → length (target_of n w behind i) ≤ length (targets_behind n w behind)
length-target n w behind i =
    let all = targets_behind n w behind in
    let from = begin_of n w behind i in
    let a = length-take (end_of n w behind i - from) (drop from all) in
    let b = length-drop from all in
    omega arith

length-target_to : (n w : ℕ) (behind : List ℕ) (i : ℕ) → length (target_of n w behind i) ≤ end_of n w behind i - begin_of n w behind i
length-target_to n w behind i =
    let all = targets_behind n w behind in
    let from = begin_of n w behind i in
    let a = length-take (end_of n w behind i - from) (drop from all) in
    omega arith

-- listings that agree on shorter bytes
targets_agree : (f g : List ℕ → Pairs) (n w : ℕ) (behind : List ℕ) (k m : ℕ) → length (targets_behind n w behind) < m → ((x : List ℕ) → length x < m → f x ≡ g x)
    → of_targets f n w behind k ≡ of_targets g n w behind k
targets_agree f g n w behind zero m h same = refl
targets_agree f g n w behind (suc k) m h same =
    let i = n - suc k in
    let t = target_of n w behind i in
    let len = length-target n w behind i in
    let b = slice_index behind i in
    let joined : with_front b (f t) ++ of_targets f n w behind k ≡ with_front b (g t) ++ of_targets g n w behind k =
    ap (λ x. with_front b x ++ of_targets f n w behind k) (same t (omega arith)) ∙ ap (λ x. with_front b (g t) ++ x) (targets_agree f g n w behind k m h same) in
    ap (λ x. if is_in_order n w behind i then x else []) joined

nodes_agree : (f g : List ℕ → Pairs) (m : ℕ) (s : Option Shape) → InSome (Within m) s → ((x : List ℕ) → length x < m → f x ≡ g x) → of_node f s ≡ of_node g s
nodes_agree f g m None h same = refl
nodes_agree f g m (Some (shapes.Shape.value v rest)) h same = ap (λ x. ([], v) ∷ x) (same rest h)
nodes_agree f g m (Some (shapes.Shape.literal b rest)) h same = ap (with_front b) (same rest h)
nodes_agree f g m (Some (shapes.Shape.span run rest)) h same = ap (with_run run) (same rest h)
nodes_agree f g m (Some (shapes.Shape.branch n w table behind)) h same = targets_agree f g n w behind n m (omega arith) same

enough : (d e : ℕ) (kind : Kind) (bytes : List ℕ) → length bytes ≤ d → length bytes ≤ e → listed_to d kind bytes ≡ listed_to e kind bytes
enough zero zero kind bytes h g = refl
enough zero (suc e) kind [] h g = refl
enough zero (suc e) kind (b ∷ bytes) h g = absurd (omega arith)
enough (suc d) zero kind [] h g = refl
enough (suc d) zero kind (b ∷ bytes) h g = absurd (omega arith)
enough (suc d) (suc e) kind bytes h g =
    nodes_agree (listed_to d kind) (listed_to e kind) (length bytes) (node_of kind bytes) (node_within kind bytes) (λ x l. enough d e kind x (omega arith) (omega arith))

-- by the first node, and what stands after it
pub listed_node : (kind : Kind) (bytes : List ℕ) → listed kind bytes ≡ of_node (listed kind) (node_of kind bytes)
unfolding listed
listed_node kind [] = refl
listed_node kind (b ∷ bytes) =
    nodes_agree (listed_to (length bytes) kind) (λ x. listed_to (length x) kind x) (suc (length bytes)) (node_of kind (b ∷ bytes)) (node_within kind (b ∷ bytes))
    (λ x l. enough (length bytes) (length x) kind x (omega arith) (omega arith))

pub listed_read : (kind : Kind) (bytes : List ℕ) (s : Shape) → node_of kind bytes ≡ Some s → listed kind bytes ≡ of_node (listed kind) (Some s)
listed_read kind bytes s e = listed_node kind bytes ∙ ap (of_node (listed kind)) e

pub listed_behind : (kind : Kind) (bytes : List ℕ) (s : Shape) → Begins kind bytes s → listed kind bytes ≡ of_node (listed kind) (Some s)
listed_behind kind bytes s b = listed_read kind bytes s (node_begun kind bytes s b)

-- a target begins where the one before it ends
pub next_begin : (n w : ℕ) (behind : List ℕ) (i : ℕ) → i + 1 < n → begin_of n w behind (suc i) ≡ end_of n w behind i
next_begin n w behind i h =
    let back : suc i - 1 ≡ i = omega arith in
    rw (ne_eqb (suc i) 0 (λ e. omega arith), ne_eqb i (n - 1) (λ e. omega arith)) (ap (offset_in n w behind) back)

-- what a test of two bounds says
pub order_is : (n w : ℕ) (behind : List ℕ) (i : ℕ) → is_in_order n w behind i ≡ true
    → (begin_of n w behind i ≤ end_of n w behind i) × (end_of n w behind i ≤ length (targets_behind n w behind))
order_is n w behind i e = let parts = both_of _ _ e in (leb-true _ _ parts.0, leb-true _ _ parts.1)
  where
    both_of : (a b : Bool) → (a && b) ≡ true → (a ≡ true) × (b ≡ true)
    both_of true b e = (refl, e)
    both_of false b e = absurd (cc)

pub is_order : (n w : ℕ) (behind : List ℕ) (i : ℕ) → begin_of n w behind i ≤ end_of n w behind i → end_of n w behind i ≤ length (targets_behind n w behind) → is_in_order n w behind i ≡ true
is_order n w behind i h g = rw (le-leb _ _ h) (le-leb _ _ g)

length-front : (b : ℕ) (pairs : Pairs) → length (with_front b pairs) ≡ length pairs
length-front b [] = refl
length-front b (e ∷ pairs) = ap suc (length-front b pairs)

pub length-run : (run : List ℕ) (pairs : Pairs) → length (with_run run pairs) ≡ length pairs
length-run run [] = refl
length-run run (e ∷ pairs) = ap suc (length-run run pairs)

-- after target number n - suc k the next one begins, if there is one
later_most : (f : List ℕ → Pairs) (n w : ℕ) (behind : List ℕ) (k : ℕ) → suc k ≤ n
    → length (of_targets f n w behind k) ≤ length (targets_behind n w behind) - begin_of n w behind (n - k)
    → length (of_targets f n w behind k) ≤ length (targets_behind n w behind) - end_of n w behind (n - suc k)
later_most f n w behind zero h more = omega arith
later_most f n w behind (suc k) h more =
    let i = n - suc (suc k) in
    let same : n - suc k ≡ suc i = omega arith in
    let next = next_begin n w behind i (omega arith) in
    subst (λ x. length (of_targets f n w behind (suc k)) ≤ length (targets_behind n w behind) - x) (ap (begin_of n w behind) same ∙ next) more

-- of n bytes at most n pairs
pub targets_most : (f : List ℕ → Pairs) → ((x : List ℕ) → length (f x) ≤ length x) → (n w : ℕ) (behind : List ℕ) (k : ℕ) → k ≤ n
    → length (of_targets f n w behind k) ≤ length (targets_behind n w behind) - begin_of n w behind (n - k)
targets_most f most n w behind zero h = omega arith
targets_most f most n w behind (suc k) h =
    let i = n - suc k in
    let all = length (targets_behind n w behind) in
    let b = slice_index behind i in
    let t = target_of n w behind i in
    let more = later_most f n w behind k h (targets_most f most n w behind k (omega arith)) in
    by_test (λ ps. length ps ≤ all - begin_of n w behind i) (is_in_order n w behind i) (with_front b (f t) ++ of_targets f n w behind k) []
    (λ ordered.
    let bounds = order_is n w behind i ordered in
    let len = length-append (with_front b (f t)) (of_targets f n w behind k) in
    let front = length-front b (f t) in
    let own = most t in
    let part = length-target_to n w behind i in
    omega arith)
    (λ _. omega arith)

node_most : (f : List ℕ → Pairs) → ((x : List ℕ) → length (f x) ≤ length x) → (m : ℕ) (s : Option Shape) → InSome (Within m) s → length (of_node f s) ≤ m
node_most f most m None h = omega arith
node_most f most m (Some (shapes.Shape.value v rest)) h = let l = most rest in omega arith
node_most f most m (Some (shapes.Shape.literal b rest)) h = let l = most rest in let len = length-front b (f rest) in omega arith
node_most f most m (Some (shapes.Shape.span run rest)) h = let l = most rest in let len = length-run run (f rest) in omega arith
node_most f most m (Some (shapes.Shape.branch n w table behind)) h = let l = targets_most f most n w behind n (omega arith) in omega arith

most_to : (d : ℕ) (kind : Kind) (bytes : List ℕ) → length (listed_to d kind bytes) ≤ length bytes
most_to zero kind bytes = omega arith
most_to (suc d) kind bytes = node_most (listed_to d kind) (most_to d kind) (length bytes) (node_of kind bytes) (node_within kind bytes)

pub listed_most : (kind : Kind) (bytes : List ℕ) → length (listed kind bytes) ≤ length bytes
unfolding listed
listed_most kind bytes = most_to (length bytes) kind bytes

-- edges with their targets stand from place i on
record StandFrom (n w : ℕ) (behind : List ℕ) (i : ℕ) (edges : List ℕ) (targets : List (List ℕ)) : Type 0 where
  count : n ≡ i + length edges
  edge_is : (j : ℕ) → j < length edges → slice_index behind (i + j) ≡ get_or edges j 0
  ordered : (j : ℕ) → j < length edges → is_in_order n w behind (i + j) ≡ true
  target_is : (j : ℕ) → j < length edges → target_of n w behind (i + j) ≡ get_or targets j []

from_none : (j : ℕ) → 0 + j ≡ j
from_none j = omega arith

mutual
  -- bytes that are a text list its pairs
  pub listed_pairs : {kind : Kind} {bytes : List ℕ} {pairs : Pairs} → Lists kind bytes pairs → listed kind bytes ≡ pairs
  listed_pairs {kind = kind} nothing = listed_node kind []
  listed_pairs {kind = kind} (value {v = v} {spelling = spelling} {rest = rest} s n text) =
      listed_behind kind (spelling ++ rest) (shapes.Shape.value v rest) (record { spelling = spelling; spells = s; bytes_are = refl }) ∙ ap (λ x. ([], v) ∷ x) (listed_pairs text)
  listed_pairs {kind = kind} (literal {b = b} {rest = rest} low n text) =
      listed_behind kind (b ∷ rest) (shapes.Shape.literal b rest) (low, refl) ∙ ap (with_front b) (listed_pairs text)
  listed_pairs {kind = kind} (span {spelling = spelling} {rest = rest} run h some high s n f text) =
      listed_behind kind (spelling ++ (run ++ rest)) (shapes.Shape.span run rest) (h, record { spelling = spelling; spells = s; bytes_are = refl }) ∙ ap (with_run run) (listed_pairs text)
  listed_pairs {kind = kind} (branch {edges = edges} {targets = targets} {bytes = bytes} i each) =
      let n = length edges in
      let w = i.width + 1 in
      let begun = is_begun i in
      let held = is_held n w _ _ i begun in
      listed_behind kind bytes (shapes.Shape.branch n w i.table _) begun ∙ listed_each {n = n} {w = w} {i = 0} each (record {
        count = omega arith;
        edge_is = λ j h. rw (from_none j) (sym (held_edge held j h));
        ordered = λ j h. rw (from_none j) (let o = in_order held.has_targets j h in is_order n w _ j o.0 o.1);
        target_is = λ j h. rw (from_none j) (target_between held.has_targets j h);
      })

  listed_each : {n w : ℕ} {behind : List ℕ} {i : ℕ} {kind : Kind} {edges : List ℕ} {targets : List (List ℕ)} {pairs : Pairs} → ListEach kind edges targets pairs → StandFrom n w behind i edges targets
      → of_targets (listed kind) n w behind (length edges) ≡ pairs
  listed_each no_edge stand = refl
  listed_each {n = n} {w = w} {behind = behind} {i = i} {kind = kind} (edge {e = e} {edges = edges} {target = target} {targets = targets} {pairs = pairs} {more = more} some text each) stand =
      let place : n - suc (length edges) ≡ i + 0 = omega (arith, stand.count) in
      rw (place, stand.ordered 0 (omega arith), stand.edge_is 0 (omega arith), stand.target_is 0 (omega arith))
      (ap (λ x. with_front e x ++ of_targets (listed kind) n w behind (length edges)) (listed_pairs text)
      ∙ ap (λ x. with_front e pairs ++ x) (listed_each {n = n} {w = w} {behind = behind} {i = suc i} each (record {
        count = omega (arith, stand.count);
        edge_is = λ j h. (let next : suc i + j ≡ i + suc j = omega arith in rw next (stand.edge_is (suc j) (omega arith)));
        ordered = λ j h. (let next : suc i + j ≡ i + suc j = omega arith in rw next (stand.ordered (suc j) (omega arith)));
        target_is = λ j h. (let next : suc i + j ≡ i + suc j = omega arith in rw next (stand.target_is (suc j) (omega arith)));
      })))
