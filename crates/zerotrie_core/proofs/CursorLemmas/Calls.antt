-- What the calls of a cursor answer and leave.
use Rattle.std.proofs.Common.{Bool, ◌≡◌, ℕ, zero, suc, ◌<◌, ◌≤◌, List, [], ◌∷◌, ◌++◌, length, refl, sym, ◌∙◌, ap, subst, arith, Option, Some, None, get_or}
use Rattle.std.specs.Prelude.{IsTrue, ◌↔◌, min, slice_get, IfNone}
use Rattle.std.specs.Borrow.{Bor}
use Rattle.std.specs.Option.{option_map, option_map_or}
use Rattle.std.proofs.lemmas.Option.{slice_get-get_or, slice_get_past}
use Rattle.zerotrie_base.specs.Kind.{Kind, IsAscii, fold_byte}
use Rattle.zerotrie_base.specs.Maps.{Pairs, value_at, residual, with_front, with_run}
use Rattle.zerotrie_base.specs.Numbers.{BeginsWith}
use Rattle.zerotrie_base.specs.Texts.{Lists, ListEach, NoValueFirst}
use Rattle.zerotrie_base.specs.Texts.Lists.{nothing, value, literal, span, branch}
use Rattle.zerotrie_base.specs.Texts.ListEach.{no_edge, edge}
use Rattle.zerotrie_base.specs.Nodes.{Shape, Begins, IsTargetResult}
use Rattle.zerotrie_base.specs.Nodes as shapes
use Rattle.zerotrie_base.specs.Cursors.{met, edge_like}
use Rattle.zerotrie_core.specs.Machine.{behind, without_value, nth_edge}
use Rattle.zerotrie_core.specs.Places.{Place, nowhere, ListsBehind, ListsAt, IsStep, IsTake, IsProbe}
use Rattle.zerotrie_core.specs.reader.Going.{AlwaysGoes, AlwaysStops}
use Rattle.zerotrie_core.specs.cursor.Edges.{NoValue, HasTheEdges, ListsInside}
use Rattle.zerotrie_base.proofs.NumberLemmas.Numbers.{some_bytes}
use Rattle.zerotrie_base.proofs.NodeLemmas.Nodes.{value_begins}
use Rattle.zerotrie_base.proofs.MapLemmas.Kinds.{one_fold, two_folds, edge_limit_is, ascii_spanless, ascii_sorted}
use Rattle.zerotrie_base.proofs.MapLemmas.Values.{value_at-front, value_at-other, value_at-no_key, behind_none}
use Rattle.zerotrie_base.proofs.NodeLemmas.Tables.{NoneLike, Distinct, table_distinct, table_rises}
use Rattle.zerotrie_base.proofs.MapLemmas.Edges.{residual-front}
use Rattle.zerotrie_base.proofs.MapLemmas.Spans.{with_run-none, with_run-front, value_at-no_run, run_none}
use Rattle.zerotrie_base.proofs.CanonicalLemmas.Canonical.{nil_end, lists_some}
use Rattle.zerotrie_base.proofs.CanonicalLemmas.Encoded.{rises_count}
use Rattle.zerotrie_base.proofs.NodeLemmas.Offsets.{target_is}
use Rattle.zerotrie_base.proofs.MapLemmas.Targets.{like_none, like_some, each_none, each_behind, met_each, met_front}
use Rattle.zerotrie_base.proofs.NodeLemmas.Opened.{Opens, held_edge, value_opens, literal_opens, span_opens, branch_opens, nothing_listed, no_node}

-- The edges of pairs, and where each leads.
pub record Parts (kind : Kind) (pairs : Pairs) (edges : List ℕ) (places : ℕ → Place) : Type 0 where
  pub met_is : met pairs ≡ edges
  pub distinct : Distinct kind edges
  pub leads : (i : ℕ) → i < length edges → ListsAt kind (places i) (residual (get_or edges i 0) pairs)
  pub answers : (c i : ℕ) → i < length edges → fold_byte kind (get_or edges i 0) ≡ fold_byte kind c → (key : List ℕ) → value_at kind pairs (c ∷ key) ≡ value_at kind (residual (get_or edges i 0) pairs) key
  pub others : (c : ℕ) → NoneLike kind c edges → (key : List ℕ) → value_at kind pairs (c ∷ key) ≡ None

-- in front of a text, with no run
abbrev pub before_text : List ℕ → Place
before_text bytes = record { run = []; trie = bytes }

pub opens_parts : {kind : Kind} {bytes : List ℕ} {pairs : Pairs} {edges : List ℕ} {targets : List (List ℕ)} (text : Lists kind bytes pairs) → Opens text edges targets
    → Parts kind pairs edges (λ i. before_text (get_or targets i []))
opens_parts {kind = kind} {edges = edges} {targets = targets} text o = record {
  met_is = ap met o.same ∙ met_each o.each o.distinct;
  distinct = o.distinct;
  leads = λ i h. (
      let f = each_behind o.each o.distinct i h in
      subst (Lists kind (get_or targets i [])) (f.is ∙ ap (residual (get_or edges i 0)) (sym o.same)) f.inner
      );
  answers = λ c i h same key. (
      let f = each_behind o.each o.distinct i h in
      ap (λ p. value_at kind p (c ∷ key)) o.same ∙ f.answers c same key ∙ ap (λ p. value_at kind p key) (f.is ∙ ap (residual (get_or edges i 0)) (sym o.same))
      );
  others = λ c none key. ap (λ p. value_at kind p (c ∷ key)) o.same ∙ (each_none o.each c none).0 key;
}

-- a byte in front of all keys is their one edge
pub front_parts : (kind : Kind) (b : ℕ) (pairs below : Pairs) (place : Place) → (below ≡ [] → ⊥) → pairs ≡ with_front b below → ListsAt kind place below → Parts kind pairs (b ∷ []) (λ i. place)
front_parts kind b pairs below place some is lists = record {
  met_is = ap met (is ∙ sym (nil_end (with_front b below))) ∙ met_front b below [] some;
  distinct = (tt, tt);
  leads = leads;
  answers = answers;
  others = λ c none key. ap (λ p. value_at kind p (c ∷ key)) is ∙ value_at-other kind b c key below (two_folds kind b c (λ s. none.0 (sym s)));
}
  where
    answers : (c i : ℕ) → i < 1 → fold_byte kind (get_or (b ∷ []) i 0) ≡ fold_byte kind c → (key : List ℕ) → value_at kind pairs (c ∷ key) ≡ value_at kind (residual (get_or (b ∷ []) i 0) pairs) key
    answers c zero h same key =
        ap (λ p. value_at kind p (c ∷ key)) is
        ∙ value_at-front kind b c key below (one_fold kind b c same)
        ∙ ap (λ p. value_at kind p key) (sym (ap (residual b) is ∙ residual-front b below))
    answers c (suc i) h same key = absurd (omega arith)

    leads : (i : ℕ) → i < 1 → ListsAt kind place (residual (get_or (b ∷ []) i 0) pairs)
    leads zero h = subst (ListsAt kind place) (sym (ap (residual b) is ∙ residual-front b below)) lists
    leads (suc i) h = absurd (omega arith)

-- along an edge, or along none
pub along : {kind : Kind} {pairs : Pairs} {edges : List ℕ} {places : ℕ → Place} → Parts kind pairs edges places → (c i : ℕ) → i < length edges → fold_byte kind (get_or edges i 0) ≡ fold_byte kind c
    → (Some (get_or edges i 0) ≡ edge_like kind c (met pairs)) × ListsAt kind (places i) (residual (get_or edges i 0) pairs)
along {kind = kind} {edges = edges} p c i h same = (sym (ap (edge_like kind c) p.met_is ∙ like_some kind c i edges p.distinct h same), p.leads i h)

pub along_none : {kind : Kind} {pairs : Pairs} {edges : List ℕ} {places : ℕ → Place} → Parts kind pairs edges places → (c : ℕ) → NoneLike kind c edges
    → (None ≡ edge_like kind c (met pairs)) × Lists kind [] []
along_none {kind = kind} {edges = edges} p c none = (sym (ap (edge_like kind c) p.met_is ∙ like_none kind c edges none), nothing)

-- by its number
pub by_number : {kind : Kind} {pairs : Pairs} {edges : List ℕ} {places : ℕ → Place} → Parts kind pairs edges places → (i : ℕ) → i < length edges
    → (Some (get_or edges i 0, length edges) ≡ nth_edge i (met pairs)) × ListsAt kind (places i) (residual (get_or edges i 0) pairs)
by_number {edges = edges} p i h = (sym (ap (nth_edge i) p.met_is ∙ ap (option_map (λ b. (b, length edges))) (slice_get-get_or edges i 0 h)), p.leads i h)

pub past_number : {kind : Kind} {pairs : Pairs} {edges : List ℕ} {places : ℕ → Place} → Parts kind pairs edges places → (i : ℕ) → length edges ≤ i
    → (None ≡ nth_edge i (met pairs)) × Lists kind [] []
past_number {edges = edges} p i h = (sym (ap (nth_edge i) p.met_is ∙ ap (option_map (λ b. (b, length edges))) (slice_get_past edges i h)), nothing)

-- inside a run
inside_parts : (kind : Kind) (b : ℕ) (run run' trie : List ℕ) (pairs : Pairs) → run ≡ b ∷ run' → ListsBehind kind run trie pairs → Parts kind pairs (b ∷ []) (λ i. record { run = run'; trie = trie })
inside_parts kind b run run' trie pairs e lists =
    let l = subst (λ r. ListsBehind kind r trie pairs) e lists in
    front_parts kind b pairs l.0 (record { run = run'; trie = trie }) l.1 l.2 l.3

module _ (kind : Kind) (b : ℕ) (run run' trie : List ℕ) (e : run ≡ b ∷ run') where
  pub inside_along : (c : ℕ) → fold_byte kind b ≡ fold_byte kind c → IsStep kind (ListsInside kind run trie) c (Some b) (ListsBehind kind run' trie)
  inside_along c same pairs lists = along (inside_parts kind b run run' trie pairs e lists.1) c 0 (omega arith) same

  pub inside_past : (c : ℕ) → (fold_byte kind b ≡ fold_byte kind c → ⊥) → IsStep kind (ListsInside kind run trie) c None (Lists kind [])
  inside_past c other pairs lists = along_none (inside_parts kind b run run' trie pairs e lists.1) c (λ same. other (sym same), tt)

  pub inside_number : (i : ℕ) → i ≡ 0 → IsProbe (ListsInside kind run trie) i (Some (b, 1)) (ListsBehind kind run' trie)
  inside_number i first pairs lists =
      let n = by_number (inside_parts kind b run run' trie pairs e lists.1) 0 (omega arith) in
      (n.0 ∙ ap (λ k. nth_edge k (met pairs)) (sym first), n.1)

  pub inside_past_number : (i : ℕ) → (i ≡ 0 → ⊥) → IsProbe (ListsInside kind run trie) i None (Lists kind [])
  inside_past_number i other pairs lists = past_number (inside_parts kind b run run' trie pairs e lists.1) i (omega arith)

-- a span is entered
pub inside_span : (kind : Kind) (run trie : List ℕ) (below : Pairs) → (trie ≡ [] → ⊥) → Lists kind trie below → ListsBehind kind run trie (with_run run below) × (with_run run below ≡ [] → ⊥)
inside_span kind [] trie below some text =
    let same = sym (with_run-none below) in
    (subst (Lists kind trie) same text, λ none. lists_some text some (same ∙ none))
inside_span kind (b ∷ run) trie below some text =
    let rest = inside_span kind run trie below some text in
    ((with_run run below, rest.1, with_run-front b run below, rest.0), λ none. lists_some text some (run_none (b ∷ run) below none))

pub span_lists : {kind : Kind} {bytes : List ℕ} {pairs : Pairs} (text : Lists kind bytes pairs) (run rest : List ℕ) → Begins kind bytes (shapes.Shape.span run rest) → ListsInside kind run rest pairs
span_lists {kind = kind} text run rest begins =
    let h = span_opens text run rest begins.1 in
    (h.some, subst (ListsBehind kind run rest) (sym h.is) (inside_span kind run rest h.below h.more h.inner).0)

-- what a span's run answers, the text answers
pub span_steps : (kind : Kind) (bytes run rest : List ℕ) (c : ℕ) (answer : Option ℕ) (After : Pairs → Type 0) → Begins kind bytes (shapes.Shape.span run rest)
    → IsStep kind (ListsInside kind run rest) c answer After → IsStep kind (Lists kind bytes) c answer After
span_steps kind bytes run rest c answer After begins s pairs lists = s pairs (span_lists lists run rest begins)

pub span_probes : (kind : Kind) (bytes run rest : List ℕ) (i : ℕ) (answer : Option (ℕ × ℕ)) (After : Pairs → Type 0) → Begins kind bytes (shapes.Shape.span run rest)
    → IsProbe (ListsInside kind run rest) i answer After → IsProbe (Lists kind bytes) i answer After
span_probes kind bytes run rest i answer After begins s pairs lists = s pairs (span_lists lists run rest begins)

-- if no node begins
pub nothing_steps : (kind : Kind) (bytes : List ℕ) (c : ℕ) → ((s : Shape) → Begins kind bytes s → ⊥) → IsStep kind (Lists kind bytes) c None (Lists kind [])
nothing_steps kind bytes c none pairs lists = (sym (ap (λ p. edge_like kind c (met p)) (no_node lists none).is), nothing)

pub nothing_probes : (kind : Kind) (bytes : List ℕ) (i : ℕ) → ((s : Shape) → Begins kind bytes s → ⊥) → IsProbe (Lists kind bytes) i None (Lists kind [])
nothing_probes kind bytes i none pairs lists = (sym (ap (λ p. nth_edge i (met p)) (no_node lists none).is), nothing)

-- a literal
module _ (kind : Kind) (bytes : List ℕ) (b : ℕ) (rest : List ℕ) (begins : Begins kind bytes (shapes.Shape.literal b rest)) where
  literal_parts : (pairs : Pairs) → Lists kind bytes pairs → Parts kind pairs (b ∷ []) (λ i. before_text (get_or (rest ∷ []) i []))
  literal_parts pairs text = opens_parts text (literal_opens text b rest begins.0 begins.1)

  pub literal_along : (c : ℕ) → fold_byte kind b ≡ fold_byte kind c → IsStep kind (Lists kind bytes) c (Some b) (Lists kind rest)
  literal_along c same pairs lists = along (literal_parts pairs lists) c 0 (omega arith) same

  pub literal_past : (c : ℕ) → (fold_byte kind b ≡ fold_byte kind c → ⊥) → IsStep kind (Lists kind bytes) c None (Lists kind [])
  literal_past c other pairs lists = along_none (literal_parts pairs lists) c (λ same. other (sym same), tt)

  pub literal_number : (i : ℕ) → i ≡ 0 → IsProbe (Lists kind bytes) i (Some (b, 1)) (Lists kind rest)
  literal_number i first pairs lists =
      let n = by_number (literal_parts pairs lists) 0 (omega arith) in
      (n.0 ∙ ap (λ k. nth_edge k (met pairs)) (sym first), n.1)

  pub literal_past_number : (i : ℕ) → (i ≡ 0 → ⊥) → IsProbe (Lists kind bytes) i None (Lists kind [])
  literal_past_number i other pairs lists = past_number (literal_parts pairs lists) i (omega arith)

-- a branch
module _ (kind : Kind) (bytes : List ℕ) (n w : ℕ) (table behind_head : List ℕ) (begins : Begins kind bytes (shapes.Shape.branch n w table behind_head)) where
  pub branch_along : (c b : ℕ) (rest : List ℕ) → AlwaysGoes kind (shapes.Shape.branch n w table behind_head) c b rest → IsStep kind (Lists kind bytes) c (Some b) (Lists kind rest)
  branch_along c b rest goes pairs lists =
      let g = goes bytes pairs lists begins in
      (sym g.edge, subst (Lists kind rest) g.is g.inner)

  pub branch_past : (c : ℕ) → AlwaysStops kind (shapes.Shape.branch n w table behind_head) c → IsStep kind (Lists kind bytes) c None (Lists kind [])
  branch_past c stops pairs lists = (sym (stops bytes pairs lists begins).edge, nothing)

  pub branch_number : (i : ℕ) (target : Bor (List ℕ)) → i < n → IsTargetResult n w behind_head i (Some target)
      → IsProbe (Lists kind bytes) i (Some (get_or behind_head i 0, n)) (Lists kind target.now)
  branch_number i target h got pairs lists =
      let o = branch_opens lists n w table behind_head begins in
      let here = held_edge o.holds i h in
      let count = o.holds.count in
      let f = by_number (opens_parts lists o.opens) i (omega arith) in (
        ap Some (ap (λ b. (b, n)) (sym here) ∙ ap (λ k. (get_or o.edges i 0, k)) (sym count)) ∙ f.0,
        subst (λ t. Lists kind t (residual (get_or behind_head i 0) pairs)) (sym (target_is o.holds.has_targets i (Some target) h got))
            (subst (λ b. Lists kind (get_or o.targets i []) (residual b pairs)) here f.1),
      )

  pub branch_past_number : (i : ℕ) → n ≤ i → IsProbe (Lists kind bytes) i None (Lists kind [])
  branch_past_number i h pairs lists =
      let o = branch_opens lists n w table behind_head begins in
      let count = o.holds.count in
      past_number (opens_parts lists o.opens) i (omega arith)

  pub branch_no_target : (i : ℕ) → i < n → IsTargetResult n w behind_head i None → IsProbe (Lists kind bytes) i None (Lists kind [])
  branch_no_target i h got pairs lists = absurd (target_is (branch_opens lists n w table behind_head begins).holds.has_targets i None h got)

-- a number that is not read is no value
pub not_read : {A : Type 0} (r : Option A) (lead : ℕ) (rest bytes : List ℕ) → bytes ≡ lead ∷ rest
    → IfNone r ((metadata v : ℕ) (after : List ℕ) → BeginsWith 16 metadata v (lead ∷ rest) after → ⊥) → IfNone r (NoValue bytes)
not_read None lead rest bytes is none = λ v after b. none 4 v after (subst (λ x. BeginsWith 16 4 v x after) is b)
not_read (Some x) lead rest bytes is none = tt

-- a value in front
pub no_value_first : (bytes : List ℕ) → NoValueFirst bytes → NoValue bytes
no_value_first [] n v rest b = some_bytes 16 4 v rest b
no_value_first (start ∷ bytes) n v rest b = let lead = value_begins v start bytes rest b in n (omega arith)

without-front : (b : ℕ) (pairs more : Pairs) → without_value (with_front b pairs ++ more) ≡ with_front b pairs ++ without_value more
without-front b [] more = refl
without-front b (e ∷ pairs) more = ap (λ es. (b ∷ e.0, e.1) ∷ es) (without-front b pairs more)

pub each_without : {kind : Kind} {edges : List ℕ} {targets : List (List ℕ)} {pairs : Pairs} → ListEach kind edges targets pairs → without_value pairs ≡ pairs
each_without no_edge = refl
each_without (edge {e = e} {pairs = pairs} {more = more} n text each) = without-front e pairs more ∙ ap (λ es. with_front e pairs ++ es) (each_without each)

pub front_without : (b : ℕ) (pairs : Pairs) → without_value (with_front b pairs) ≡ with_front b pairs
front_without b [] = refl
front_without b (e ∷ pairs) = ap (λ es. (b ∷ e.0, e.1) ∷ es) (front_without b pairs)

pub run_without : (run : List ℕ) (pairs : Pairs) → (run ≡ [] → ⊥) → without_value (with_run run pairs) ≡ with_run run pairs
run_without [] pairs some = absurd (some refl)
run_without (b ∷ run) pairs some =
    let is = with_run-front b run pairs in
    ap without_value is ∙ front_without b (with_run run pairs) ∙ sym is

-- if none stands in front, no pair has the empty key
abbrev pub HasNoValue : Kind → Pairs → Type 0
HasNoValue kind pairs = (value_at kind pairs [] ≡ None) × (without_value pairs ≡ pairs)

pub no_value : {kind : Kind} {bytes : List ℕ} {pairs : Pairs} → Lists kind bytes pairs → NoValue bytes → HasNoValue kind pairs
no_value nothing n = (refl, refl)
no_value (value {v = v} {spelling = spelling} {rest = rest} s m text) n = absurd (n v rest (record { spelling = spelling; spells = s; bytes_are = refl }))
no_value {kind = kind} (literal {b = b} {pairs = pairs} low m text) n = (value_at-no_key kind b pairs, front_without b pairs)
no_value {kind = kind} (span {pairs = pairs} run h some high s m f text) n = (value_at-no_run kind run pairs some, run_without run pairs some)
no_value (branch i each) n = (behind_none each, each_without each)

pub take_some : (kind : Kind) (bytes : List ℕ) (v : ℕ) (rest : List ℕ) → BeginsWith 16 4 v bytes rest → IsTake kind (Lists kind bytes) (Some v) (Lists kind rest)
take_some kind bytes v rest begins pairs text =
    let h = value_opens text v rest begins in
    (ap (λ p. value_at kind p []) (sym h.is), subst (Lists kind rest) (ap without_value (sym h.is)) h.inner)

pub take_none : (kind : Kind) (bytes : List ℕ) → NoValue bytes → IsTake kind (Lists kind bytes) None (Lists kind bytes)
take_none kind bytes none pairs text =
    let n = no_value text none in
    (sym n.0, subst (Lists kind bytes) (sym n.1) text)

-- past a value the edges are the same
behind-value : (edge : Option ℕ) (v : ℕ) (pairs : Pairs) → behind edge (([], v) ∷ pairs) ≡ behind edge pairs
behind-value None v pairs = refl
behind-value (Some b) v pairs = refl

pub edges_past : (kind : Kind) (bytes rest : List ℕ) (v : ℕ) (after : List ℕ) → Begins kind rest (shapes.Shape.value v after) → HasTheEdges kind bytes rest → HasTheEdges kind bytes after
edges_past kind bytes rest v after begins has pairs text =
    let h = has pairs text in
    let o = value_opens h.1 v after begins in
    (o.below, o.inner, ap met (sym o.is) ∙ h.2, λ edge. sym (behind-value edge v o.below) ∙ ap (behind edge) (sym o.is) ∙ h.3 edge)

pub step_over : (kind : Kind) (bytes rest : List ℕ) (c : ℕ) (answer : Option ℕ) (After : Pairs → Type 0) → HasTheEdges kind bytes rest → IsStep kind (Lists kind rest) c answer After → IsStep kind (Lists kind bytes) c answer After
step_over kind bytes rest c answer After has s pairs text =
    let h = has pairs text in
    let r = s h.0 h.1 in
    (r.0 ∙ ap (edge_like kind c) h.2, subst After (h.3 answer) r.1)

pub probe_over : (kind : Kind) (bytes rest : List ℕ) (i : ℕ) (answer : Option (ℕ × ℕ)) (After : Pairs → Type 0) → HasTheEdges kind bytes rest → IsProbe (Lists kind rest) i answer After → IsProbe (Lists kind bytes) i answer After
probe_over kind bytes rest i answer After has s pairs text =
    let h = has pairs text in
    let r = s h.0 h.1 in
    (r.0 ∙ ap (nth_edge i) h.2, subst After (h.3 (option_map (λ a. a.0) answer)) r.1)

-- inside a run no value stands
pub inside_take : (kind : Kind) (place : Place) → (place.run ≡ [] → ⊥) → IsTake kind (ListsAt kind place) None (ListsAt kind place)
inside_take kind place some pairs lists = by place.run some lists
  where
    by : (run : List ℕ) → (run ≡ [] → ⊥) → ListsBehind kind run place.trie pairs → (None ≡ value_at kind pairs []) × ListsAt kind place (without_value pairs)
    by [] s l = absurd (s refl)
    by (b ∷ run) s l = (
      sym (ap (λ p. value_at kind p []) l.2 ∙ value_at-no_key kind b l.0),
      subst (ListsAt kind place) (sym (ap without_value l.2 ∙ front_without b l.0 ∙ sym l.2)) lists,
    )

-- with no run left, what a place lists, its text lists
pub place_text : (kind : Kind) (run trie : List ℕ) (pairs : Pairs) → run ≡ [] → ListsBehind kind run trie pairs → Lists kind trie pairs
place_text kind run trie pairs e lists = subst (λ r. ListsBehind kind r trie pairs) e lists

-- a place is empty exactly if it lists nothing
pub empty_listed : (kind : Kind) (run trie : List ℕ) (pairs : Pairs) → ListsBehind kind run trie pairs → pairs ≡ [] → (run ≡ []) × (trie ≡ [])
empty_listed kind [] [] pairs lists e = (refl, refl)
empty_listed kind [] (b ∷ trie) pairs lists e = absurd (lists_some lists (λ none. absurd (cc)) e)
empty_listed kind (b ∷ run) trie pairs lists e = absurd (front_some b lists.0 lists.1 (sym lists.2 ∙ e))
  where
    front_some : (c : ℕ) (below : Pairs) → (below ≡ [] → ⊥) → with_front c below ≡ [] → ⊥
    front_some c [] some none = some refl
    front_some c (x ∷ below) some none = absurd (cc)

-- a trie over ASCII keys has at most 128 edges
pub few_edges : {kind : Kind} {bytes : List ℕ} {pairs : Pairs} → IsAscii kind → Lists kind bytes pairs → length (met pairs) ≤ 128
few_edges ascii nothing = omega arith
few_edges ascii (value s m text) = few_edges ascii text
few_edges ascii (literal {b = b} {pairs = pairs} low m text) =
    omega (arith, ap length (ap met (sym (nil_end (with_front b pairs))) ∙ met_front b pairs [] (lists_some text m)))
few_edges {kind = kind} ascii (span run h some high s m f text) = absurd (let none = ascii_spanless kind ascii in cc)
few_edges {kind = kind} ascii (branch {edges = edges} i each) =
    let limit = edge_limit_is kind ascii in
    let count = rises_count kind edges (table_rises (ascii_sorted kind ascii (length edges)) i.is_table) (λ k d h. let low = i.edge_bytes k d h in omega arith) in
    omega (arith, ap length (met_each each (table_distinct i.is_table)))

-- a step or a probe of a trie with no spans leaves a text
pub step_text : (kind : Kind) (bytes : List ℕ) (c : ℕ) (answer : Option ℕ) (run trie : List ℕ) → run ≡ [] → IsStep kind (Lists kind bytes) c answer (ListsBehind kind run trie) → IsStep kind (Lists kind bytes) c answer (Lists kind trie)
step_text kind bytes c answer run trie none s = subst (λ r. IsStep kind (Lists kind bytes) c answer (ListsBehind kind r trie)) none s

-- how many edges a probe tells
told : (i b count : ℕ) (edges : List ℕ) → ◌≡◌ {A = Option (ℕ × ℕ)} (Some (b, count)) (nth_edge i edges) → count ≡ length edges
told i b count edges e = by (slice_get edges i) e
  where
    by : (o : Option ℕ) → ◌≡◌ {A = Option (ℕ × ℕ)} (Some (b, count)) (option_map (λ x. (x, length edges)) o) → count ≡ length edges
    by None e = absurd (cc)
    by (Some x) e = ap (λ (o : Option (ℕ × ℕ)). option_map_or (λ p. p.1) o 0) e

pub probe_text : (kind : Kind) → IsAscii kind → (bytes : List ℕ) (i b count least : ℕ) (run trie : List ℕ) → least ≡ min count 255 → run ≡ []
    → IsProbe (Lists kind bytes) i (Some (b, count)) (ListsBehind kind run trie) → IsProbe (Lists kind bytes) i (Some (b, least)) (Lists kind trie)
probe_text kind ascii bytes i b count least run trie is none p pairs text =
    let r = p pairs text in
    let few = few_edges ascii text in
    let all = told i b count (met pairs) r.0 in
    let same : least ≡ count = omega arith in
    (ap (λ n. Some (b, n)) same ∙ r.0, place_text kind run trie (residual b pairs) none r.1)

-- a place is empty exactly if neither a run nor a text is left, and it lists nothing exactly then
pub at_nowhere : (place : Place) → place.run ≡ [] → place.trie ≡ [] → place ≡ nowhere
at_nowhere place e f = ap (λ run. record { run = run; trie = place.trie }) e ∙ ap (λ trie. record { run = []; trie = trie }) f

pub tells_empty : (kind : Kind) (place : Place) (pairs : Pairs) → ListsAt kind place pairs → (b : Bool) → (IsTrue b → place ≡ nowhere) → (place ≡ nowhere → IsTrue b) → IsTrue b ↔ (pairs ≡ [])
tells_empty kind place pairs lists b empty is = (
  λ t. nothing_listed (subst (λ p. ListsAt kind p pairs) (empty t) lists) refl,
  λ e. (let none = empty_listed kind place.run place.trie pairs lists e in is (at_nowhere place none.0 none.1)),
)
