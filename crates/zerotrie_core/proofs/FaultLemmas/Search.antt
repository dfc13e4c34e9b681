-- What the search for a fault knows on its way.
use Rattle.std.proofs.Common.{◌≡◌, ℕ, zero, suc, ◌+◌, ◌-◌, ◌*◌, ◌<◌, ◌≤◌, List, [], ◌∷◌, ◌++◌, length, take, map, reverse, refl, sym, ◌∙◌, ap, subst, arith, Option, Some, None, Contains, get_or, ◌⊎◌, inl, inr}
use Rattle.std.proofs.lemmas.List.{length-take-le, length-drop, reverse-append}
use Rattle.std.proofs.lemmas.Bool.{cases_lt}
use Rattle.zerotrie_base.specs.Kind.{Kind}
use Rattle.zerotrie_base.specs.Branches.{before_edges}
use Rattle.zerotrie_base.specs.Texts as texts
use Rattle.zerotrie_base.specs.Nodes.{Shape, Begins, BeginsBranch}
use Rattle.zerotrie_base.specs.Nodes.Shape.{value, literal, span, branch}
use Rattle.zerotrie_core.specs.Faults.{Before, Fails, FaultIn, IsFault, IsFirstFault, after, Fault}
use Rattle.zerotrie_core.specs.Faults.Before.{a_value, a_span, a_byte}
use Rattle.zerotrie_core.specs.Faults.FaultIn.{here, further}
use Rattle.zerotrie_core.specs.declared.well_formed.Expected.{Expected}
use Rattle.zerotrie_core.specs.declared.well_formed.Expected.TheVariants.{Something}
use Rattle.zerotrie_core.specs.well_formed.Branching.{InOrder, HasFront}
use Rattle.zerotrie_core.specs.well_formed.Testing.{IsText, IsAllowed}
use Rattle.zerotrie_core.specs.listing.Listed.{node_of, target_of}
use Rattle.zerotrie_core.specs.walk.Seen.{part_of}
use Rattle.zerotrie_core.specs.declared.walk.part.Part as parts
use Rattle.zerotrie_core.specs.walk.Visits.{Part, after_node, target_parts, parts_behind}
use Rattle.zerotrie_core.specs.fault_search.Rules.{before_of, expected_after, Keeps, KeepsFirst, parts_next, expected_next}
use Rattle.zerotrie_base.proofs.NodeLemmas.Tables.{table_parts}
use Rattle.zerotrie_core.proofs.NodeLemmas.Read.{InSome}
use Rattle.zerotrie_core.proofs.WalkLemmas.Visits.{behind_within}
use Rattle.zerotrie_core.proofs.WellFormedLemmas.Depth.{each_from}
use Rattle.zerotrie_core.proofs.WellFormedLemmas.Steps.{value_reduces, value_allowed, literal_reduces, literal_allowed, span_reduces, span_allowed}
use Rattle.zerotrie_core.proofs.WellFormedLemmas.Pieces.{pieces, length-pieces, get_or-pieces}
use Rattle.zerotrie_core.proofs.WellFormedLemmas.Branches.{sound_is}
use Rattle.zerotrie_core.proofs.FaultLemmas.Rules.{one_node, none_read, branch_allowed, end_keeps, node_keeps}
use Rattle.zerotrie_core.proofs.FaultLemmas.Rows.{InRow, row_earlier, row_more, row_within, work, work-append, next_part, behind_row, behind_work, fault_later}

-- One of the parts has the fault. The first of them stands after this, and each other after the byte of an edge.
abbrev pub Left : Kind → Fault → Before → List Part → Type 0
Left kind f before [] = ⊥
Left kind f before (p ∷ ps) = FaultIn kind f before p ⊎ Left kind f a_byte ps

-- The parts are texts. In the first of them this may stand, and each other is not empty.
abbrev pub AllTexts : Kind → Expected → List Part → Type 0
AllTexts kind e [] = Unit {0}
AllTexts kind e (p ∷ ps) = IsAllowed e p.bytes × IsText kind p.bytes × AllTexts kind Something ps

-- one of these, each of which stands after this, has it
abbrev AnyHas : Kind → Fault → Before → List Part → Type 0
AnyHas kind f before ps = (p : Part) × Contains ps p × FaultIn kind f before p

any_left : (kind : Kind) (f : Fault) (k : ℕ) (ps qs : List Part) (p : Part) → k < length ps → get_or ps k p ≡ p → FaultIn kind f a_byte p → Left kind f a_byte (ps ++ qs)
any_left kind f k [] qs p h e x = absurd (omega arith)
any_left kind f zero (q ∷ ps) qs p h e x = inl (subst (FaultIn kind f a_byte) (sym e) x)
any_left kind f (suc k) (q ∷ ps) qs p h e x = inr (any_left kind f k ps qs p (omega arith) e x)

later_has : (kind : Kind) (f : Fault) (q : Part) (ps qs : List Part) → AnyHas kind f a_byte ps ⊎ Left kind f a_byte qs → AnyHas kind f a_byte (q ∷ ps) ⊎ Left kind f a_byte qs
later_has kind f q ps qs (inl a) = inl (a.0, (suc a.1.0, (let h = a.1.1 in omega arith), a.1.2), a.2)
later_has kind f q ps qs (inr more) = inr more

left_any : (kind : Kind) (f : Fault) (ps qs : List Part) → Left kind f a_byte (ps ++ qs) → AnyHas kind f a_byte ps ⊎ Left kind f a_byte qs
left_any kind f [] qs l = inr l
left_any kind f (q ∷ ps) qs (inl x) = inl (q, (0, omega arith, refl), x)
left_any kind f (q ∷ ps) qs (inr l) = later_has kind f q ps qs (left_any kind f ps qs l)

left_more : (kind : Kind) (f : Fault) (ps qs : List Part) → Left kind f a_byte qs → Left kind f a_byte (ps ++ qs)
left_more kind f [] qs l = l
left_more kind f (q ∷ ps) qs l = inr (left_more kind f ps qs l)

-- one part alone
one_left : (kind : Kind) (f : Fault) (before : Before) (p : Part) (qs : List Part) → Left kind f before (p ∷ qs) → AnyHas kind f before (p ∷ []) ⊎ Left kind f a_byte qs
one_left kind f before p qs (inl x) = inl (p, (0, omega arith, refl), x)
one_left kind f before p qs (inr l) = inr l

one_has : (kind : Kind) (f : Fault) (before : Before) (p : Part) (qs : List Part) → AnyHas kind f before (p ∷ []) → Left kind f before (p ∷ qs)
one_has kind f before p qs a = inl (subst (FaultIn kind f before) (sym (only a.0 a.1.0 a.1.1 a.1.2)) a.2)
  where
    only : (q : Part) (k : ℕ) → k < 1 → get_or (p ∷ []) k q ≡ q → p ≡ q
    only q zero h e = e
    only q (suc k) h e = absurd (omega arith)

-- what follows a node, in front of the other parts
left_behind : (kind : Kind) (f : Fault) (at : Part) (s : Shape) (qs : List Part) → Left kind f (after s) (parts_behind at s ++ qs) → AnyHas kind f (after s) (parts_behind at s) ⊎ Left kind f a_byte qs
left_behind kind f at (value v rest) qs l = one_left kind f a_value (after_node at rest) qs l
left_behind kind f at (literal c rest) qs l = one_left kind f a_byte (after_node at rest) qs l
left_behind kind f at (span run rest) qs l = one_left kind f a_span (after_node at rest) qs l
left_behind kind f at (branch n w table behind) qs l = left_any kind f (target_parts at n w behind n) qs l

behind_left : (kind : Kind) (f : Fault) (at : Part) (s : Shape) (qs : List Part) → AnyHas kind f (after s) (parts_behind at s) → Left kind f (after s) (parts_behind at s ++ qs)
behind_left kind f at (value v rest) qs a = one_has kind f a_value (after_node at rest) qs a
behind_left kind f at (literal c rest) qs a = one_has kind f a_byte (after_node at rest) qs a
behind_left kind f at (span run rest) qs a = one_has kind f a_span (after_node at rest) qs a
behind_left kind f at (branch n w table behind) qs a = any_left kind f a.1.0 (target_parts at n w behind n) qs a.0 a.1.1 a.1.2 a.2

rest_left : (kind : Kind) (f : Fault) (at : Part) (s : Shape) (qs : List Part) → Left kind f a_byte qs → Left kind f (after s) (parts_behind at s ++ qs)
rest_left kind f at (value v rest) qs l = inr l
rest_left kind f at (literal c rest) qs l = inr l
rest_left kind f at (span run rest) qs l = inr l
rest_left kind f at (branch n w table behind) qs l = left_more kind f (target_parts at n w behind n) qs l

same_before : (s : Shape) → after s ≡ before_of (expected_after s)
same_before (value v rest) = refl
same_before (literal c rest) = refl
same_before (span run rest) = refl
same_before (branch n w table behind) = refl

-- a fault of a part whose front keeps the rules lies in what follows
inner_has : {kind : Kind} {f : Fault} {before : Before} {at : Part} → FaultIn kind f before at → (Fails kind before at.bytes f.cause → ⊥) → (s : Shape) → node_of kind at.bytes ≡ Some s
    → AnyHas kind f (after s) (parts_behind at s)
inner_has (here place fails) keeps s is = absurd (keeps fails)
inner_has {kind = kind} {f = f} {at = at} (further {next = next} t b there inner) keeps s is =
    subst (λ x. AnyHas kind f (after x) (parts_behind at x)) (one_node kind at.bytes t s is b) (next, there, inner)

none_inner : {kind : Kind} {f : Fault} {before : Before} {at : Part} → FaultIn kind f before at → (Fails kind before at.bytes f.cause → ⊥) → node_of kind at.bytes ≡ None → ⊥
none_inner (here place fails) keeps none = keeps fails
none_inner {kind = kind} {at = at} (further t b there inner) keeps none = none_read kind at.bytes t none b

-- a branch with targets that are texts is one
branch_long : (kind : Kind) (bytes : List ℕ) (n w : ℕ) (table behind : List ℕ) → BeginsBranch kind bytes n w table behind → n + w * (n - 1) ≤ length behind
branch_long kind bytes n w table behind b =
    let parts = table_parts kind n in
    let len = length-drop (before_edges kind n) b.body in
    let is = ap length b.behind_is in
    let holds = b.holds in
    omega arith

abbrev IsTarget : Kind → List ℕ → Type 0
IsTarget kind target = (target ≡ [] → ⊥) × IsText kind target

targets_texts : (kind : Kind) (at : Part) (n w : ℕ) (behind : List ℕ) (order : InOrder n w behind n) (qs : List Part) (k : ℕ) → k ≤ n → AllTexts kind Something (target_parts at n w behind k ++ qs)
    → ((d : ℕ) → d < k → IsTarget kind (target_of n w behind (n - suc d))) × AllTexts kind Something qs
targets_texts kind at n w behind order qs zero h all = (λ d l. absurd (omega arith), all)
targets_texts kind at n w behind order qs (suc k) h all =
    let parts = subst (λ ps. AllTexts kind Something (ps ++ qs)) (next_part at n w behind order k h) all in
    let more = targets_texts kind at n w behind order qs k (omega arith) parts.2 in (
      λ d l. elim (cases_lt d k) [
        | inl less ↦ more.0 d less
        | inr not ↦ (let same : k ≡ d = omega arith in subst (λ x. IsTarget kind (target_of n w behind (n - suc x))) same (parts.0, parts.1))
      ],
      more.1,
    )

branch_text : (kind : Kind) (bytes : List ℕ) (n w : ℕ) (table behind : List ℕ) → BeginsBranch kind bytes n w table behind → HasFront kind n w table behind → InOrder n w behind n
    → ((i : ℕ) → i < n → IsTarget kind (target_of n w behind i)) → IsText kind bytes
branch_text kind bytes n w table behind b front order each =
    let long = branch_long kind bytes n w table behind b in
    let count = length-pieces n w behind in
    let targets = each_from kind (take n behind) (pieces n w behind) (count ∙ sym (length-take-le n behind (omega arith)))
    (λ i l. (let h : i < n = omega arith in let is = get_or-pieces n w behind i h in let t = each i h in (λ none. t.0 (sym is ∙ none), subst (IsText kind) (sym is) t.1))) in
    (targets.0, texts.Lists.branch (sound_is front order long b.two b.some b) targets.1)

-- a node that keeps the rules, with texts after it, is a text
node_text : (kind : Kind) (e : Expected) (at : Part) (s : Shape) (qs : List Part) → Begins kind at.bytes s → Keeps kind e s → AllTexts kind (expected_after s) (parts_behind at s ++ qs) → AllTexts kind e (at ∷ qs)
node_text kind e at (value v rest) qs b keeps all = (value_allowed kind v rest e keeps at.bytes b, (value_reduces kind v rest at.bytes b).back all.0 all.1, all.2)
node_text kind e at (literal c rest) qs b keeps all = (literal_allowed kind c rest e at.bytes b, (literal_reduces kind c rest at.bytes b).back all.0 all.1, all.2)
node_text kind e at (span run rest) qs b keeps all = (span_allowed kind run rest e keeps.0 at.bytes b, (span_reduces kind run rest keeps.1 keeps.2 at.bytes b).back all.0 all.1, all.2)
node_text kind e at (branch n w table behind) qs b keeps all =
    let split = targets_texts kind at n w behind keeps.1 qs n (omega arith) all in (
      branch_allowed kind n w table behind e at.bytes b,
      branch_text kind at.bytes n w table behind b keeps.0 keeps.1
          (λ i h. (let back : n - suc (n - suc i) ≡ i = omega arith in subst (λ x. IsTarget kind (target_of n w behind x)) back (split.0 (n - suc i) (omega arith)))),
      split.1,
    )

-- What is known of the parts that are left: they have the faults of the bytes, and no others; if they are texts, the bytes are one; and
-- they lie one after another.
pub record Searched (kind : Kind) (bytes : List ℕ) (e : Expected) (ps : List Part) : Type 0 where
  pub sound : (f : Fault) → Left kind f (before_of e) ps → IsFault kind bytes f
  pub complete : (f : Fault) → IsFault kind bytes f → Left kind f (before_of e) ps
  pub back : AllTexts kind e ps → IsText kind bytes
  pub row : InRow 0 (length bytes) ps

searched_end : (kind : Kind) (bytes : List ℕ) (e : Expected) (at : Part) (qs : List Part) → Searched kind bytes e (at ∷ qs) → node_of kind at.bytes ≡ None → KeepsFirst kind e at.bytes None → Searched kind bytes Something qs
searched_end kind bytes e at qs so_far none keeps = record {
  sound = λ f l. so_far.sound f (inr l);
  complete = λ f x. (elim (so_far.complete f x) [
    | inl inside ↦ absurd (none_inner inside (end_keeps kind e at.bytes f.cause none keeps) none)
    | inr more ↦ more
  ]);
  back = λ all. so_far.back (subst (IsAllowed e) (sym keeps.0) keeps.1, subst (IsText kind) (sym keeps.0) ([], texts.Lists.nothing), all);
  row = row_earlier (at.place + length at.bytes) 0 (length bytes) qs (omega arith) so_far.row.1;
}

searched_node : (kind : Kind) (bytes : List ℕ) (e : Expected) (at : Part) (s : Shape) (qs : List Part) → Searched kind bytes e (at ∷ qs) → node_of kind at.bytes ≡ Some s → Begins kind at.bytes s → Keeps kind e s
    → Searched kind bytes (expected_after s) (parts_behind at s ++ qs)
searched_node kind bytes e at s qs so_far is b keeps = record {
  sound = λ f l. (elim (left_behind kind f at s qs (subst (λ x. Left kind f x (parts_behind at s ++ qs)) (sym (same_before s)) l)) [
    | inl a ↦ so_far.sound f (inl (further s b a.1 a.2))
    | inr more ↦ so_far.sound f (inr more)
  ]);
  complete = λ f x. subst (λ y. Left kind f y (parts_behind at s ++ qs)) (same_before s) (elim (so_far.complete f x) [
    | inl inside ↦ behind_left kind f at s qs (inner_has inside (node_keeps kind e at.bytes s f.cause is b keeps) s is)
    | inr more ↦ rest_left kind f at s qs more
  ]);
  back = λ all. so_far.back (node_text kind e at s qs b keeps all);
  row = row_more 0 (at.place + length at.bytes) (length bytes) (parts_behind at s) qs
      (row_earlier at.place 0 (at.place + length at.bytes) (parts_behind at s) (omega arith) (behind_row kind e at s (behind_within kind at.bytes s is) keeps)) so_far.row.1;
}

-- going on to the next part
pub searched_next : (kind : Kind) (bytes : List ℕ) (e : Expected) (at : Part) (r : Option Shape) (qs : List Part) → Searched kind bytes e (at ∷ qs) → node_of kind at.bytes ≡ r → InSome (Begins kind at.bytes) r
    → KeepsFirst kind e at.bytes r → Searched kind bytes (expected_next r) (parts_next at r ++ qs)
searched_next kind bytes e at None qs so_far is b keeps = searched_end kind bytes e at qs so_far is keeps
searched_next kind bytes e at (Some s) qs so_far is b keeps = searched_node kind bytes e at s qs so_far is b keeps

pub next_less : (kind : Kind) (e : Expected) (at : Part) (r : Option Shape) (qs : List Part) → node_of kind at.bytes ≡ r → KeepsFirst kind e at.bytes r → work (parts_next at r ++ qs) < work (at ∷ qs)
next_less kind e at None qs is keeps = omega arith
next_less kind e at (Some s) qs is keeps =
    let all = work-append (parts_behind at s) qs in
    let less = behind_work kind e at s (behind_within kind at.bytes s is) keeps in
    omega arith

-- a fault of parts in a row does not stand before them
left_later : (kind : Kind) (f : Fault) (before : Before) (from to : ℕ) (ps : List Part) → InRow from to ps → Left kind f before ps → from ≤ f.place
left_later kind f before from to [] row l = absurd l
left_later kind f before from to (p ∷ ps) row (inl x) = let later = fault_later x in let low = row.0 in omega arith
left_later kind f before from to (p ∷ ps) row (inr l) = let later = left_later kind f a_byte (p.place + length p.bytes) to ps row.1 l in let low = row.0 in omega arith

-- a fault at the front of the first part is the first
pub searched_fault : (kind : Kind) (bytes : List ℕ) (e : Expected) (at : Part) (qs : List Part) (f : Fault) → Searched kind bytes e (at ∷ qs) → f.place ≡ at.place → Fails kind (before_of e) at.bytes f.cause → IsFirstFault kind bytes f
searched_fault kind bytes e at qs f so_far place fails = (
  so_far.sound f (inl (here place fails)),
  λ other x. (let later = left_later kind other (before_of e) at.place (length bytes) (at ∷ qs) (omega arith, so_far.row.1) (so_far.complete other x) in omega arith),
)

-- and lies in the bytes
pub searched_within : (kind : Kind) (bytes : List ℕ) (e : Expected) (at : Part) (qs : List Part) → Searched kind bytes e (at ∷ qs) → at.place ≤ length bytes
searched_within kind bytes e at qs so_far = let within = row_within (at.place + length at.bytes) (length bytes) qs so_far.row.1 in omega arith

-- the part that was taken off the end comes first
pub popped : (items rest : List parts.Part) (p : parts.Part) → items ≡ rest ++ p ∷ [] → map part_of (reverse items) ≡ part_of p ∷ map part_of (reverse rest)
popped items rest p is = ap (λ ps. map part_of (reverse ps)) is ∙ ap (map part_of) (reverse-append rest (p ∷ []))
