-- What breaks a rule: no node that keeps the rules, and no text.
use Rattle.std.proofs.Common.{◌≡◌, ℕ, zero, suc, ◌-◌, ◌≤◌, List, [], ◌∷◌, refl, sym, ◌∙◌, subst, arith, Option, Some, None, false, All, get_or, IfSome, option_map}
use Rattle.std.proofs.lemmas.List.Elements.{All-nil, All-cons, All-contains}
use Rattle.zerotrie_base.specs.Kind.{Kind, has_spans}
use Rattle.zerotrie_base.specs.Texts.{NoSpanFirst}
use Rattle.zerotrie_base.specs.Nodes.{Shape, Begins, BeginsBranch}
use Rattle.zerotrie_base.specs.Nodes.Shape.{value, literal, span, branch}
use Rattle.zerotrie_core.specs.Shapes.{shape}
use Rattle.zerotrie_core.specs.declared.node.Node.{Node}
use Rattle.zerotrie_core.specs.Faults.{Before, Fails, FaultIn, after, Fault, FaultCause}
use Rattle.zerotrie_core.specs.Faults as faults
use Rattle.zerotrie_core.specs.Faults.Before.{nothing, a_value, a_span, a_byte}
use Rattle.zerotrie_core.specs.Faults.FaultIn.{here, further}
use Rattle.zerotrie_core.specs.declared.faults.FaultCause.TheVariants.{NoNode, NoSpans, UnexpectedEnd, ValueAfterValue, SpanAfterSpan, EmptySpan, AsciiInSpan, WrongTable, WrongWidth, WrongOffsets}
use Rattle.zerotrie_core.specs.declared.well_formed.Expected.{Expected}
use Rattle.zerotrie_core.specs.declared.well_formed.Expected.TheVariants.{Anything, NoValue, NoSpan, Something}
use Rattle.zerotrie_core.specs.WellFormed.{IsWellFormed}
use Rattle.zerotrie_core.specs.well_formed.Testing.{IsText, IsAllowed}
use Rattle.zerotrie_core.specs.listing.Listed.{node_of, is_in_order, target_of}
use Rattle.zerotrie_core.specs.walk.Visits.{Part, after_node, target_part, target_parts, parts_behind}
use Rattle.zerotrie_core.specs.fault_search.Rules.{before_of, Keeps, KeepsFirst}
use Rattle.zerotrie_base.proofs.NodeLemmas.Nodes.{none_empty, branch_begins}
use Rattle.zerotrie_base.proofs.NumberLemmas.Numbers.{IsBytes, some_bytes}
use Rattle.zerotrie_core.proofs.NodeLemmas.Read.{node_begun, node_found, InSome, by_test}
use Rattle.zerotrie_core.proofs.WellFormedLemmas.Depth.{deep_no_node, each_at}
use Rattle.zerotrie_core.proofs.WellFormedLemmas.Steps.{value_first, literal_allowed, value_reduces, literal_reduces, span_reduces, span_high, span_unfit}
use Rattle.zerotrie_core.proofs.WellFormedLemmas.Pieces.{piece_is}
use Rattle.zerotrie_core.proofs.WellFormedLemmas.Branches.{opens_on, table_long, no_table, no_width, no_order}

-- what bytes are read as is the node that they begin with
pub one_node : (kind : Kind) (bytes : List ℕ) (s t : Shape) → node_of kind bytes ≡ Some t → Begins kind bytes s → s ≡ t
one_node kind bytes s t is b = some_is (sym (node_begun kind bytes s b) ∙ is)
  where
    some_is : Some s ≡ Some t → s ≡ t
    some_is e = cc

-- what bytes are read as begins them
pub node_begins : (kind : Kind) (bytes : List ℕ) (r : Option Shape) → IsBytes bytes → node_of kind bytes ≡ r → InSome (Begins kind bytes) r
node_begins kind bytes r is e = subst (InSome (Begins kind bytes)) e (node_found kind bytes is)

pub read_begins : (kind : Kind) (bytes : List ℕ) (r : Option Node) → IfSome r (λ node. Begins kind bytes (shape node)) → InSome (Begins kind bytes) (option_map shape r)
read_begins kind bytes None b = tt
read_begins kind bytes (Some node) b = b

-- what holds if there is something, by what does
pub some_by : {T : Type 0} {P Q : T → Type 0} (o : Option T) → ((x : T) → P x → Q x) → IfSome o P → IfSome o Q
some_by None f p = p
some_by (Some x) f p = f x p

after_value : (e : Expected) → before_of e ≡ a_value → e ≡ NoValue
after_value Anything is = absurd (cc)
after_value NoValue is = refl
after_value NoSpan is = absurd (cc)
after_value Something is = absurd (cc)

after_span : (e : Expected) → before_of e ≡ a_span → e ≡ NoSpan
after_span Anything is = absurd (cc)
after_span NoValue is = absurd (cc)
after_span NoSpan is = refl
after_span Something is = absurd (cc)

may_end : (e : Expected) → IsAllowed e [] → faults.MustGoOn (before_of e) → ⊥
may_end Anything allowed on = on
may_end NoValue allowed on = on
may_end NoSpan allowed on = allowed.0 refl
may_end Something allowed on = allowed refl

-- if no node is read, none begins
pub none_read : (kind : Kind) (bytes : List ℕ) (s : Shape) → node_of kind bytes ≡ None → Begins kind bytes s → ⊥
none_read kind bytes s none b = let e = sym (node_begun kind bytes s b) ∙ none in cc

pub branch_allowed : (kind : Kind) (n w : ℕ) (table behind : List ℕ) (e : Expected) (bytes : List ℕ) → BeginsBranch kind bytes n w table behind → IsAllowed e bytes
branch_allowed kind n w table behind e [] b = absurd (some_bytes 32 3 _ b.body b.begins)
branch_allowed kind n w table behind Anything (lead ∷ rest) b = tt
branch_allowed kind n w table behind NoValue (lead ∷ rest) b = let high = branch_begins _ lead rest b.body b.begins in λ four. omega arith
branch_allowed kind n w table behind NoSpan (lead ∷ rest) b = let high = branch_begins _ lead rest b.body b.begins in (λ none. cc, λ five. omega arith)
branch_allowed kind n w table behind Something (lead ∷ rest) b = λ none. cc

-- in a kind without spans no node begins where one would stand
none_there : (kind : Kind) (bytes : List ℕ) → has_spans kind ≡ false → (NoSpanFirst bytes → ⊥) → (s : Shape) → Begins kind bytes s → ⊥
none_there kind bytes spans first (value v rest) b = first (value_first v bytes rest b).1
none_there kind bytes spans first (literal c rest) b = first (literal_allowed kind c rest NoSpan bytes b).1
none_there kind bytes spans first (span run rest) b = let is = b.0 in cc
none_there kind bytes spans first (branch n w table behind) b = first (branch_allowed kind n w table behind NoSpan bytes b).1

not_empty : (bytes : List ℕ) → (NoSpanFirst bytes → ⊥) → bytes ≡ [] → ⊥
not_empty bytes first none = first (subst NoSpanFirst (sym none) tt)

-- if the text may end, it breaks no rule
pub end_keeps : (kind : Kind) (e : Expected) (bytes : List ℕ) (cause : FaultCause) → node_of kind bytes ≡ None → KeepsFirst kind e bytes None → Fails kind (before_of e) bytes cause → ⊥
end_keeps kind e bytes NoNode none keeps fails = fails.0 keeps.0
end_keeps kind e bytes NoSpans none keeps fails = not_empty bytes fails.1 keeps.0
end_keeps kind e bytes UnexpectedEnd none keeps fails = may_end e keeps.1 fails.1
end_keeps kind e bytes ValueAfterValue none keeps fails = none_read kind bytes (value fails.1.0 fails.1.1) none fails.1.2
end_keeps kind e bytes SpanAfterSpan none keeps fails = none_read kind bytes (span fails.1.0 fails.1.1) none fails.1.2
end_keeps kind e bytes EmptySpan none keeps fails = none_read kind bytes (span [] fails.0) none fails.1
end_keeps kind e bytes AsciiInSpan none keeps fails = none_read kind bytes (span fails.0 fails.1) none fails.2
end_keeps kind e bytes WrongTable none keeps fails = none_read kind bytes (branch fails.0 fails.1 fails.2 fails.3) none fails.4
end_keeps kind e bytes WrongWidth none keeps fails = none_read kind bytes (branch fails.0 fails.1 fails.2 fails.3) none fails.4
end_keeps kind e bytes WrongOffsets none keeps fails = none_read kind bytes (branch fails.0 fails.1 fails.2 fails.3) none fails.4

-- a node that keeps the rules breaks none
pub node_keeps : (kind : Kind) (e : Expected) (bytes : List ℕ) (s : Shape) (cause : FaultCause) → node_of kind bytes ≡ Some s → Begins kind bytes s → Keeps kind e s → Fails kind (before_of e) bytes cause → ⊥
node_keeps kind e bytes s NoNode is b keeps fails = fails.1 s b
node_keeps kind e bytes s NoSpans is b keeps fails = none_there kind bytes fails.0 fails.1 s b
node_keeps kind e bytes s UnexpectedEnd is b keeps fails = none_empty kind bytes fails.0 s b
node_keeps kind e bytes s ValueAfterValue is b keeps fails =
    let same = one_node kind bytes (value fails.1.0 fails.1.1) s is fails.1.2 in
    subst (Keeps kind e) (sym same) keeps (after_value e fails.0)
node_keeps kind e bytes s SpanAfterSpan is b keeps fails =
    let same = one_node kind bytes (span fails.1.0 fails.1.1) s is fails.1.2 in
    (subst (Keeps kind e) (sym same) keeps).0 (after_span e fails.0)
node_keeps kind e bytes s EmptySpan is b keeps fails =
    let same = one_node kind bytes (span [] fails.0) s is fails.1 in
    (subst (Keeps kind e) (sym same) keeps).1 refl
node_keeps kind e bytes s AsciiInSpan is b keeps fails =
    let same = one_node kind bytes (span fails.0 fails.1) s is fails.2 in
    fails.4 ((subst (Keeps kind e) (sym same) keeps).2)
node_keeps kind e bytes s WrongTable is b keeps fails =
    let same = one_node kind bytes (branch fails.0 fails.1 fails.2 fails.3) s is fails.4 in
    fails.5 ((subst (Keeps kind e) (sym same) keeps).0.has_table (table_long fails.0 fails.1 fails.2 fails.3 fails.4))
node_keeps kind e bytes s WrongWidth is b keeps fails =
    let same = one_node kind bytes (branch fails.0 fails.1 fails.2 fails.3) s is fails.4 in
    fails.5 ((subst (Keeps kind e) (sym same) keeps).0.is_width)
node_keeps kind e bytes s WrongOffsets is b keeps fails =
    let same = one_node kind bytes (branch fails.0 fails.1 fails.2 fails.3) s is fails.4 in
    fails.5 ((subst (Keeps kind e) (sym same) keeps).1)

-- what may stand after this
abbrev expected_of : Before → Expected
expected_of nothing = Anything
expected_of a_value = NoValue
expected_of a_span = NoSpan
expected_of a_byte = Something

no_end : (before : Before) (bytes : List ℕ) → bytes ≡ [] → faults.MustGoOn before → IsAllowed (expected_of before) bytes → ⊥
no_end nothing bytes none on allowed = on
no_end a_value bytes none on allowed = on
no_end a_span bytes none on allowed = allowed.0 none
no_end a_byte bytes none on allowed = allowed none

-- a text breaks no rule at its front
no_text_fails : (kind : Kind) (before : Before) (bytes : List ℕ) (cause : FaultCause) → Fails kind before bytes cause → IsAllowed (expected_of before) bytes → IsText kind bytes → ⊥
no_text_fails kind before bytes NoNode fails allowed text = fails.0 (deep_no_node text.1 fails.1).0
no_text_fails kind before bytes NoSpans fails allowed text = not_empty bytes fails.1 (deep_no_node text.1 (none_there kind bytes fails.0 fails.1)).0
no_text_fails kind before bytes UnexpectedEnd fails allowed text = no_end before bytes fails.0 fails.1 allowed
no_text_fails kind before bytes ValueAfterValue fails allowed text =
    (value_first fails.1.0 bytes fails.1.1 fails.1.2).2 (subst (λ x. IsAllowed (expected_of x) bytes) fails.0 allowed)
no_text_fails kind before bytes SpanAfterSpan fails allowed text =
    span_unfit kind fails.1.0 fails.1.1 NoSpan (λ other. other refl) bytes fails.1.2 (subst (λ x. IsAllowed (expected_of x) bytes) fails.0 allowed)
no_text_fails kind before bytes EmptySpan fails allowed text = (span_high kind [] fails.0 bytes fails.1 text).0 refl
no_text_fails kind before bytes AsciiInSpan fails allowed text = fails.4 (span_high kind fails.0 fails.1 bytes fails.2 text).1
no_text_fails kind before bytes WrongTable fails allowed text = no_table kind fails.0 fails.1 fails.2 fails.3 (λ long has. fails.5 has) bytes fails.4 text
no_text_fails kind before bytes WrongWidth fails allowed text = no_width kind fails.0 fails.1 fails.2 fails.3 fails.5 bytes fails.4 text
no_text_fails kind before bytes WrongOffsets fails allowed text = no_order kind fails.0 fails.1 fails.2 fails.3 fails.5 bytes fails.4 text

-- a part is a text that may stand after this
abbrev IsTextAfter : Kind → Before → Part → Type 0
IsTextAfter kind before at = IsAllowed (expected_of before) at.bytes × IsText kind at.bytes

-- the targets of a text
targets_text : (kind : Kind) (at : Part) (n w : ℕ) (table behind : List ℕ) → BeginsBranch kind at.bytes n w table behind → IsText kind at.bytes → (k : ℕ) → k ≤ n → All (IsTextAfter kind a_byte) (target_parts at n w behind k)
targets_text kind at n w table behind b text zero h = All-nil (IsTextAfter kind a_byte)
targets_text kind at n w table behind b text (suc k) h =
    let i = n - suc k in
    let t = target_part at n w behind i in
    let o = opens_on text.1 n w table behind b in
    let has = o.holds.has_targets in
    let there = each_at o.each i (let c = has.count in omega arith) in
    let is : target_of n w behind i ≡ get_or o.targets i [] = piece_is has i (omega arith) in
    by_test (All (IsTextAfter kind a_byte)) (is_in_order n w behind i) (t ∷ target_parts at n w behind k) []
    (λ _. All-cons (IsTextAfter kind a_byte) t (target_parts at n w behind k) (λ none. there.some (sym is ∙ none), subst (IsText kind) (sym is) (there.below, there.inner))
    (targets_text kind at n w table behind b text k (omega arith)))
    (λ _. All-nil (IsTextAfter kind a_byte))

one_text : (kind : Kind) (before : Before) (at : Part) → IsTextAfter kind before at → All (IsTextAfter kind before) (at ∷ [])
one_text kind before at text = All-cons (IsTextAfter kind before) at [] text (All-nil (IsTextAfter kind before))

-- and what follows its first node
behind_text : (kind : Kind) (at : Part) (s : Shape) → Begins kind at.bytes s → IsText kind at.bytes → All (IsTextAfter kind (after s)) (parts_behind at s)
behind_text kind at (value v rest) b text = let leads = (value_reduces kind v rest at.bytes b).there text.0 text.1 in one_text kind a_value (after_node at rest) (leads.allowed, (leads.below, leads.inner))
behind_text kind at (literal c rest) b text = let leads = (literal_reduces kind c rest at.bytes b).there text.0 text.1 in one_text kind a_byte (after_node at rest) (leads.allowed, (leads.below, leads.inner))
behind_text kind at (span run rest) b text =
    let high = span_high kind run rest at.bytes b text in
    let leads = (span_reduces kind run rest high.0 high.1 at.bytes b).there text.0 text.1 in
    one_text kind a_span (after_node at rest) (leads.allowed, (leads.below, leads.inner))
behind_text kind at (branch n w table behind) b text = targets_text kind at n w table behind b text n (omega arith)

-- if there is a fault, there is no text
no_text_faulty : {kind : Kind} {f : Fault} {before : Before} {at : Part} → FaultIn kind f before at → IsTextAfter kind before at → ⊥
no_text_faulty {kind = kind} {f = f} {before = before} {at = at} (here place fails) text = no_text_fails kind before at.bytes f.cause fails text.0 text.1
no_text_faulty {kind = kind} {at = at} (further {next = next} s b there inner) text =
    no_text_faulty inner (All-contains (IsTextAfter kind (after s)) (parts_behind at s) next (behind_text kind at s b text.1) there)

pub no_fault : (kind : Kind) (bytes : List ℕ) (f : Fault) → IsWellFormed kind bytes → faults.IsFault kind bytes f → ⊥
no_fault kind bytes f well fault = no_text_faulty fault (tt, (well.1.pairs, well.1.lists))
