-- What a node comes to in the test of bytes.
use Rattle.std.proofs.Common.{◌≡◌, ℕ, zero, suc, ◌+◌, ◌*◌, ◌%◌, ◌<◌, ◌≤◌, List, [], ◌∷◌, ◌++◌, length, drop, slice_index, get_or, refl, sym, subst, ap, arith, inl, inr}
use Rattle.std.specs.Prelude.{max}
use Rattle.zerotrie_base.specs.Kind.{Kind}
use Rattle.zerotrie_base.specs.Maps.{Pairs, with_front, with_run}
use Rattle.zerotrie_base.specs.Numbers.{BeginsWith}
use Rattle.zerotrie_base.specs.Texts.{Lists, NoValueFirst, NoSpanFirst, AreHigh}
use Rattle.zerotrie_base.specs.Texts.Lists.{nothing, value, literal, span, branch}
use Rattle.zerotrie_base.specs.Nodes.{Shape, Begins, BeginsSpan, BeginsBranch}
use Rattle.zerotrie_base.specs.Nodes as shapes
use Rattle.zerotrie_core.specs.WellFormed.{deep}
use Rattle.zerotrie_core.specs.well_formed.Testing.{IsText, IsAllowed, HasRest, ReducesTo, AlwaysReducesTo, AlwaysAllowed, BeginsValue, IsPastValue}
use Rattle.zerotrie_core.specs.declared.well_formed.Expected.{Expected}
use Rattle.zerotrie_core.specs.declared.well_formed.Expected.TheVariants.{Anything, NoValue, NoSpan, Something}
use Rattle.zerotrie_base.proofs.NumberLemmas.Numbers.{some_bytes, one_reading, cons_parts, after_shorter}
use Rattle.zerotrie_base.proofs.NodeLemmas.Nodes.{value_begins, span_begins, branch_begins, value_no_branch, value_no_span, span_no_branch}
use Rattle.zerotrie_base.proofs.NodeLemmas.Opened.{body_of, head_begins, same_parts}
use Rattle.zerotrie_core.proofs.WellFormedLemmas.Depth.{deep_some}

one_at_least : {kind : Kind} {bytes : List ℕ} {pairs : Pairs} (text : Lists kind bytes pairs) → deep text ≡ max 1 (deep text)
one_at_least text = let n = deep_some text in omega arith

leads_value : {kind : Kind} {bytes : List ℕ} {pairs : Pairs} (text : Lists kind bytes pairs) (v : ℕ) (rest : List ℕ) → BeginsWith 16 4 v bytes rest → HasRest text rest NoValue 1
leads_value nothing v rest b = absurd (some_bytes 16 4 v rest b)
leads_value (value {v = u} {spelling = spelling} {rest = after} s n text) v rest b =
    let one = one_reading 16 4 4 u v (spelling ++ after) after rest (record { spelling = spelling; spells = s; bytes_are = refl }) b in
    subst (λ r. HasRest (value s n text) r NoValue 1) one.1 (record { allowed = n; below = _; inner = text; counts = one_at_least text })
leads_value (literal {b = c} {rest = after} low n text) v rest b = absurd (let lead = value_begins v c after rest b in omega arith)
leads_value (span {spelling = spelling} {rest = after} run h some high s n f text) v rest b =
    absurd (value_no_span v (length run) (spelling ++ (run ++ after)) rest (run ++ after) b (record { spelling = spelling; spells = s; bytes_are = refl }))
leads_value (branch {bytes = bytes} i each) v rest b = absurd (value_no_branch v _ bytes rest _ b (head_begins i))

leads_literal : {kind : Kind} {bytes : List ℕ} {pairs : Pairs} (text : Lists kind bytes pairs) (c : ℕ) (rest : List ℕ) → c < 128 → bytes ≡ c ∷ rest → HasRest text rest Something 1
leads_literal nothing c rest low e = absurd (cc)
leads_literal (value {v = v} {spelling = spelling} {rest = after} s n text) c rest low e =
    absurd (let lead = value_begins v c rest after (record { spelling = spelling; spells = s; bytes_are = sym e }) in omega arith)
leads_literal (literal {b = b} {rest = after} low n text) c rest low' e =
    let is = cons_parts b c after rest e in
    subst (λ r. HasRest (literal {b = b} low n text) r Something 1) is.1 (record { allowed = n; below = _; inner = text; counts = one_at_least text })
leads_literal (span {spelling = spelling} {rest = after} run h some high s n f text) c rest low e =
    absurd (let lead = span_begins (length run) c rest (run ++ after) (record { spelling = spelling; spells = s; bytes_are = sym e }) in omega arith)
leads_literal (branch {edges = edges} i each) c rest low e =
    absurd (let lead = branch_begins _ c rest (body_of i) (subst (λ x. BeginsWith 32 3 (256 * i.width + length edges % 256) x (body_of i)) e (head_begins i)) in omega arith)

-- A text that begins with a span: its run is high and not empty.
record LeadsSpan {kind : Kind} {bytes : List ℕ} {pairs : Pairs} (text : Lists kind bytes pairs) (run rest : List ℕ) : Type 0 where
  some : run ≡ [] → ⊥
  high : AreHigh run
  leads : HasRest text rest NoSpan 1

leads_span : {kind : Kind} {bytes : List ℕ} {pairs : Pairs} (text : Lists kind bytes pairs) (run rest : List ℕ) → BeginsSpan bytes run rest → LeadsSpan text run rest
leads_span nothing run rest b = absurd (some_bytes 16 5 (length run) (run ++ rest) b)
leads_span (value {v = v} {spelling = spelling} {rest = after} s m text) run rest b =
    absurd (value_no_span v (length run) (spelling ++ after) after (run ++ rest) (record { spelling = spelling; spells = s; bytes_are = refl }) b)
leads_span (literal {b = c} {rest = after} low m text) run rest b = absurd (let lead = span_begins (length run) c after (run ++ rest) b in omega arith)
leads_span (span {spelling = spelling} {rest = after} {pairs = below} front h some high s m f text) run rest b =
    let one = one_reading 16 5 5 (length front) (length run) (spelling ++ (front ++ after)) (front ++ after) (run ++ rest) (record { spelling = spelling; spells = s; bytes_are = refl }) b in
    let parts = same_parts front run after rest one.0 one.1 in
    subst (λ r. LeadsSpan (span front h some high s m f text) run r) parts.1
    (subst (λ r. LeadsSpan (span front h some high s m f text) r after) parts.0
    (record { some = some; high = high; leads = record { allowed = (m, f); below = below; inner = text; counts = one_at_least text } }))
leads_span (branch {bytes = bytes} i each) run rest b = absurd (span_no_branch (length run) _ bytes (run ++ rest) _ b (head_begins i))

pub value_reduces : (kind : Kind) (v : ℕ) (rest : List ℕ) → AlwaysReducesTo kind (shapes.Shape.value v rest) rest NoValue 1
value_reduces kind v rest bytes b = record {
  there = λ pairs text. leads_value text v rest b;
  back = λ allowed text. (([], v) ∷ text.0, subst (λ x. Lists kind x (([], v) ∷ text.0)) (sym b.bytes_are) (value b.spells allowed text.1));
}

pub literal_reduces : (kind : Kind) (c : ℕ) (rest : List ℕ) → AlwaysReducesTo kind (shapes.Shape.literal c rest) rest Something 1
literal_reduces kind c rest bytes b = record {
  there = λ pairs text. leads_literal text c rest b.0 b.1;
  back = λ allowed text. (with_front c text.0, subst (λ x. Lists kind x (with_front c text.0)) (sym b.1) (literal b.0 allowed text.1));
}

pub span_reduces : (kind : Kind) (run rest : List ℕ) → (run ≡ [] → ⊥) → AreHigh run → AlwaysReducesTo kind (shapes.Shape.span run rest) rest NoSpan 1
span_reduces kind run rest some high bytes b = record {
  there = λ pairs text. (leads_span text run rest b.1).leads;
  back = λ allowed text. (with_run run text.0, subst (λ x. Lists kind x (with_run run text.0)) (sym b.1.bytes_are) (span run b.0 some high b.1.spells allowed.0 allowed.1 text.1));
}

pub span_high : (kind : Kind) (run rest bytes : List ℕ) → Begins kind bytes (shapes.Shape.span run rest) → IsText kind bytes → (run ≡ [] → ⊥) × AreHigh run
span_high kind run rest bytes b text = let leads = leads_span text.1 run rest b.1 in (leads.some, leads.high)

-- what each node may stand after
pub value_first : (v : ℕ) (bytes rest : List ℕ) → BeginsWith 16 4 v bytes rest → (bytes ≡ [] → ⊥) × NoSpanFirst bytes × (NoValueFirst bytes → ⊥)
value_first v [] rest b = absurd (some_bytes 16 4 v rest b)
value_first v (lead ∷ more) rest b = let is = value_begins v lead more rest b in (λ e. cc, λ five. omega arith, λ not. not (omega arith))

span_first : (n : ℕ) (bytes rest : List ℕ) → BeginsWith 16 5 n bytes rest → (bytes ≡ [] → ⊥) × NoValueFirst bytes × (NoSpanFirst bytes → ⊥)
span_first n [] rest b = absurd (some_bytes 16 5 n rest b)
span_first n (lead ∷ more) rest b = let is = span_begins n lead more rest b in (λ e. cc, λ four. omega arith, λ not. not (omega arith))

literal_first : (c : ℕ) (bytes rest : List ℕ) → c < 128 → bytes ≡ c ∷ rest → (bytes ≡ [] → ⊥) × NoValueFirst bytes × NoSpanFirst bytes
literal_first c [] rest low e = absurd (cc)
literal_first c (lead ∷ more) rest low e = let is = (cons_parts lead c more rest e).0 in (λ f. cc, λ four. omega arith, λ five. omega arith)

pub value_allowed : (kind : Kind) (v : ℕ) (rest : List ℕ) (expected : Expected) → (expected ≡ NoValue → ⊥) → AlwaysAllowed kind (shapes.Shape.value v rest) expected
value_allowed kind v rest Anything other bytes b = tt
value_allowed kind v rest NoValue other bytes b = absurd (other refl)
value_allowed kind v rest NoSpan other bytes b = let first = value_first v bytes rest b in (first.0, first.1)
value_allowed kind v rest Something other bytes b = (value_first v bytes rest b).0

pub value_unfit : (kind : Kind) (v : ℕ) (rest : List ℕ) (expected : Expected) → ((expected ≡ NoValue → ⊥) → ⊥) → (bytes : List ℕ) → Begins kind bytes (shapes.Shape.value v rest) → IsAllowed expected bytes → ⊥
value_unfit kind v rest Anything is bytes b allowed = is (λ e. cc)
value_unfit kind v rest NoValue is bytes b allowed = (value_first v bytes rest b).2 allowed
value_unfit kind v rest NoSpan is bytes b allowed = is (λ e. cc)
value_unfit kind v rest Something is bytes b allowed = is (λ e. cc)

pub literal_allowed : (kind : Kind) (c : ℕ) (rest : List ℕ) (expected : Expected) → AlwaysAllowed kind (shapes.Shape.literal c rest) expected
literal_allowed kind c rest Anything bytes b = tt
literal_allowed kind c rest NoValue bytes b = (literal_first c bytes rest b.0 b.1).1
literal_allowed kind c rest NoSpan bytes b = let first = literal_first c bytes rest b.0 b.1 in (first.0, first.2)
literal_allowed kind c rest Something bytes b = (literal_first c bytes rest b.0 b.1).0

pub span_allowed : (kind : Kind) (run rest : List ℕ) (expected : Expected) → (expected ≡ NoSpan → ⊥) → AlwaysAllowed kind (shapes.Shape.span run rest) expected
span_allowed kind run rest Anything other bytes b = tt
span_allowed kind run rest NoValue other bytes b = (span_first (length run) bytes (run ++ rest) b.1).1
span_allowed kind run rest NoSpan other bytes b = absurd (other refl)
span_allowed kind run rest Something other bytes b = (span_first (length run) bytes (run ++ rest) b.1).0

pub span_unfit : (kind : Kind) (run rest : List ℕ) (expected : Expected) → ((expected ≡ NoSpan → ⊥) → ⊥) → (bytes : List ℕ) → Begins kind bytes (shapes.Shape.span run rest) → IsAllowed expected bytes → ⊥
span_unfit kind run rest Anything is bytes b allowed = is (λ e. cc)
span_unfit kind run rest NoValue is bytes b allowed = is (λ e. cc)
span_unfit kind run rest NoSpan is bytes b allowed = (span_first (length run) bytes (run ++ rest) b.1).2 allowed.1
span_unfit kind run rest Something is bytes b allowed = is (λ e. cc)

-- one after another
pub reduces_more : {kind : Kind} {bytes rest after : List ℕ} {expected next : Expected} {most count : ℕ}
    → ReducesTo kind bytes rest expected most → IsAllowed expected rest → ReducesTo kind rest after next count → ReducesTo kind bytes after next (max most count)
reduces_more {most = most} {count = count} way allowed step = record {
  there = λ pairs text. (
      let leads = way.there pairs text in
      let further = step.there leads.below leads.inner in
      let a = leads.counts in
      let b = further.counts in
      record { allowed = further.allowed; below = further.below; inner = further.inner; counts = omega arith }
      );
  back = λ fits text. way.back allowed (step.back fits text);
}

-- a literal is a byte below 128
pub literal_there : (kind : Kind) (c : ℕ) (rest bytes : List ℕ) → Begins kind bytes (shapes.Shape.literal c rest) → (0 < length bytes) × (slice_index bytes 0 < 128)
literal_there kind c rest bytes b = subst (λ x. (0 < length x) × (slice_index x 0 < 128)) (sym b.1) (omega arith, b.0)

-- literals in front
pub literals_reduces : (kind : Kind) (n : ℕ) (bytes : List ℕ) → 0 < n → n ≤ length bytes → ((k : ℕ) → k < n → slice_index bytes k < 128) → ReducesTo kind bytes (drop n bytes) Something 1
literals_reduces kind zero bytes some within low = absurd (omega arith)
literals_reduces kind (suc n) [] some within low = absurd (omega arith)
literals_reduces kind (suc zero) (b ∷ rest) some within low = literal_reduces kind b rest (b ∷ rest) (low zero (omega arith), refl)
literals_reduces kind (suc (suc n)) (b ∷ []) some within low = absurd (omega arith)
literals_reduces kind (suc (suc n)) (b ∷ c ∷ rest) some within low =
    reduces_more (literal_reduces kind b (c ∷ rest) (b ∷ c ∷ rest) (low zero (omega arith), refl)) (λ e. cc) (literals_reduces kind (suc n) (c ∷ rest) (omega arith) (omega arith) (λ k h. low (suc k) (omega arith)))

-- if there is nothing, no node begins
pub no_bytes : (kind : Kind) (s : Shape) → Begins kind [] s → ⊥
no_bytes kind (shapes.Shape.value v rest) b = some_bytes 16 4 v rest b
no_bytes kind (shapes.Shape.literal c rest) b = let e = b.1 in cc
no_bytes kind (shapes.Shape.span run rest) b = some_bytes 16 5 (length run) (run ++ rest) b.1
no_bytes kind (shapes.Shape.branch n w table behind) b = some_bytes 32 3 _ b.body b.begins

-- where it begins what allowed may stand
pub reduces_at : (kind : Kind) (bytes : List ℕ) (expected : Expected) → IsAllowed expected bytes → ReducesTo kind bytes bytes expected 1
reduces_at kind bytes expected allowed = record {
  there = λ pairs text. record { allowed = allowed; below = pairs; inner = text; counts = one_at_least text };
  back = λ allowed text. text;
}

-- literals, if there are some
pub literals_passed : (kind : Kind) (n : ℕ) (bytes : List ℕ) → (bytes ≡ [] → ⊥) → n ≤ length bytes → ((k : ℕ) → k < n → slice_index bytes k < 128) → ReducesTo kind bytes (drop n bytes) Something 1
literals_passed kind zero bytes some within low = reduces_at kind bytes Something some
literals_passed kind (suc n) bytes some within low = literals_reduces kind (suc n) bytes (omega arith) within low

-- and a value
pub value_passed : (kind : Kind) (n : ℕ) (bytes after : List ℕ) → (bytes ≡ [] → ⊥) → n ≤ length bytes → ((k : ℕ) → k < n → slice_index bytes k < 128) → BeginsValue (drop n bytes) after → ReducesTo kind bytes after NoValue 1
value_passed kind n bytes after some within low b =
    reduces_more (literals_passed kind n bytes some within low) (λ none. some_bytes 16 4 b.0 after (subst (λ x. BeginsWith 16 4 b.0 x after) none b.1)) (value_reduces kind b.0 after (drop n bytes) b.1)

-- literals, if there are some, and a value, if there is one
pub past_reduces : (kind : Kind) (n : ℕ) (bytes after : List ℕ) (expected : Expected) → (bytes ≡ [] → ⊥) → n ≤ length bytes → ((k : ℕ) → k < n → slice_index bytes k < 128)
    → IsPastValue (drop n bytes) after expected → ReducesTo kind bytes after expected 1
past_reduces kind n bytes after expected some within low (inl told) = subst (λ e. ReducesTo kind bytes after e 1) (sym told.1) (value_passed kind n bytes after some within low told.0)
past_reduces kind n bytes after expected some within low (inr same) =
    subst (λ e. ReducesTo kind bytes after e 1) (sym same.1) (subst (λ x. ReducesTo kind bytes x Something 1) (sym same.0) (literals_passed kind n bytes some within low))

-- what is past a value is no longer than what was there
pub past_within : (bytes after : List ℕ) (expected : Expected) → IsPastValue bytes after expected → length after ≤ length bytes
past_within bytes after expected (inl told) = let less = after_shorter 16 4 told.0.0 bytes after told.0.1 in omega arith
past_within bytes after expected (inr same) = let is = ap length same.0 in omega arith

-- a literal may stand anywhere
pub low_first : (kind : Kind) (bytes : List ℕ) (b : ℕ) (expected : Expected) → 0 < length bytes → b ≡ get_or bytes 0 b → b < 128 → (bytes ≡ [] → ⊥) × IsAllowed expected bytes
low_first kind [] b expected some is low = absurd (omega arith)
low_first kind (c ∷ rest) b expected some is low = (λ none. cc, literal_allowed kind c rest expected (c ∷ rest) (omega arith, refl))
