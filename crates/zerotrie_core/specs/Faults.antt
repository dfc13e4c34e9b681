-- Where bytes are malformed, and which rule of the format fails there.
use Rattle.std.specs.Prelude.{◌≡◌, ◌≢◌, ℕ, ◌-◌, ◌<◌, ◌≤◌, List, [], length, All, take, codes, false}
use Rattle.std.specs.List.{Contains}
use Rattle.zerotrie_base.specs.Kind.{Kind, edge_limit, has_spans}
use Rattle.zerotrie_base.specs.Branches.{IsTable, IsWidth}
use Rattle.zerotrie_base.specs.Texts.{NoSpanFirst, AreHigh}
use Rattle.zerotrie_base.specs.Nodes.{Shape, Begins, targets_behind, begin_of, end_of}
use Rattle.zerotrie_base.specs.Nodes.Shape.{value, literal, span, branch}
use Rattle.zerotrie_core.specs.WellFormed.{IsWellFormed}
use Rattle.zerotrie_core.specs.walk.Visits.{Part, whole, parts_behind}
pub use Rattle.zerotrie_core.specs.declared.faults.Fault.{Fault}
pub use Rattle.zerotrie_core.specs.declared.faults.FaultCause.{FaultCause}
pub use Rattle.zerotrie_core.specs.declared.faults.FaultCause.TheVariants.{NoNode, NoSpans, UnexpectedEnd, ValueAfterValue, SpanAfterSpan, EmptySpan, AsciiInSpan, WrongTable, WrongWidth, WrongOffsets}

-- What is before some bytes of an encoding: nothing, a value, a span, or a byte, which is a literal
-- or an edge.
pub data Before : Type 0 where
  nothing : Before
  a_value : Before
  a_span : Before
  a_byte : Before

-- what a node is to the bytes that follow it
abbrev pub after : Shape → Before
after (value v rest) = a_value
after (literal b rest) = a_byte
after (span run rest) = a_span
after (branch n w table behind) = a_byte

-- the encoding may not end after this
abbrev pub MustGoOn : Before → Type 0
MustGoOn nothing = ⊥
MustGoOn a_value = ⊥
MustGoOn a_span = Unit {0}
MustGoOn a_byte = Unit {0}

-- the search table of a branch is one of the kind, for edges that the kind may have
abbrev pub IsRightTable : Kind → ℕ → List ℕ → List ℕ → Type 0
IsRightTable kind n table behind = IsTable kind (take n behind) table × All (λ b. b < edge_limit kind) (take n behind)

-- its offsets have the least width
abbrev pub IsRightWidth : ℕ → ℕ → List ℕ → Type 0
IsRightWidth n w behind = IsWidth (length (targets_behind n w behind)) (w - 1)

-- by its offsets each target has bytes and ends within the branch
abbrev pub AreRightOffsets : ℕ → ℕ → List ℕ → Type 0
AreRightOffsets n w behind =
    (i : ℕ) → i < n → (begin_of n w behind i < end_of n w behind i) × (end_of n w behind i ≤ length (targets_behind n w behind))

-- the rule in words
abbrev pub rule_text : FaultCause → List ℕ
rule_text NoNode = codes "no whole node of this kind of trie begins here"
rule_text NoSpans = codes "a span stands in a kind of trie that has none"
rule_text UnexpectedEnd = codes "the bytes end where a key has to go on"
rule_text ValueAfterValue = codes "a value follows a value"
rule_text SpanAfterSpan = codes "a span follows a span"
rule_text EmptySpan = codes "a span is empty"
rule_text AsciiInSpan = codes "a span has an ASCII byte"
rule_text WrongTable = codes "the search table of a branch is not one of this kind of trie"
rule_text WrongWidth = codes "the offsets of a branch do not have the least width"
rule_text WrongOffsets = codes "the offsets of a branch do not ascend within its targets"

-- the bytes begin with a branch of which this is true
abbrev pub BeginsBranchWith : Kind → List ℕ → (ℕ → ℕ → List ℕ → List ℕ → Type 0) → Type 0
BeginsBranchWith kind bytes Fact =
    (n : ℕ) × (w : ℕ) × (table : List ℕ) × (behind : List ℕ) × Begins kind bytes (branch n w table behind) × Fact n w table behind

-- the rule of the cause fails at the beginning of bytes that come after this
abbrev pub Fails : Kind → Before → List ℕ → FaultCause → Type 0
Fails kind before bytes NoNode = (bytes ≢ []) × ((node : Shape) → Begins kind bytes node → ⊥) × (has_spans kind ≡ false → NoSpanFirst bytes)
Fails kind before bytes NoSpans = (has_spans kind ≡ false) × (NoSpanFirst bytes → ⊥)
Fails kind before bytes UnexpectedEnd = (bytes ≡ []) × MustGoOn before
Fails kind before bytes ValueAfterValue = (before ≡ a_value) × ((v : ℕ) × (rest : List ℕ) × Begins kind bytes (value v rest))
Fails kind before bytes SpanAfterSpan = (before ≡ a_span) × ((run : List ℕ) × (rest : List ℕ) × Begins kind bytes (span run rest))
Fails kind before bytes EmptySpan = (rest : List ℕ) × Begins kind bytes (span [] rest)
Fails kind before bytes AsciiInSpan = (run : List ℕ) × (rest : List ℕ) × Begins kind bytes (span run rest) × (run ≢ []) × (AreHigh run → ⊥)
Fails kind before bytes WrongTable = BeginsBranchWith kind bytes (λ n w table behind. IsRightTable kind n table behind → ⊥)
Fails kind before bytes WrongWidth = BeginsBranchWith kind bytes (λ n w table behind. IsRightWidth n w behind → ⊥)
Fails kind before bytes WrongOffsets = BeginsBranchWith kind bytes (λ n w table behind. AreRightOffsets n w behind → ⊥)

-- The fault is in a part that comes after this: a rule fails at its beginning, or the fault is in
-- what follows its first node.
pub data FaultIn (kind : Kind) (fault : Fault) : Before → Part → Type 0 where
  here : {before : Before} {at : Part} → fault.place ≡ at.place → Fails kind before at.bytes fault.cause → FaultIn kind fault before at
  further : {before : Before} {at next : Part} (node : Shape) → Begins kind at.bytes node → Contains (parts_behind at node) next
      → FaultIn kind fault (after node) next → FaultIn kind fault before at

-- it is a fault of the bytes
abbrev pub IsFault : Kind → List ℕ → Fault → Type 0
IsFault kind bytes fault = FaultIn kind fault nothing (whole bytes)

-- it is the first fault of the bytes
abbrev pub IsFirstFault : Kind → List ℕ → Fault → Type 0
IsFirstFault kind bytes fault = IsFault kind bytes fault × ((other : Fault) → IsFault kind bytes other → fault.place ≤ other.place)

-- bytes that mean a map have no fault
abbrev pub NoFaultInTrie : Type 0
NoFaultInTrie = (kind : Kind) (bytes : List ℕ) (f : Fault) → IsWellFormed kind bytes → IsFault kind bytes f → ⊥
