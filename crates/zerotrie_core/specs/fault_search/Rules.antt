-- What is known of a part whose first node keeps the rules.
use Rattle.std.specs.Prelude.{◌≡◌, ◌≢◌, List, [], ℕ, Option, Some, None}
use Rattle.zerotrie_base.specs.Kind.{Kind}
use Rattle.zerotrie_base.specs.Texts.{AreHigh}
use Rattle.zerotrie_base.specs.Nodes.{Shape, Begins}
use Rattle.zerotrie_base.specs.Nodes.Shape.{value, literal, span, branch}
use Rattle.zerotrie_core.specs.Faults.{Before, nothing, a_value, a_span, a_byte, Fails, FaultCause}
use Rattle.zerotrie_core.specs.well_formed.Branching.{HasFront, InOrder}
use Rattle.zerotrie_core.specs.well_formed.Testing.{IsAllowed}
use Rattle.zerotrie_core.specs.walk.Visits.{Part, parts_behind}
use Rattle.zerotrie_core.specs.declared.well_formed.Expected.{Expected}
use Rattle.zerotrie_core.specs.declared.well_formed.Expected.TheVariants.{Anything, NoValue, NoSpan, Something}

-- what is before bytes if this may come next
abbrev pub before_of : Expected → Before
before_of Anything = nothing
before_of NoValue = a_value
before_of NoSpan = a_span
before_of Something = a_byte

-- what may come after a node
abbrev pub expected_after : Shape → Expected
expected_after (value v rest) = NoValue
expected_after (literal b rest) = Something
expected_after (span run rest) = NoSpan
expected_after (branch n w table behind) = Something

-- the rule fails for whichever bytes begin with the node
abbrev pub AlwaysFails : Kind → Before → Shape → FaultCause → Type 0
AlwaysFails kind before node cause = (bytes : List ℕ) → Begins kind bytes node → Fails kind before bytes cause

-- a node keeps the rules where this may come
abbrev pub Keeps : Kind → Expected → Shape → Type 0
Keeps kind expected (value v rest) = expected ≢ NoValue
Keeps kind expected (literal b rest) = Unit {0}
Keeps kind expected (span run rest) = (expected ≢ NoSpan) × (run ≢ []) × AreHigh run
Keeps kind expected (branch n w table behind) = HasFront kind n w table behind × InOrder n w behind n

-- bytes keep the rules at their beginning: by their first node, or they are empty and may end there
abbrev pub KeepsFirst : Kind → Expected → List ℕ → Option Shape → Type 0
KeepsFirst kind expected bytes None = (bytes ≡ []) × IsAllowed expected []
KeepsFirst kind expected bytes (Some node) = Keeps kind expected node

-- the parts after the first node, and what may begin the first of them; without a node, what may
-- begin the next part
abbrev pub parts_next : Part → Option Shape → List Part
parts_next at None = []
parts_next at (Some node) = parts_behind at node

abbrev pub expected_next : Option Shape → Expected
expected_next None = Something
expected_next (Some node) = expected_after node
