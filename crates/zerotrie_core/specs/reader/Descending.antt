-- What a look-up does at a node.
use Rattle.std.specs.Prelude.{ℕ, ◌+◌, ◌<◌, ◌≤◌, List, length, Option}
use Rattle.zerotrie_base.specs.Kind.{Kind}
use Rattle.zerotrie_base.specs.Nodes.{Shape, Begins}
use Rattle.zerotrie_base.specs.reader.Reading.{AlwaysFinds, AlwaysComes}
use Rattle.zerotrie_core.specs.declared.reader.Descent.{Descent}
use Rattle.zerotrie_core.specs.declared.reader.Descent.TheVariants.{Answer, Down}

-- it ends there
abbrev pub NodeEnds : Kind → Shape → List ℕ → Option ℕ → Type 0
NodeEnds kind node key answer = (bytes : List ℕ) → Begins kind bytes node → AlwaysFinds kind bytes key answer 1

-- it continues after the node, this many nodes further
abbrev pub NodeGoes : Kind → Shape → List ℕ → List ℕ → List ℕ → ℕ → Type 0
NodeGoes kind node key rest after count =
    (bytes : List ℕ) → Begins kind bytes node
    → (length rest < length bytes) × (length rest + count ≤ length bytes) × AlwaysComes kind bytes key rest after count

-- A result ends the look-up; otherwise it continues in fewer bytes.
abbrev pub Descends : Kind → Shape → List ℕ → Descent → Type 0
Descends kind node key (Answer answer) = NodeEnds kind node key answer
Descends kind node key (Down rest after count) = NodeGoes kind node key rest.now after.now count
