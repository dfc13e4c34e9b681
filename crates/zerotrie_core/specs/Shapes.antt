-- The shapes of nodes that were read.
use Rattle.zerotrie_base.specs.Nodes.{Shape}
use Rattle.zerotrie_base.specs.Nodes.Shape.{value, literal, span, branch}
use Rattle.zerotrie_core.specs.declared.branch.Branch as declared
use Rattle.zerotrie_core.specs.declared.node.Node.{Node}
use Rattle.zerotrie_core.specs.declared.node.Node.TheVariants.{Value, Literal, Span, Branch}

abbrev pub branch_shape : declared.Branch → Shape
branch_shape b = branch b.edges b.width b.table.now b.behind.now

abbrev pub shape : Node → Shape
shape (Value v rest) = value v rest.now
shape (Literal b rest) = literal b rest.now
shape (Span run rest) = span run.now rest.now
shape (Branch b) = branch_shape b
