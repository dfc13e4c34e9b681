use Rattle.std.proofs.Common.{◌∙◌, sym}
use Rattle.zerotrie_base.specs.Kind.{kind_with}
use Rattle.zerotrie_core.specs.Shapes.{shape}
use Rattle.zerotrie_core.proofs.WalkLemmas.Visits.{left_none, left_node}
use Rattle.zerotrie_core.proofs.walk.next_of.Goals as goal

pub loop-part-preserved : goal.loop-part-preserved
loop-part-preserved g c =
    sym (left_none (kind_with c.args.options) c.loop-part.parts.items c.pop.new.self.items c.in-Some.part c.in-Some.ensures.items c.in_default-read_node.ensures) ∙ c.loop-part.invariant

pub returns-in-Some : goal.returns-in-Some
returns-in-Some g c =
    sym c.loop-part.invariant
    ∙ left_node (kind_with c.args.options) c.loop-part.parts.items c.pop.new.self.items c.push_behind.new.parts.items c.in-Some.part (shape c.in-Some-read_node.node)
    c.in-Some.ensures.items c.in-Some-read_node.ensures c.in_default-push_behind.ensures
