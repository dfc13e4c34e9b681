use Rattle.std.proofs.Common.{◌≡◌, length}
use Rattle.zerotrie_base.specs.Kind.{kind_with}
use Rattle.zerotrie_core.specs.walk.Seen.{visits_left}
use Rattle.zerotrie_core.proofs.walk.next_of.Given as goal

abbrev pub invariant-loop-part : goal.invariant-loop-part
invariant-loop-part g l = visits_left (kind_with l.options) l.parts.items ≡ visits_left (kind_with l.options) l.initial.parts.items

abbrev pub decreases-loop-part : goal.decreases-loop-part
decreases-loop-part g l = length l.parts.items
