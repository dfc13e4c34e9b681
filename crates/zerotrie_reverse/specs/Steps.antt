-- What the parts of a descent are in the terms of its definition.
use Rattle.zerotrie_core.specs.declared.branch.Branch as branches
use Rattle.zerotrie_reverse.specs.Descent.{Row, Passed}
use Rattle.zerotrie_reverse.specs.declared.descent.Passed as passed

abbrev pub row_of : branches.Branch → Row
row_of b = record { edges = b.edges; width = b.width; behind = b.behind.now }

abbrev pub passed_of : passed.Passed → Passed
passed_of p = record { run = p.run.now; size = p.size }
