use Rattle.std.proofs.Common.{◌∙◌}
use Rattle.zerotrie_search.proofs.EndLemmas.{from_here, not_from_here}
use Rattle.zerotrie_search.proofs.range.may_end_from.Goals as goal

pub returns-in-Included : goal.returns-in-Included
returns-in-Included c = rw c.in-Included.is (c.is_empty.ensures ∙ from_here c.in-Included.bytes.now)

pub returns-in-Excluded : goal.returns-in-Excluded
returns-in-Excluded c = rw c.in-Excluded.is (not_from_here c.in-Excluded._bytes.now)
