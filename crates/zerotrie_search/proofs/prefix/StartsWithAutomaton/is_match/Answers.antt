use Rattle.std.proofs.Common.{◌∙◌}
use Rattle.zerotrie_search.proofs.EndLemmas.{begins_here}
use Rattle.zerotrie_search.proofs.prefix.StartsWithAutomaton.is_match.Goals as goal

pub returns-in-Some : goal.returns-in-Some
returns-in-Some c = rw c.in-Some.is (c.is_empty.ensures ∙ begins_here c.in-Some.left.now)
