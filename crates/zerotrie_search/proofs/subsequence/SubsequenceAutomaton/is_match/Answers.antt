use Rattle.std.proofs.Common.{◌∙◌}
use Rattle.zerotrie_search.proofs.EndLemmas.{within_here}
use Rattle.zerotrie_search.proofs.subsequence.SubsequenceAutomaton.is_match.Goals as goal

pub returns : goal.returns
returns c = c.is_empty.ensures ∙ within_here c.args.state.now
