use Rattle.std.proofs.Common.{◌∙◌}
use Rattle.zerotrie_base.specs.Kinds.{kind_of}
use Rattle.zerotrie_search.proofs.EndLemmas.{begins_by_here}
use Rattle.zerotrie_search.proofs.prefix.KindPrefixAutomaton.is_match.Goals as goal

pub returns-in-Some : goal.returns-in-Some
returns-in-Some c = rw c.in-Some.is (c.is_empty.ensures ∙ begins_by_here (kind_of c.args.self.now.kind) c.in-Some.left.now)
