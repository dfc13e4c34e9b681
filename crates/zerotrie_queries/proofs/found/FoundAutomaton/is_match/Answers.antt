use Rattle.std.proofs.Common.{◌∙◌}
use Rattle.zerotrie_queries.proofs.BeginsLemmas.{found_here}
use Rattle.zerotrie_queries.proofs.found.FoundAutomaton.is_match.Goals as goal

pub returns : goal.returns
returns g c =
    let s = c.args.self.now in
    c.is_match.ensures ∙ found_here s.begins (g.S.Automaton.accepts_from s.word.0) c.args.state
