use Rattle.zerotrie_queries.proofs.BeginsLemmas.{from_start}
use Rattle.zerotrie_queries.proofs.found.FoundAutomaton.start.Goals as goal

pub returns-clause-is : goal.returns-clause-is
returns-clause-is g c =
    let s = c.args.self.now in
    from_start s.begins (g.S.Automaton.accepts_from s.word.0) (g.S.Automaton.accepts s.word.0) c.start.result c.start.ensures.is
