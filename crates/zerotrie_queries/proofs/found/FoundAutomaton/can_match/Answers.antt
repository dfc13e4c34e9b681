use Rattle.zerotrie_queries.proofs.BeginsLemmas.{none_left}
use Rattle.zerotrie_queries.proofs.found.FoundAutomaton.can_match.Goals as goal

pub returns-in-Some : goal.returns-in-Some
returns-in-Some g c dead key =
    let s = c.args.self.now in
    rw c.in-Some.is (none_left s.begins (g.S.Automaton.accepts_from s.word.0) c.in-Some.inner (c.can_match.ensures dead) key)
