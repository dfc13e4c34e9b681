use Rattle.zerotrie_search.proofs.EndLemmas.{no_front}
use Rattle.zerotrie_search.proofs.beginning.BeginsWithAutomaton.can_match.Goals as goal

pub returns-in-Some : goal.returns-in-Some
returns-in-Some g c dead key =
    rw c.in-Some.is (no_front (g.S.Automaton.accepts_from c.args.self.now.0 c.in-Some.inner) (c.can_match.ensures dead) key)
