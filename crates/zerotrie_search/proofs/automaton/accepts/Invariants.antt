use Rattle.std.proofs.Common.{◌≡◌, ℕ, List, length}
use Rattle.zerotrie_search.proofs.automaton.accepts.Given as goal

abbrev pub invariant-loop-byte : goal.invariant-loop-byte
invariant-loop-byte g l = record {
  after : (front : List ℕ) × g.T.Automaton.IsAfter l.automaton front l.state;
  is : g.T.Automaton.accepts_from l.automaton l.state l.left ≡ g.T.Automaton.accepts l.automaton l.key;
}

abbrev pub decreases-loop-byte : goal.decreases-loop-byte
decreases-loop-byte g l = length l.left
