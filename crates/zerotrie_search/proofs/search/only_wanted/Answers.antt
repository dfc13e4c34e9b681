use Rattle.std.proofs.Common.{◌≤◌, ◌∙◌, ◌∷◌, ap, arith, length, subst, sym}
use Rattle.zerotrie_search.specs.Sorted.{IsOutside}
use Rattle.zerotrie_search.specs.Trails.{StandsAfter}
use Rattle.zerotrie_search.proofs.SkipLemmas.{left_out}
use Rattle.zerotrie_search.proofs.TrailLemmas.{whole_front}
use Rattle.zerotrie_search.proofs.search.only_wanted.Goals as goal

pub returns-in-Some-clause-left : goal.returns-in-Some-clause-left
returns-in-Some-clause-left g c well =
    let after = g.T.Automaton.IsAfter c.args.automaton.now in
    let from = g.T.Automaton.accepts_from c.args.automaton.now in
    let accepts = g.T.Automaton.accepts c.args.automaton.now in
    let pairs = c.args.pairs.now in
    let set = c.in-Some.wanted in
    let state = c.last_state.result in
    let trail = c.args.trail.now in
    let over = c.if-trail-key.false in
    let long : length pairs.key ≤ length trail = subst (λ k. length k ≤ length trail) c.key.ensures (omega (arith, over)) in
    let stands : StandsAfter after from accepts pairs.key state = subst (λ front. StandsAfter after from accepts front state) (whole_front trail pairs.key c.requires.front long) c.last_state.ensures in
    left_out accepts (IsOutside pairs.key set) pairs.left c.only.new.self.left (λ key out. ap accepts out.4 ∙ sym (stands.1 (out.0 ∷ out.1)) ∙ c.in-Some.ensures out.0 out.2 out.3 out.1) (c.only.ensures.left well)
