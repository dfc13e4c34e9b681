use Rattle.std.proofs.Common.{◌≡◌, ◌∙◌, ◌∷◌, ◌++◌, [], ap, sym, subst}
use Rattle.zerotrie_search.specs.Trails.{IsTrail, StandsAfter, trail_bytes}
use Rattle.zerotrie_search.proofs.TrailLemmas.{trail_last, bytes_append}
use Rattle.zerotrie_search.proofs.trail.last_state.Goals as goal

pub returns-in-Some : goal.returns-in-Some
returns-in-Some g c =
    let st = g.T.Automaton.IsAfter c.args.automaton.now in
    let go = g.T.Automaton.accepts_from c.args.automaton.now in
    let acc = g.T.Automaton.accepts c.args.automaton.now in
    let front = c.in-Some._front.now in
    let e = c.in-Some.last.now in
    let is : c.args.trail.now ≡ front ++ e ∷ [] = c.in-Some.ensures.cases.0 in
    subst (λ bs. StandsAfter st go acc bs e.1) (sym (ap trail_bytes is ∙ bytes_append front (e ∷ []))) (trail_last st go acc [] front e.0 e.1 (subst (IsTrail st go acc []) is c.requires))
