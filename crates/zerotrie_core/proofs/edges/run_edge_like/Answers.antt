use Rattle.std.proofs.Common.{sym, ◌∙◌, refl}
use Rattle.std.proofs.lemmas.Bool.{eqb-true, eqb-false}
use Rattle.std.specs.Option.{option_map}
use Rattle.std.specs.Prelude.{◌≡◌, ◌∷◌, ◌++◌, IfSome}
use Rattle.zerotrie_core.specs.Places.{IsStep, ListsAt}
use Rattle.zerotrie_core.specs.cursor.Edges.{ListsInside, LiesBehind, place_along}
use Rattle.zerotrie_core.proofs.Chosen.{chosen}
use Rattle.zerotrie_core.proofs.CursorLemmas.Calls.{inside_along, inside_past}
use Rattle.zerotrie_core.proofs.CursorLemmas.Parts.{lies_run}
use Rattle.zerotrie_core.proofs.edges.run_edge_like.Goals as goal

pub returns-clause-step : goal.returns-clause-step
returns-clause-step g c =
    let kind = g.K.ZeroTrieWithOptions.kind in
    let run = c.args.run.now in
    let trie = c.args.trie.now in
    let edge = c.in_ok-edge.edge.now in
    let more = c.in_ok-edge.run'.now in
    let is = c.in_ok-edge.ensures.cases.0 in
    chosen (λ r. IsStep kind (ListsInside kind run trie) c.args.byte (option_map (λ a. a.edge) r) (ListsAt kind (place_along r))) _ _ c.then_some.result c.then_some.ensures
    (λ yes. inside_along kind edge run more trie is c.args.byte (sym c.folded.ensures ∙ eqb-true _ _ yes ∙ c.folded-2.ensures))
    (λ no. inside_past kind edge run more trie is c.args.byte (λ e. eqb-false _ _ no (c.folded.ensures ∙ e ∙ sym c.folded-2.ensures)))

pub returns-clause-run : goal.returns-clause-run
returns-clause-run g c =
    chosen (λ r. IfSome r (λ a. (c.args.run.now ≡ a.edge ∷ a.run.now) × (a.trie.now ≡ c.args.trie.now))) _ _ c.then_some.result c.then_some.ensures
    (λ yes. (c.in_ok-edge.ensures.cases.0, refl)) (λ no. tt)

pub returns-clause-lies : goal.returns-clause-lies
returns-clause-lies g c =
    chosen (LiesBehind (c.args.run.now ++ c.args.trie.now)) _ _ c.then_some.result c.then_some.ensures
    (λ yes. lies_run c.in_ok-edge.edge.now c.args.run.now c.in_ok-edge.run'.now c.args.trie.now c.in_ok-edge.ensures.cases.0) (λ no. tt)
