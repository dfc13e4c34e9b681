use Rattle.std.proofs.Common.{arith, refl}
use Rattle.std.proofs.lemmas.Bool.{eqb-true, eqb-false}
use Rattle.std.specs.Option.{option_map}
use Rattle.std.specs.Prelude.{◌≡◌, ◌≤◌, ◌∷◌, ◌++◌, ℕ, IfSome}
use Rattle.zerotrie_core.specs.Places.{IsProbe, ListsAt}
use Rattle.zerotrie_core.specs.cursor.Edges.{ListsInside, LiesBehind, place_along}
use Rattle.zerotrie_core.proofs.Chosen.{chosen}
use Rattle.zerotrie_core.proofs.CursorLemmas.Calls.{inside_number, inside_past_number}
use Rattle.zerotrie_core.proofs.CursorLemmas.Parts.{lies_run}
use Rattle.zerotrie_core.proofs.edges.run_edge_numbered.Goals as goal

pub returns-clause-probe : goal.returns-clause-probe
returns-clause-probe c kind =
    let run = c.args.run.now in
    let trie = c.args.trie.now in
    let edge = c.in_ok-edge.edge.now in
    let more = c.in_ok-edge.run'.now in
    let is = c.in_ok-edge.ensures.cases.0 in
    chosen (λ r. IsProbe (ListsInside kind run trie) c.args.index (option_map {U = ℕ × ℕ} (λ r. (r.0.edge, r.1)) r) (ListsAt kind (place_along (option_map (λ r. r.0) r)))) _ _ c.then_some.result c.then_some.ensures
    (λ yes. inside_number kind edge run more trie is c.args.index (eqb-true _ _ yes))
    (λ no. inside_past_number kind edge run more trie is c.args.index (eqb-false _ _ no))

pub returns-clause-run : goal.returns-clause-run
returns-clause-run c =
    chosen (λ r. IfSome r (λ r. (c.args.run.now ≡ r.0.edge ∷ r.0.run.now) × (r.0.trie.now ≡ c.args.trie.now))) _ _ c.then_some.result c.then_some.ensures
    (λ yes. (c.in_ok-edge.ensures.cases.0, refl)) (λ no. tt)

pub returns-clause-few : goal.returns-clause-few
returns-clause-few c = chosen (λ r. IfSome r (λ r. r.1 ≤ 256)) _ _ c.then_some.result c.then_some.ensures (λ yes. omega arith) (λ no. tt)

pub returns-clause-lies : goal.returns-clause-lies
returns-clause-lies c =
    chosen (λ r. LiesBehind (c.args.run.now ++ c.args.trie.now) (option_map (λ r. r.0) r)) _ _ c.then_some.result c.then_some.ensures
    (λ yes. lies_run c.in_ok-edge.edge.now c.args.run.now c.in_ok-edge.run'.now c.args.trie.now c.in_ok-edge.ensures.cases.0) (λ no. tt)
