use Rattle.std.proofs.lemmas.Bool.{eqb-true, eqb-false}
use Rattle.std.specs.Prelude.{◌≡◌, ◌≤◌, [], IfSome}
use Rattle.std.proofs.Common.{arith}
use Rattle.zerotrie_core.specs.cursor.Edges.{ProbesFrom, LiesBehind}
use Rattle.zerotrie_base.specs.Nodes.Shape.{literal}
use Rattle.zerotrie_core.proofs.Chosen.{chosen}
use Rattle.zerotrie_core.proofs.CursorLemmas.Calls.{literal_number, literal_past_number}
use Rattle.std.specs.Option.{option_map}
use Rattle.zerotrie_core.proofs.CursorLemmas.Parts.{lies_whole}
use Rattle.zerotrie_core.proofs.edges.literal_numbered.Goals as goal

pub returns-clause-probe : goal.returns-clause-probe
returns-clause-probe c kind =
    let a = c.plain.ensures in
    let edge = c.args.edge in
    let trie = c.args.trie.now in
    chosen (ProbesFrom kind (literal edge trie) c.args.index) _ _ c.then_some.result c.then_some.ensures
    (λ yes bytes begins. rw (a.edge, a.run, a.trie) (literal_number kind bytes edge trie begins c.args.index (eqb-true _ _ yes)))
    (λ no bytes begins. literal_past_number kind bytes edge trie begins c.args.index (eqb-false _ _ no))

pub returns-clause-run : goal.returns-clause-run
returns-clause-run c = chosen (λ r. IfSome r (λ r. r.0.run.now ≡ [])) _ _ c.then_some.result c.then_some.ensures (λ yes. c.plain.ensures.run) (λ no. tt)

pub returns-clause-few : goal.returns-clause-few
returns-clause-few c = chosen (λ r. IfSome r (λ r. r.1 ≤ 256)) _ _ c.then_some.result c.then_some.ensures (λ yes. omega arith) (λ no. tt)

pub returns-clause-lies : goal.returns-clause-lies
returns-clause-lies c =
    let a = c.plain.ensures in
    chosen (λ r. LiesBehind c.args.trie.now (option_map (λ r. r.0) r)) _ _ c.then_some.result c.then_some.ensures
    (λ yes. lies_whole c.args.trie.now c.plain.result.run.now c.plain.result.trie.now c.plain.result.after a.run a.trie a.after) (λ no. tt)
