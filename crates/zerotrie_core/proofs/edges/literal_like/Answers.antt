use Rattle.std.proofs.Common.{sym, ◌∙◌}
use Rattle.std.proofs.lemmas.Bool.{eqb-true, eqb-false}
use Rattle.std.specs.Prelude.{◌≡◌, [], IfSome}
use Rattle.zerotrie_core.specs.cursor.Edges.{StepsFrom, LiesBehind}
use Rattle.zerotrie_core.proofs.Chosen.{chosen}
use Rattle.zerotrie_core.proofs.CursorLemmas.Calls.{literal_along, literal_past}
use Rattle.zerotrie_base.specs.Nodes.Shape.{literal}
use Rattle.zerotrie_core.proofs.CursorLemmas.Parts.{lies_whole}
use Rattle.zerotrie_core.proofs.edges.literal_like.Goals as goal

pub returns-clause-step : goal.returns-clause-step
returns-clause-step g c =
    let kind = g.K.ZeroTrieWithOptions.kind in
    let a = c.plain.ensures in
    let edge = c.args.edge in
    let trie = c.args.trie.now in
    chosen (StepsFrom kind (literal edge trie) c.args.byte) _ _ c.then_some.result c.then_some.ensures
    (λ yes bytes begins. rw (a.edge, a.run, a.trie) (literal_along kind bytes edge trie begins c.args.byte (sym c.folded.ensures ∙ eqb-true _ _ yes ∙ c.folded-2.ensures)))
    (λ no bytes begins. literal_past kind bytes edge trie begins c.args.byte (λ e. eqb-false _ _ no (c.folded.ensures ∙ e ∙ sym c.folded-2.ensures)))

pub returns-clause-run : goal.returns-clause-run
returns-clause-run g c = chosen (λ r. IfSome r (λ a. a.run.now ≡ [])) _ _ c.then_some.result c.then_some.ensures (λ yes. c.plain.ensures.run) (λ no. tt)

pub returns-clause-lies : goal.returns-clause-lies
returns-clause-lies g c =
    let a = c.plain.ensures in
    chosen (LiesBehind c.args.trie.now) _ _ c.then_some.result c.then_some.ensures
    (λ yes. lies_whole c.args.trie.now c.plain.result.run.now c.plain.result.trie.now c.plain.result.after a.run a.trie a.after) (λ no. tt)
