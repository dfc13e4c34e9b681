use Rattle.std.proofs.Common.{length, ap, sym, ◌∙◌}
use Rattle.std.proofs.lemmas.Bool.{eqb-true, eq-eqb}
use Rattle.std.proofs.lemmas.List.{nil_from_length}
use Rattle.zerotrie_core.proofs.CursorLemmas.Calls.{at_nowhere, tells_empty}
use Rattle.zerotrie_core.proofs.span_cursor.SpanCursor.is_empty.Goals as goal

pub returns-then-is_empty-clause-pairs : goal.returns-then-is_empty-clause-pairs
returns-then-is_empty-clause-pairs c kind pairs lists =
    let view = c.self.view_is in
    let run = nil_from_length c.self.inside.run.now (eqb-true _ _ (sym c.is_empty.ensures ∙ c.if-is_empty.true)) in
    tells_empty kind c.args.self.now pairs lists c.is_empty-then-is_empty.result
    (λ t. at_nowhere c.args.self.now (ap (λ p. p.run) (sym view) ∙ run)
    (ap (λ p. p.trie) (sym view) ∙ nil_from_length c.self.inside.trie.now (eqb-true _ _ (sym c.is_empty-then-is_empty.ensures ∙ t))))
    (λ e. c.is_empty-then-is_empty.ensures ∙ eq-eqb (length c.self.inside.trie.now) 0 (ap (λ p. length p.trie) (view ∙ e)))

pub returns-else-is_empty-clause-pairs : goal.returns-else-is_empty-clause-pairs
returns-else-is_empty-clause-pairs c kind pairs lists =
    let full = c.if-is_empty.false in
    tells_empty kind c.args.self.now pairs lists c.is_empty.result
    (λ t. absurd (cc))
    (λ e. c.is_empty.ensures ∙ eq-eqb (length c.self.inside.run.now) 0 (ap (λ p. length p.run) (c.self.view_is ∙ e)))
