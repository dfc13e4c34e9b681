use Rattle.std.proofs.Common.{ap, sym, ◌∙◌, length}
use Rattle.std.proofs.lemmas.Bool.{eqb-false}
use Rattle.zerotrie_core.proofs.CursorLemmas.Calls.{inside_take}
use Rattle.zerotrie_core.proofs.span_cursor.SpanCursor.take_value.Goals as goal

pub returns-else-is_empty-clause-meaning : goal.returns-else-is_empty-clause-meaning
returns-else-is_empty-clause-meaning c kind =
    inside_take kind c.args.self.now (λ e. eqb-false _ _ (sym c.is_empty.ensures ∙ c.if-is_empty.false) (ap (λ p. length p.run) c.self.view_is ∙ ap length e))
