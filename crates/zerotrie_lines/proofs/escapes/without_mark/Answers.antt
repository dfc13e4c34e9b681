use Rattle.std.proofs.Common.{sym, ◌∙◌}
use Rattle.zerotrie_lines.proofs.EndLemmas.{mark_off, no_mark}
use Rattle.zerotrie_lines.proofs.escapes.without_mark.Goals as goal

pub returns-then-has_mark : goal.returns-then-has_mark
returns-then-has_mark c = c.split_at.ensures.back ∙ mark_off c.args.input.now (sym c.has_mark.ensures ∙ c.if-has_mark.true)

pub returns-else-has_mark : goal.returns-else-has_mark
returns-else-has_mark c = sym (no_mark c.args.input.now (sym c.has_mark.ensures ∙ c.if-has_mark.false))
