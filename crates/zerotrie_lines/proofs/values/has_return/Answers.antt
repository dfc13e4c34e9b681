use Rattle.std.proofs.Common.{sym, ◌∙◌, ap}
use Rattle.zerotrie_lines.specs.Faults.{has_return}
use Rattle.zerotrie_lines.proofs.EndLemmas.{last_is_return}
use Rattle.zerotrie_lines.proofs.values.has_return.Goals as goal

pub returns-in-Some : goal.returns-in-Some
returns-in-Some c = sym (ap has_return c.in-Some.ensures.cases.0 ∙ last_is_return c.in-Some.field-0-1.now c.in-Some.last.now)
