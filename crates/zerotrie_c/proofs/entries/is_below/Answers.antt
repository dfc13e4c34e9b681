use Rattle.std.proofs.Common.{◌∙◌, sym}
use Rattle.zerotrie_c.proofs.FrontLemmas.{first_below, below_first}
use Rattle.zerotrie_c.proofs.entries.is_below.Goals as goal

pub returns-in-Some : goal.returns-in-Some
returns-in-Some c = (
  λ t. first_below c.args.row.now.entries _ c.args.suffix.now c.in-Some.ensures.first (sym c.lt.ensures ∙ t),
  λ above. c.lt.ensures ∙ below_first c.args.row.now.entries _ c.args.suffix.now c.in-Some.ensures.first above,
)
