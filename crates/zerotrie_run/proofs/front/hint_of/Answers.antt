use Rattle.std.proofs.Common.{◌∙◌, None, subst, sym}
use Rattle.zerotrie_making.specs.Others.{IsOther}
use Rattle.zerotrie_run.proofs.front.hint_of.Goals as goal

pub returns-then-begins_as_text : goal.returns-then-begins_as_text
returns-then-begins_as_text c = (subst (λ front. IsOther front None) c.front_of.ensures c.in-None.ensures, sym c.begins_as_text.ensures ∙ c.if-begins_as_text.true)

pub returns-else-begins_as_text : goal.returns-else-begins_as_text
returns-else-begins_as_text c = (subst (λ front. IsOther front None) c.front_of.ensures c.in-None.ensures, sym c.begins_as_text.ensures ∙ c.if-begins_as_text.false)
