use Rattle.std.proofs.Common.{sym, ap, ◌∙◌, subst}
use Rattle.zerotrie_base.specs.Texts.{Means}
use Rattle.zerotrie_base.specs.Canonical.{enc}
use Rattle.zerotrie_base.proofs.laws.equal_exactly_if_maps_are.Goals as goal

pub returns : goal.returns
returns c kind ascii a b m n of_a of_b = (
  (λ same. c.one_meaning.ensures kind b m n (subst (λ bytes. Means kind bytes m) same of_a) of_b),
  (λ same. c.canonical_exactly.ensures.text kind ascii a m of_a ∙ ap (enc kind) same ∙ sym (c.canonical_exactly.ensures.text kind ascii b n of_b)),
)
