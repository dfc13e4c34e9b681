use Rattle.std.proofs.Common.{refl, inl, ◌∙◌, arith}
use Rattle.zerotrie_base.proofs.CallerLemmas.{spells_spelled}
use Rattle.zerotrie_build.proofs.ArrayLemmas.Text.{puts_same}
use Rattle.zerotrie_build.proofs.array.text.Text.put_value.Goals as goal

pub returns-clause-puts : goal.returns-clause-puts
returns-clause-puts c = puts_same _ _ _ _ (c.deref.ensures.0 ∙ c.number_bytes.ensures) c.put_all.ensures

pub returns-clause-spells : goal.returns-clause-spells
returns-clause-spells c = spells_spelled 16 4 c.args.value (omega arith) (inl refl)
