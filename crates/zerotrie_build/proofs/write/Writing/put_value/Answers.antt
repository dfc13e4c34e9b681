use Rattle.std.proofs.Common.{refl, inl, arith}
use Rattle.zerotrie_base.proofs.CallerLemmas.{spells_spelled}
use Rattle.zerotrie_build.proofs.write.Writing.put_value.Goals as goal

pub returns-clause-spells : goal.returns-clause-spells
returns-clause-spells g c = spells_spelled 16 4 c.args.value (omega arith) (inl refl)
