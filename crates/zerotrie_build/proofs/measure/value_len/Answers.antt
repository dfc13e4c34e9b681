use Rattle.std.proofs.Common.{refl}
use Rattle.zerotrie_base.specs.Numbers.{value_form}
use Rattle.zerotrie_build.proofs.measure.value_len.Goals as goal

pub returns : goal.returns
returns c = c.number_len.ensures.len value_form refl
